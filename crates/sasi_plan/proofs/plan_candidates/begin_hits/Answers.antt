use Rattle.std.proofs.Common.{List, inl, subst}
use Rattle.sasi_views.specs.declared.part.Part as view
use Rattle.sasi_engine.specs.Plans.{AreShort}
use Rattle.sasi_plan.proofs.BeginLaws.{hits_world, table_hits}
use Rattle.sasi_plan.proofs.plan_candidates.begin_hits.Goals as goal

pub returns-clause-leaves : goal.returns-clause-leaves
returns-clause-leaves c w left is made left_is =
    rw left_is (c.in_ok-hits.ensures.leaves w (hits_world w c.args.maps.now is c.args.types c.args.parts.now c.args.relations.now c.requires.some made.0 made.1) made.0)

pub returns-clause-pays : goal.returns-clause-pays
returns-clause-pays c w most prices is made few =
    let are = table_hits w c.args.relations.now most prices c.requires.some few in
    rw (are.1, are.2) (c.in_ok-hits.ensures.pays w (hits_world w c.args.maps.now is c.args.types c.args.parts.now c.args.relations.now c.requires.some made.0 made.1) made.0 (subst (λ (vs : List view.Part). AreShort w.folder vs) made.0.listed_are are.0))

pub returns-clause-shows : goal.returns-clause-shows
returns-clause-shows c files damage shows =
    inl (c.in_ok-hits.ensures.shows files damage shows)
