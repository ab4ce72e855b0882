use Rattle.std.proofs.Common.{◌∙◌, List, subst, sym}
use Rattle.sasi_engine.specs.declared.relation.IndexedRelation.{IndexedRelation}
use Rattle.sasi_plan.specs.Reading.{IsMadeForKey, KeyPrices}
use Rattle.sasi_plan.proofs.ViewLaws.{no_relations, some_relations}
use Rattle.sasi_plan.proofs.plan_candidates.begin_key.Goals as goal

pub returns-then-is_empty-clause-leaves : goal.returns-then-is_empty-clause-leaves
returns-then-is_empty-clause-leaves c w left is made left_is =
    c.begin_look_up.ensures.leaves w left is (subst (λ (rs : List IndexedRelation). IsMadeForKey w c.args.key rs c.args.types c.args.parts.now) (no_relations c.args.relations.now (sym c.is_empty.ensures ∙ c.if-is_empty.true)) made) left_is

pub returns-then-is_empty-clause-pays : goal.returns-then-is_empty-clause-pays
returns-then-is_empty-clause-pays c w most prices is made few =
    c.begin_look_up.ensures.pays w most prices is (subst (λ (rs : List IndexedRelation). IsMadeForKey w c.args.key rs c.args.types c.args.parts.now) (no_relations c.args.relations.now (sym c.is_empty.ensures ∙ c.if-is_empty.true)) made) (subst (λ (rs : List IndexedRelation). KeyPrices w c.args.key rs most prices) (no_relations c.args.relations.now (sym c.is_empty.ensures ∙ c.if-is_empty.true)) few)

pub begin_keyed_hits-requires-clause-some : goal.begin_keyed_hits-requires-clause-some
begin_keyed_hits-requires-clause-some c =
    some_relations c.args.relations.now (sym c.is_empty.ensures ∙ c.if-is_empty.false)
