use Rattle.std.proofs.Common.{◌∙◌, List, subst, sym}
use Rattle.sasi_engine.specs.declared.relation.IndexedRelation.{IndexedRelation}
use Rattle.sasi_plan.specs.Reading.{IsMadeForTable, TablePrices}
use Rattle.sasi_plan.proofs.ViewLaws.{no_relations, some_relations}
use Rattle.sasi_plan.proofs.plan_candidates.begin_table.Goals as goal

pub returns-then-is_empty-clause-leaves : goal.returns-then-is_empty-clause-leaves
returns-then-is_empty-clause-leaves c w left is made left_is =
    c.begin_scan.ensures.leaves w left is (subst (λ (rs : List IndexedRelation). IsMadeForTable w rs c.args.types c.args.parts.now) (no_relations c.args.relations.now (sym c.is_empty.ensures ∙ c.if-is_empty.true)) made) left_is

pub returns-then-is_empty-clause-pays : goal.returns-then-is_empty-clause-pays
returns-then-is_empty-clause-pays c w most prices is made few =
    c.begin_scan.ensures.pays w most prices is (subst (λ (rs : List IndexedRelation). IsMadeForTable w rs c.args.types c.args.parts.now) (no_relations c.args.relations.now (sym c.is_empty.ensures ∙ c.if-is_empty.true)) made) (subst (λ (rs : List IndexedRelation). TablePrices w rs most prices) (no_relations c.args.relations.now (sym c.is_empty.ensures ∙ c.if-is_empty.true)) few)

pub begin_hits-requires-clause-some : goal.begin_hits-requires-clause-some
begin_hits-requires-clause-some c =
    some_relations c.args.relations.now (sym c.is_empty.ensures ∙ c.if-is_empty.false)
