use Rattle.std.proofs.Common.{◌∙◌, List, subst, sym}
use Rattle.std.specs.List.{AllByRecursion}
use Rattle.sasi_engine.specs.declared.relation.IndexedRelation.{IndexedRelation}
use Rattle.sasi_engine.specs.Findable.{CanFind, HasWords}
use Rattle.sasi_plan.specs.declared.plan.PlanSource.{PlanSource}
use Rattle.sasi_plan.specs.Reading.{IsMadeFor, IsMadeForKey, IsMadeForTable, KeyPrices, PendingReady, PricesOf, TablePrices}
use Rattle.sasi_plan.proofs.CandidateLaws.{no_candidates}
use Rattle.sasi_plan.proofs.plan_candidates.begin.Goals as goal

pub returns-in-Nothing-clause-leaves : goal.returns-in-Nothing-clause-leaves
returns-in-Nothing-clause-leaves c w left is made left_is =
    let of = subst (λ (s : PlanSource). IsMadeFor w s c.args.pending.types c.args.parts.now) c.in-Nothing.is made in
    left_is ∙ no_candidates w.parts w.conditions of.0 of.1 of.2

pub begin_key-requires-clause-words : goal.begin_key-requires-clause-words
begin_key-requires-clause-words c =
    subst (λ (rs : List IndexedRelation). AllByRecursion HasWords rs) (sym c.deref.ensures.value) (subst (λ (s : PlanSource). PendingReady s c.args.parts.now c.args.maps.now) c.in-OfKey.is c.requires).0

pub begin_key-requires-clause-maps : goal.begin_key-requires-clause-maps
begin_key-requires-clause-maps c =
    subst (λ (rs : List IndexedRelation). AllByRecursion (CanFind c.args.maps.now rs) c.args.parts.now) (sym c.deref.ensures.value) (subst (λ (s : PlanSource). PendingReady s c.args.parts.now c.args.maps.now) c.in-OfKey.is c.requires).1

pub returns-in_ok-made-in-OfKey-clause-leaves : goal.returns-in_ok-made-in-OfKey-clause-leaves
returns-in_ok-made-in-OfKey-clause-leaves c w left is made left_is =
    c.in_ok-made-in-OfKey.ensures.leaves w left is (subst (λ (rs : List IndexedRelation). IsMadeForKey w c.in-OfKey.key rs c.args.pending.types c.args.parts.now) (sym c.deref.ensures.value) (subst (λ (s : PlanSource). IsMadeFor w s c.args.pending.types c.args.parts.now) c.in-OfKey.is made)) left_is

pub returns-in_ok-made-in-OfKey-clause-pays : goal.returns-in_ok-made-in-OfKey-clause-pays
returns-in_ok-made-in-OfKey-clause-pays c w most prices is made few =
    c.in_ok-made-in-OfKey.ensures.pays w most prices is (subst (λ (rs : List IndexedRelation). IsMadeForKey w c.in-OfKey.key rs c.args.pending.types c.args.parts.now) (sym c.deref.ensures.value) (subst (λ (s : PlanSource). IsMadeFor w s c.args.pending.types c.args.parts.now) c.in-OfKey.is made)) (subst (λ (rs : List IndexedRelation). KeyPrices w c.in-OfKey.key rs most prices) (sym c.deref.ensures.value) (subst (λ (s : PlanSource). PricesOf w s most prices) c.in-OfKey.is few))

pub begin_table-requires-clause-words : goal.begin_table-requires-clause-words
begin_table-requires-clause-words c =
    subst (λ (rs : List IndexedRelation). AllByRecursion HasWords rs) (sym c.deref-in-OfTable.ensures.value) (subst (λ (s : PlanSource). PendingReady s c.args.parts.now c.args.maps.now) c.in-OfTable.is c.requires).0

pub begin_table-requires-clause-maps : goal.begin_table-requires-clause-maps
begin_table-requires-clause-maps c =
    subst (λ (rs : List IndexedRelation). AllByRecursion (CanFind c.args.maps.now rs) c.args.parts.now) (sym c.deref-in-OfTable.ensures.value) (subst (λ (s : PlanSource). PendingReady s c.args.parts.now c.args.maps.now) c.in-OfTable.is c.requires).1

pub returns-in_ok-made-in-OfTable-clause-leaves : goal.returns-in_ok-made-in-OfTable-clause-leaves
returns-in_ok-made-in-OfTable-clause-leaves c w left is made left_is =
    c.in_ok-made-in-OfTable.ensures.leaves w left is (subst (λ (rs : List IndexedRelation). IsMadeForTable w rs c.args.pending.types c.args.parts.now) (sym c.deref-in-OfTable.ensures.value) (subst (λ (s : PlanSource). IsMadeFor w s c.args.pending.types c.args.parts.now) c.in-OfTable.is made)) left_is

pub returns-in_ok-made-in-OfTable-clause-pays : goal.returns-in_ok-made-in-OfTable-clause-pays
returns-in_ok-made-in-OfTable-clause-pays c w most prices is made few =
    c.in_ok-made-in-OfTable.ensures.pays w most prices is (subst (λ (rs : List IndexedRelation). IsMadeForTable w rs c.args.pending.types c.args.parts.now) (sym c.deref-in-OfTable.ensures.value) (subst (λ (s : PlanSource). IsMadeFor w s c.args.pending.types c.args.parts.now) c.in-OfTable.is made)) (subst (λ (rs : List IndexedRelation). TablePrices w rs most prices) (sym c.deref-in-OfTable.ensures.value) (subst (λ (s : PlanSource). PricesOf w s most prices) c.in-OfTable.is few))
