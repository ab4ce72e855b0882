use Rattle.std.proofs.Common.{List, refl, subst, sym}
use Rattle.std.specs.List.{AllByRecursion}
use Rattle.sasi_types.specs.declared.index_def.IndexDef.{IndexDef}
use Rattle.sasi_model.specs.Conditions.{Condition}
use Rattle.sasi_schema.specs.Defined.{definition}
use Rattle.sasi_engine.specs.Asked.{asked_of}
use Rattle.sasi_plan.specs.Plans.{IsAskedOf, IsNumbered}
use Rattle.sasi_plan.proofs.AskedLaws.{all_asked}
use Rattle.sasi_plan.proofs.PlanLaws.{all_numbered}
use Rattle.sasi_plan.proofs.plan.Plan.new.Goals as goal

pub source_of-requires : goal.source_of-requires
source_of-requires g c =
    let t = c.args.table.now in
    subst (λ (defs : List IndexDef). AllByRecursion (IsNumbered defs) (asked_of c.in_ok-query.query.filter)) (sym c.as_slice.ensures)
    (subst (λ (cs : List Condition). AllByRecursion (IsNumbered t.indexes) (asked_of cs)) (sym c.in_ok-query.ensures.filter) (all_numbered (definition t) t.indexes _ refl (all_asked (definition t) c.args.select.now c.requires)))

pub returns-clause-asked : goal.returns-clause-asked
returns-clause-asked g c =
    let t = c.args.table.now in
    subst (λ (cs : List Condition). AllByRecursion (IsAskedOf (definition t)) (asked_of cs)) (sym c.in_ok-query.ensures.filter) (all_asked (definition t) c.args.select.now c.requires)
