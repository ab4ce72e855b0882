use Rattle.std.proofs.Common.{◌≡◌, map, take, drop}
use Rattle.std.specs.List.{AllByRecursion}
use Rattle.sasi_model.specs.Conditions.{condition_of}
use Rattle.sasi_schema.specs.Defined.{definition}
use Rattle.sasi_machine.specs.Operands.{CanAsk}
use Rattle.sasi_machine.specs.Where.{model_condition}
use Rattle.sasi_machine.proofs.conditions.conditions_of.Given as goal

-- the conditions so far, and the relations that are left
abbrev pub invariant-loop-relation : goal.invariant-loop-relation
invariant-loop-relation g l =
    let d = definition l.table in
    record {
      made : map model_condition l.conditions.items ≡ map (condition_of d) (take l.relation-index l.relations);
      left : AllByRecursion (CanAsk d) (drop l.relation-index l.relations);
      kinds : map (λ b. (goal.Analyzer-dyn g (b.vtable, b.value)).kind b.value) l.kit.objects.items ≡ map (λ b. (goal.Analyzer-dyn g (b.vtable, b.value)).kind b.value) l.fn.kit.objects.items;
    }
