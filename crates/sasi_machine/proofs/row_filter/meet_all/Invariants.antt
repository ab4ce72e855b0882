use Rattle.std.proofs.Common.{◌≡◌, map, drop}
use Rattle.sasi_model.specs.Filters.{accepts, where_of}
use Rattle.sasi_machine.specs.Where.{model_condition}
use Rattle.sasi_machine.proofs.row_filter.meet_all.Given as goal

-- the conditions so far hold
abbrev pub invariant-loop-condition : goal.invariant-loop-condition
invariant-loop-condition g l = record {
  met : accepts (where_of (map model_condition l.conditions)) l.key l.part ≡ accepts (where_of (map model_condition (drop l.condition-index l.conditions))) l.key l.part;
  kinds : map (λ b. (goal.Analyzer-dyn g (b.vtable, b.value)).kind b.value) l.kit.objects.items ≡ map (λ b. (goal.Analyzer-dyn g (b.vtable, b.value)).kind b.value) l.fn.kit.objects.items;
}
