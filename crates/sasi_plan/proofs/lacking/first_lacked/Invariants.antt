use Rattle.std.proofs.Common.{◌≡◌, map, drop}
use Rattle.sasi_machine.specs.Where.{model_condition}
use Rattle.sasi_plan.specs.Lacking.{first_lacked}
use Rattle.sasi_plan.proofs.lacking.first_lacked.Given as goal

-- the conditions so far lack nothing
abbrev pub invariant-loop-condition : goal.invariant-loop-condition
invariant-loop-condition g l =
    let kinds = map (λ b. (goal.Analyzer-dyn g (b.vtable, b.value)).kind b.value) l.kit.objects.items in
    first_lacked kinds (map model_condition (drop l.condition-index l.conditions)) ≡ first_lacked kinds (map model_condition l.conditions)
