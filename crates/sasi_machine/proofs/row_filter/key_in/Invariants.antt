use Rattle.std.proofs.Common.{◌≡◌, map, drop}
use Rattle.sasi_model.specs.Filters.{key_asked}
use Rattle.sasi_machine.specs.Where.{model_condition}
use Rattle.sasi_machine.proofs.row_filter.key_in.Given as goal

-- the conditions so far aren't on the key
abbrev pub invariant-loop-condition : goal.invariant-loop-condition
invariant-loop-condition l = key_asked (map model_condition l.conditions) ≡ key_asked (map model_condition (drop l.condition-index l.conditions))
