use Rattle.std.proofs.Common.{◌≡◌, [], map, take, drop}
use Rattle.sasi_model.specs.Abbreviations.{first_refusal}
use Rattle.sasi_model.specs.Refusals.{option_rules}
use Rattle.sasi_schema.proofs.index_check.check_options.Given as goal

-- the options so far are allowed, and none stands twice
abbrev pub invariant-loop-i : goal.invariant-loop-i
invariant-loop-i l = first_refusal (option_rules l.kind l.class [] l.options) ≡ first_refusal (option_rules l.kind l.class (map (λ option. option.0) (take l.i l.options)) (drop l.i l.options))
