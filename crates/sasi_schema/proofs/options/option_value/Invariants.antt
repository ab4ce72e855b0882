use Rattle.std.proofs.Common.{◌≡◌, drop}
use Rattle.sasi_model.specs.Indexes.{option_value}
use Rattle.sasi_schema.proofs.options.option_value.Given as goal

-- the options so far have other names
abbrev pub invariant-loop-option : goal.invariant-loop-option
invariant-loop-option l = option_value l.name l.options ≡ option_value l.name (drop l.option-index l.options)
