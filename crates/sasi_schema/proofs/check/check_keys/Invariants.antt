use Rattle.std.proofs.Common.{◌≡◌, drop}
use Rattle.sasi_model.specs.Abbreviations.{first_refusal}
use Rattle.sasi_schema.specs.Checks.{key_rules}
use Rattle.sasi_schema.proofs.check.check_keys.Given as goal

-- the keys so far are columns
abbrev pub invariant-loop-key : goal.invariant-loop-key
invariant-loop-key l = first_refusal (key_rules l.columns l.keys) ≡ first_refusal (key_rules l.columns (drop l.key-index l.keys))
