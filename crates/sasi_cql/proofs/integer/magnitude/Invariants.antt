use Rattle.std.proofs.Common.{◌≡◌, ◌≤◌, ◌^◌, drop}
use Rattle.sasi_model.specs.Tokens.{digits_value}
use Rattle.sasi_model.specs.Abbreviations.{digits_value_on}
use Rattle.sasi_cql.proofs.integer.magnitude.Given as goal

abbrev pub invariant-digits : goal.invariant-digits
invariant-digits l = (digits_value l.digits ≡ digits_value_on l.value (drop l.digit-index l.digits)) × (l.value ≤ 2 ^ 127)
