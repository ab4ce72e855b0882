use Rattle.std.proofs.Common.{◌^◌}
use Rattle.sasi_cql.proofs.Lexing.{too_many_digits}
use Rattle.sasi_cql.proofs.integer.magnitude.Goals as goal

pub returns-in_default : goal.returns-in_default
returns-in_default c = too_many_digits (2 ^ 127) c.args.digits.now c.digits.digit-index c.digits.value c.digits-test.true c.digits.invariant.0 (rw c.in_default.is at c.with_digit.ensures)
