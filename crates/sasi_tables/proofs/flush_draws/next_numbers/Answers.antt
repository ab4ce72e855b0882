use Rattle.std.proofs.Common.{ℕ, ◌+◌, refl, sym, ap, ◌∙◌, arith}
use Rattle.sasi_tables.proofs.DrawnParts.{log_spent, none_spent, part_spent}
use Rattle.sasi_tables.proofs.flush_draws.next_numbers.Goals as goal

pub returns-in_default-part_after-clause-spent : goal.returns-in_default-part_after-clause-spent
returns-in_default-part_after-clause-spent c parts many = part_spent c.args.numbers c.args.count c.in-Some.ensures.left c.part_after.ensures.small c.in_default-part_after.ensures.none parts many

pub returns-in_default-next_number-clause-spent : goal.returns-in_default-next_number-clause-spent
returns-in_default-next_number-clause-spent c parts many = log_spent c.args.numbers c.args.count c.in-Some.ensures.left c.in-Some-part_after.ensures.fits c.in_default-next_number.ensures.none parts many

pub returns-clause-next : goal.returns-clause-next
returns-clause-next c parts many = record {
  file = c.in-Some.ensures.some;
  log = c.in-Some-next_number.ensures.some;
  manifest = refl;
  index = refl;
  part = c.in-Some-part_after.ensures.some ∙ ap (λ (n : ℕ). c.args.numbers.part + n) (sym many);
  unspent = none_spent c.args.numbers c.args.count c.in-Some.ensures.left c.in-Some-part_after.ensures.fits c.in-Some-next_number.ensures.left parts many;
  file_fits = omega (arith, c.in-Some.ensures.some, c.in-Some.ensures.left);
  log_fits = omega (arith, c.in-Some-next_number.ensures.some, c.in-Some-next_number.ensures.left);
}
