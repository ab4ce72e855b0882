-- When the values of fields fit.
use Rattle.std.proofs.Common.{◌≡◌, ◌<◌, ◌≤◌, ◌^◌, ℕ, Bool, true, false, ◌&&◌, Some, refl, ap, ◌∙◌, rules, subst}
use mir.Val.{bits}
use Rattle.std.specs.Int.{Width, to_be_bytes, from_be_bytes}
use Rattle.std.specs.Prelude.{nat_eq, nat_lt, nat_le}
use Rattle.std.specs.Cmp.Lexicographic.{pointwise}
use Rattle.sasi_host.specs.declared.damage.FormatRule.{FormatRule}
use Rattle.sasi_formats.specs.Formats.{Format, Fits}
use Rattle.std.specs.Bool.{then_some}
use Rattle.sasi_formats.specs.Codings.{is_number, when_is}
use Rattle.sasi_formats.specs.Fields.{number, in_range, checked}
use Rattle.sasi_formats.proofs.NumberLaws.{size_put, value_put}

pub both_true : (a b : Bool) → a && b ≡ true → (a ≡ true) × (b ≡ true)
both_true true b h = (refl, h)
both_true false b h = absurd cc

pub when_true : {A : Type 0} (test : Bool) (a : A) → test ≡ true → then_some test a ≡ Some a
when_true true a h = refl
when_true false a h = absurd cc

-- a number fits where it is below the limit of its width
pub number_fits : (width : Width) (n : ℕ) → n < 2 ^ bits width → Fits (number width) n
number_fits width n fits = (size_put width n, value_put width n fits)

pub fits_number : (width : Width) (n : ℕ) → Fits (number width) n → n < 2 ^ bits width
fits_number width n h =
    let is = when_is (is_number width (to_be_bytes width n)) (from_be_bytes width (to_be_bytes width n)) n h.1 in
    let less = (both_true (pointwise nat_eq (to_be_bytes width (from_be_bytes width (to_be_bytes width n))) (to_be_bytes width n)) (nat_lt (from_be_bytes width (to_be_bytes width n)) (2 ^ bits width)) is.0).1 in
    let below : from_be_bytes width (to_be_bytes width n) < 2 ^ bits width = search (rules, less) in
    subst (λ (m : ℕ). m < 2 ^ bits width) is.1 below

-- a checked value fits where it passes the test
pub checked_fits : {A : Type 0} (rule : FormatRule) (seen : ℕ) (test : A → Bool) (format : Format A) (a : A) → Fits format a → test a ≡ true → Fits (checked rule seen test format) a
checked_fits rule seen test format a h passes = (h, when_true (test a) a passes)

pub fits_checked : {A : Type 0} (rule : FormatRule) (seen : ℕ) (test : A → Bool) (format : Format A) (a : A) → Fits (checked rule seen test format) a → Fits format a × (test a ≡ true)
fits_checked rule seen test format a h = (h.0, (when_is (test a) a a h.1).0)

pub range_fits : (width : Width) (least most n : ℕ) → n < 2 ^ bits width → least ≤ n → n ≤ most → Fits (in_range width least most) n
range_fits width least most n fits above below =
    let first : nat_le least n ≡ true = search rules in
    let second : nat_le n most ≡ true = search rules in
    (number_fits width n fits, when_true (nat_le least n && nat_le n most) n (ap (λ (t : Bool). t && nat_le n most) first ∙ second))

pub record IsInRange (width : Width) (least most n : ℕ) : Type 0 where
  pub fits : n < 2 ^ bits width
  pub above : least ≤ n
  pub below : n ≤ most

pub fits_range : (width : Width) (least most n : ℕ) → Fits (in_range width least most) n → IsInRange width least most n
fits_range width least most n h =
    let tests = both_true (nat_le least n) (nat_le n most) (when_is (nat_le least n && nat_le n most) n n h.1).0 in
    record { fits = fits_number width n h.0; above = search (rules, tests.0); below = search (rules, tests.1) }
