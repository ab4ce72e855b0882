use Rattle.std.proofs.Common.{◌≡◌, ℕ, ◌<◌, ◌≤◌, ◌^◌, List, [], ◌∷◌, length, get_or, slice_get, zero, suc, Ok, None, refl, sym, ap, ◌∙◌, arith, rules, true, lit<}
use Rattle.std.specs.Int.{IsInRange}
use Rattle.std.specs.Fmt.{decimal}
use Rattle.std.specs.Str.{all_ascii_digits}
use Rattle.std.specs.Str.Parse.{ParsesUnsigned, digits_value}
use Rattle.std.proofs.lemmas.Str.Parse.{IsNumeralModel, numerals_by_value, parse_plain, digit_at}
use Rattle.std.proofs.lemmas.Fmt.{decimal_digit, decimal_is_IsNumeral, decimal_nonempty, decimal-digits_value, first_decimal, parse-decimal}
use Rattle.sasi_names.proofs.name_text.number_of.Goals as goal

own : IsNumeralModel (λ ds. all_ascii_digits ds ≡ true) (digits_value 10)
own = numerals_by_value _ (search rules)

positive : (bs : List ℕ) (n : ℕ) → decimal n ≡ bs → 48 < get_or bs 0 0 → 0 < n
positive bs zero is low =
    let first : get_or (decimal 0) 0 0 ≡ 48 = ap (λ ds. get_or ds 0 0) (decimal_digit 0 (lit< tt)) in
    absurd (omega (arith, first, ap (λ ds. get_or ds 0 0) is))
positive bs (suc n) is low = omega arith

number_shown : (E : Type 0) (bs : List ℕ) (n : ℕ) → ParsesUnsigned {E = E} 32 10 bs (Ok n) → 48 < get_or bs 0 0 → get_or bs 0 0 ≤ 57 → (0 < n) × (bs ≡ decimal n)
number_shown E bs n parsed low high =
    let plain : ((all_ascii_digits bs ≡ true) × (0 < length bs) × (digits_value 10 bs < 2 ^ 32)) × (n ≡ digits_value 10 bs) = parse_plain own {E = E} 32 bs (Ok n) parsed (λ is. omega arith) in
    let shown : decimal (digits_value 10 bs) ≡ bs = decimal-digits_value own bs plain.0.0 plain.0.1 (λ is. absurd (omega arith)) (omega (arith, plain.0.2)) in
    let is : decimal n ≡ bs = ap decimal plain.1 ∙ shown in
    (positive bs n is low, sym is)

pub returns-in-Ok-clause-spelled : goal.returns-in-Ok-clause-spelled
returns-in-Ok-clause-spelled c =
    let first : c.in_ok-first.field-0.now ≡ get_or c.args.text.now 0 0 = c.in_ok-first.ensures.item.3.1 0 ∙ ap (λ bs. get_or bs 0 0) c.as_bytes.ensures.value in
    let low : 48 < get_or c.args.text.now 0 0 = omega (arith, first) in
    let high : get_or c.args.text.now 0 0 ≤ 57 = omega (arith, first) in
    number_shown ℕ c.args.text.now c.in-Ok.number (c.in-Ok.ensures.value.0) low high

-- the first digit of a number above 0
first_from_one : (n : ℕ) → 0 < n → n < 2 ^ 32 → IsInRange 49 57 (get_or (decimal n) 0 0)
first_from_one n some fits =
    let numeral = decimal_is_IsNumeral n (omega (arith, fits)) in
    omega (arith, first_decimal n some (omega (arith, fits)), digit_at (decimal n) 0 numeral.0.1 numeral.0.0)

empty_first : (bs : List ℕ) → None ≡ slice_get bs 0 → length bs ≡ 0
empty_first [] is = refl
empty_first (byte ∷ bs) is = absurd cc

pub returns-in_err-first-clause-complete : goal.returns-in_err-first-clause-complete
returns-in_err-first-clause-complete c = λ number some fits is.
    let none : length c.args.text.now ≡ 0 = empty_first _ (c.in_err-first.ensures.value ∙ ap (λ bs. slice_get bs 0) c.as_bytes.ensures.value) in
    absurd (omega (arith, none, ap length is, decimal_nonempty number (omega (arith, fits))))

pub returns-then-first-lt49-clause-complete : goal.returns-then-first-lt49-clause-complete
returns-then-first-lt49-clause-complete c = λ number some fits is.
    let first : c.in_ok-first.field-0.now ≡ get_or c.args.text.now 0 0 = c.in_ok-first.ensures.item.3.1 0 ∙ ap (λ bs. get_or bs 0 0) c.as_bytes.ensures.value in
    let digit : c.in_ok-first.field-0.now ≡ get_or (decimal number) 0 0 = first ∙ ap (λ bs. get_or bs 0 0) is in
    absurd (omega (arith, c.then-first-lt49.either, digit, first_from_one number some fits))

pub returns-in-Ok-clause-complete : goal.returns-in-Ok-clause-complete
returns-in-Ok-clause-complete c = λ number some fits is.
    let parsed = parse-decimal {E = ℕ} 32 number c.args.text.now (Ok c.in-Ok.number) fits (omega (arith, fits)) is (c.in-Ok.ensures.value.0) in
    cc

pub returns-in-Err-clause-complete : goal.returns-in-Err-clause-complete
returns-in-Err-clause-complete c = λ number some fits is.
    let parsed = parse-decimal 32 number c.args.text.now c.parse.result fits (omega (arith, fits)) is (c.parse.ensures.value.0) in
    absurd cc
