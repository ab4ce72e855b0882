-- What LIMIT leaves of a count, candidate by candidate.
use Rattle.std.specs.Prelude.{◌≡◌, if◌then◌else◌, ◌+◌, ◌-◌, ◌^◌, ◌≤◌, ◌<◌, ℕ, zero, suc, min, Bool, true, false, List, [], ◌∷◌, length, Option, None, Some, refl}
use Rattle.std.proofs.Common.{ap, arith, sym, ◌∙◌}
use Rattle.std.specs.List.{filter}
use Rattle.sasi_candidates.specs.Checks.{looked, looked_of}
use Rattle.sasi_machine_layout.specs.Counts.{is_over, one_less}

module _ {A : Type 0} (test : A → Bool) where
  -- one candidate is looked at, and what is allowed behind it
  looked_one : (allowed : Option ℕ) (x : A) (left : List A) → is_over allowed ≡ false → looked allowed test (x ∷ left) ≡ suc (looked (if test x then one_less allowed else allowed) test left)
  looked_one None x left more = elim (test x) as (λ b. suc (length left) ≡ suc (looked (if b then None else None) test left)) [ true ↦ refl | false ↦ refl ]
  looked_one (Some zero) x left more = cc
  looked_one (Some (suc n)) x left more =
      elim (test x) as (λ b. suc (if b then looked_of n test left else looked_of (suc n) test left) ≡ suc (looked (if b then Some n else Some (suc n)) test left)) [ true ↦ refl | false ↦ refl ]

  -- with one that passes, and with one that doesn't
  pub counted_row : (allowed : Option ℕ) (x : A) (left : List A) (n : ℕ) → is_over allowed ≡ false → test x ≡ true → n + looked allowed test (x ∷ left) ≡ (n + 1) + looked (one_less allowed) test left
  counted_row allowed x left n more is =
      let one = looked_one allowed x left more ∙ ap (λ b. suc (looked (if b then one_less allowed else allowed) test left)) is in
      omega (arith, one)

  pub counted_other : (allowed : Option ℕ) (x : A) (left : List A) (n : ℕ) → is_over allowed ≡ false → test x ≡ false → n + looked allowed test (x ∷ left) ≡ (n + 1) + looked allowed test left
  counted_other allowed x left n more is =
      let one = looked_one allowed x left more ∙ ap (λ b. suc (looked (if b then one_less allowed else allowed) test left)) is in
      omega (arith, one)

  -- none is where no further row is allowed
  looked_over : (allowed : Option ℕ) (left : List A) → is_over allowed ≡ true → looked allowed test left ≡ 0
  looked_over None left over = cc
  looked_over (Some zero) left over = refl
  looked_over (Some (suc n)) left over = cc

  -- and never more than there are
  of_within : (n : ℕ) (xs : List A) → looked_of n test xs ≤ length xs
  of_within zero xs = omega arith
  of_within (suc n) [] = omega arith
  of_within (suc n) (x ∷ xs) =
      let row = of_within n xs in
      let other = of_within (suc n) xs in
      elim (test x) as (λ b. suc (if b then looked_of n test xs else looked_of (suc n) test xs) ≤ suc (length xs)) [
        | true ↦ omega (arith, row)
        | false ↦ omega (arith, other)
      ]

  looked_within : (allowed : Option ℕ) (xs : List A) → looked allowed test xs ≤ length xs
  looked_within None xs = omega arith
  looked_within (Some n) xs = of_within n xs

  -- so the count of fewer than 2^63 needs no ceiling
  counted_all : (allowed : Option ℕ) (xs : List A) (n : ℕ) → length xs < 2 ^ 63 → n ≡ looked allowed test xs → n ≡ min (looked allowed test xs) (2 ^ 64 - 1)
  counted_all allowed xs n few is = omega (arith, is, few, looked_within allowed xs)

-- ---- what a filter leaves, item by item

module _ {A : Type 0} (test : A → Bool) where
  pub keys_past : (left : List A) (x : A) (rest : List A) (n total : ℕ) → left ≡ x ∷ rest → test x ≡ false → n + length (filter test left) ≡ total → n + length (filter test rest) ≡ total
  keys_past left x rest n total parts is so_far =
      ap (λ b. n + length (if b then x ∷ filter test rest else filter test rest)) (sym is) ∙ ap (λ (xs : List A). n + length (filter test xs)) (sym parts) ∙ so_far

  pub keys_over : (left : List A) (n total : ℕ) → left ≡ [] → n + length (filter test left) ≡ total → n ≡ total
  keys_over left n total over so_far = (let none = ap (λ (xs : List A). length (filter test xs)) over in omega (arith, so_far, none))

-- a count of items so far, of no more than there are
pub room_past : {A : Type 0} (left : List A) (x : A) (rest : List A) (n most : ℕ) → left ≡ x ∷ rest → n + length left ≤ most → n + length rest ≤ most
room_past left x rest n most parts room = (let one = ap length parts in omega (arith, one, room))

pub room_on : {A : Type 0} (left : List A) (x : A) (rest : List A) (n most : ℕ) → left ≡ x ∷ rest → n + length left ≤ most → (n + 1) + length rest ≤ most
room_on left x rest n most parts room = (let one = ap length parts in omega (arith, one, room))

pub room_more : {A : Type 0} (left : List A) (x : A) (rest : List A) (n most : ℕ) → left ≡ x ∷ rest → n + length left ≤ most → most < 2 ^ 63 → n < 2 ^ 64 - 1
room_more left x rest n most parts room few = (let one = ap length parts in omega (arith, one, room, few))

-- ---- over the keys of a map, of which those that are chosen are looked at

module _ {A : Type 0} (test chosen : A → Bool) where
  pub counting_begun : (limit : Option ℕ) (begun all : List A) → begun ≡ all → 0 + looked limit test (filter chosen begun) ≡ looked limit test (filter chosen all)
  counting_begun limit begun all is = (let same = ap (λ (xs : List A). looked limit test (filter chosen xs)) is in omega (arith, same))

  -- a key that isn't chosen
  pub counted_past : (allowed : Option ℕ) (left : List A) (x : A) (rest : List A) (n total : ℕ) → left ≡ x ∷ rest → chosen x ≡ false → n + looked allowed test (filter chosen left) ≡ total → n + looked allowed test (filter chosen rest) ≡ total
  counted_past allowed left x rest n total parts is so_far =
      ap (λ b. n + looked allowed test (if b then x ∷ filter chosen rest else filter chosen rest)) (sym is) ∙ ap (λ (xs : List A). n + looked allowed test (filter chosen xs)) (sym parts) ∙ so_far

  -- one that is
  pub counted_on : (allowed after : Option ℕ) (left : List A) (x : A) (rest : List A) (n m total : ℕ) → left ≡ x ∷ rest → chosen x ≡ true → ((behind : List A) → n + looked allowed test (x ∷ behind) ≡ m + looked after test behind)
      → n + looked allowed test (filter chosen left) ≡ total → m + looked after test (filter chosen rest) ≡ total
  counted_on allowed after left x rest n m total parts is one so_far =
      sym (one (filter chosen rest)) ∙ ap (λ b. n + looked allowed test (if b then x ∷ filter chosen rest else filter chosen rest)) (sym is)
      ∙ ap (λ (xs : List A). n + looked allowed test (filter chosen xs)) (sym parts) ∙ so_far

-- a filter leaves no more
left_within : {A : Type 0} (test : A → Bool) (xs : List A) → length (filter test xs) ≤ length xs
left_within test [] = omega arith
left_within test (x ∷ xs) =
    let rest = left_within test xs in
    elim (test x) as (λ b. length (if b then x ∷ filter test xs else filter test xs) ≤ suc (length xs)) [
      | true ↦ omega (arith, rest)
      | false ↦ omega (arith, rest)
    ]

module _ {A : Type 0} (test chosen : A → Bool) where
  -- the count at the end of the keys, and where no further row is allowed: it needs no ceiling
  pub counted_end : (limit allowed : Option ℕ) (left all : List A) (n : ℕ) → left ≡ [] → length all < 2 ^ 63 → n + looked allowed test (filter chosen left) ≡ looked limit test (filter chosen all) → n ≡ min (looked limit test (filter chosen all)) (2 ^ 64 - 1)
  counted_end limit allowed left all n over few so_far =
      let none : looked allowed test (filter chosen left) ≡ 0 = ap (λ (xs : List A). looked allowed test (filter chosen xs)) over ∙ none_looked allowed in
      let within = left_within chosen all in
      counted_all test limit (filter chosen all) n (omega (arith, few, within)) (omega (arith, so_far, none))
    where
      none_looked : (allowed : Option ℕ) → looked allowed test [] ≡ 0
      none_looked None = refl
      none_looked (Some zero) = refl
      none_looked (Some (suc n)) = refl

  pub counted_full : (limit allowed : Option ℕ) (left all : List A) (n : ℕ) → is_over allowed ≡ true → length all < 2 ^ 63 → n + looked allowed test (filter chosen left) ≡ looked limit test (filter chosen all) → n ≡ min (looked limit test (filter chosen all)) (2 ^ 64 - 1)
  counted_full limit allowed left all n over few so_far =
      let none = looked_over test allowed (filter chosen left) over in
      let within = left_within chosen all in
      counted_all test limit (filter chosen all) n (omega (arith, few, within)) (omega (arith, so_far, none))
