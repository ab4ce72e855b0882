-- For callers: the step of a reader to the next row, and how many candidates it looked at where it has none.
use Rattle.std.proofs.Common.{◌≡◌, ℕ, zero, suc, ◌+◌, ◌-◌, Bool, true, false, cond, if◌then◌else◌, List, [], ◌∷◌, ◌++◌, length, drop, Option, None, Some, refl, sym, ap, ◌∙◌, ⊎_elim, arith, length-append}
use Rattle.std.specs.List.{filter, AllByRecursion}
use Rattle.sasi_model.specs.Filters.{Allows}
use Rattle.sasi_candidates.specs.Checks.{looked, looked_of}
use Rattle.sasi_candidates.specs.Reading.{IsAt, IsNext, IsOver, left_after}

one_more : {A : Type 0} (n : ℕ) (test : A → Bool) (xs : List A) → left_after (suc n) test xs ≡ left_after 1 test (left_after n test xs)
one_more zero test xs = refl
one_more (suc n) test [] = refl
one_more (suc n) test (x ∷ xs) = by (test x) (one_more n test xs) (one_more (suc n) test xs)
  where
    by : (t : Bool) → left_after (suc n) test xs ≡ left_after 1 test (left_after n test xs) → left_after (suc (suc n)) test xs ≡ left_after 1 test (left_after (suc n) test xs)
        → left_after (if t then suc n else suc (suc n)) test xs ≡ left_after 1 test (left_after (if t then n else suc n) test xs)
    by true first second = first
    by false first second = second

one_row : {A : Type 0} (test : A → Bool) (failed : List A) (row : A) (rest : List A) → AllByRecursion (λ x. test x ≡ false) failed → test row ≡ true → left_after 1 test (failed ++ row ∷ rest) ≡ rest
one_row test [] row rest fail passes = ap (λ (t : Bool). left_after (if t then 0 else 1) test rest) passes
one_row test (x ∷ failed) row rest fail passes = ap (λ (t : Bool). left_after (if t then 0 else 1) test (failed ++ row ∷ rest)) fail.0 ∙ one_row test failed row rest fail.1 passes

-- what is left after the next row
pub left_next : {A : Type 0} (n : ℕ) (test : A → Bool) (all : List A) (row : A) (rest : List A) → IsNext test (left_after n test all) row rest → left_after (suc n) test all ≡ rest
left_next n test all row rest next = one_more n test all ∙ ap (left_after 1 test) next.parts ∙ one_row test next.failed row rest next.fail next.passes

-- the rows that are left
pub rows_left : {A : Type 0} (n : ℕ) (test : A → Bool) (xs : List A) → drop n (filter test xs) ≡ filter test (left_after n test xs)
rows_left zero test xs = refl
rows_left (suc n) test [] = refl
rows_left (suc n) test (x ∷ xs) = by (test x) (rows_left n test xs) (rows_left (suc n) test xs)
  where
    by : (t : Bool) → drop n (filter test xs) ≡ filter test (left_after n test xs) → drop (suc n) (filter test xs) ≡ filter test (left_after (suc n) test xs)
        → drop (suc n) (cond t (x ∷ filter test xs) (filter test xs)) ≡ filter test (left_after (if t then n else suc n) test xs)
    by true first second = first
    by false first second = second

-- what is looked at for so many rows, and what is left after them
pub looked_and_left : {A : Type 0} (n : ℕ) (test : A → Bool) (xs : List A) → looked_of n test xs + length (left_after n test xs) ≡ length xs
looked_and_left zero test [] = refl
looked_and_left (suc n) test [] = refl
looked_and_left zero test (x ∷ xs) = omega arith
looked_and_left (suc n) test (x ∷ xs) = (let e = by (test x) (looked_and_left n test xs) (looked_and_left (suc n) test xs) in omega (arith, e))
  where
    by : (t : Bool) → looked_of n test xs + length (left_after n test xs) ≡ length xs → looked_of (suc n) test xs + length (left_after (suc n) test xs) ≡ length xs
        → (if t then looked_of n test xs else looked_of (suc n) test xs) + length (left_after (if t then n else suc n) test xs) ≡ length xs
    by true first second = first
    by false first second = second

-- after no candidate there is none, for any more rows
still_none : {A : Type 0} (n k m : ℕ) (test : A → Bool) (xs : List A) → k + n ≡ m → left_after n test xs ≡ [] → left_after m test xs ≡ []
still_none n zero m test xs size none = (let same : m ≡ n = omega (arith, size) in ap (λ j. left_after j test xs) same ∙ none)
still_none n (suc k) zero test xs size none = absurd (omega (arith, size))
still_none n (suc k) (suc m) test xs size none = one_more m test xs ∙ ap (left_after 1 test) (still_none n k m test xs (omega (arith, size)) none)

none_passes : {A : Type 0} (test : A → Bool) (left : List A) → AllByRecursion (λ x. test x ≡ false) left → left_after 1 test left ≡ []
none_passes test [] fail = refl
none_passes test (x ∷ left) fail = ap (λ (t : Bool). left_after (if t then 0 else 1) test left) fail.0 ∙ none_passes test left fail.1

-- **A reader that has no row left has looked at as many candidates as the definition says.**
pub over_counts : {A : Type 0} (limit : Option ℕ) (test : A → Bool) (all : List A) (rows seen count : ℕ) (left : List A) → IsAt limit test all rows seen left → IsOver test limit rows seen left count → count ≡ looked limit test all
over_counts None test all rows seen count left is over = omega (arith, is.counted, over.1)
over_counts (Some limit) test all rows seen count left is over = ⊎_elim
    (λ full. (
    let same : length left ≡ length (left_after limit test all) = ap length is.left_is ∙ ap (λ n. length (left_after n test all)) full.0 in
    omega (arith, is.counted, same, full.1, looked_and_left limit test all)
    ))
    (λ none. (
    let next : left_after (suc rows) test all ≡ [] = one_more rows test all ∙ ap (left_after 1 test) (sym is.left_is) ∙ none_passes test left none.1 in
    let last : length (left_after limit test all) ≡ 0 = ap length (still_none (suc rows) (limit - suc rows) limit test all (omega (arith, none.0)) next) in
    omega (arith, is.counted, none.2, last, looked_and_left limit test all)
    ))
    over

-- **The step to the next row.**
pub next_is : {A : Type 0} (limit : Option ℕ) (test : A → Bool) (all : List A) (rows seen : ℕ) (left : List A) (row : A) (rest : List A) → IsAt limit test all rows seen left → (next : IsNext test left row rest) → Allows limit (suc rows)
    → IsAt limit test all (suc rows) (seen + length next.failed + 1) rest
next_is limit test all rows seen left row rest is next allows = record {
  left_is = sym (left_next rows test all row rest (record { failed = next.failed; fail = next.fail; parts = sym is.left_is ∙ next.parts; passes = next.passes }));
  counted = (let size = ap length next.parts ∙ length-append next.failed (row ∷ rest) in omega (arith, size, is.counted));
  allows = allows;
}
