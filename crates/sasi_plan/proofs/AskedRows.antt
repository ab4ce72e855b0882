-- A call for so many rows at most, where LIMIT allows more or fewer, is one with the lesser number as its LIMIT.
use Rattle.std.proofs.Common.{◌≡◌, ℕ, zero, suc, ◌+◌, ◌≤◌, min, Bool, true, false, cond, List, [], ◌∷◌, Option, None, Some, refl, sym, ap, subst, arith}
use Rattle.sasi_model.specs.Cells.{Partition}
use Rattle.sasi_recheck.specs.Rows.{GivesAllowed, allowed_after, asked_in}
use Rattle.sasi_recheck.specs.Sources.{Candidate}
use Rattle.sasi_plan.specs.Answers.{lesser, paid, paid_of}

-- where a number of rows is told, it is one at least
abbrev pub AsksOne : Option ℕ → Type 0
AsksOne None = Unit {0}
AsksOne (Some zero) = ⊥
AsksOne (Some (suc n)) = Unit {0}

no_more : (n : ℕ) → 0 ≡ min (suc n) 0
no_more n = omega arith

one_less : (n m : ℕ) → suc (min n m) ≡ min (suc n) (suc m)
one_less n m = omega arith

module _ (test : Candidate → Bool) where
  -- it gives the same row,
  pub allowed_lesser : (asked limit : Option ℕ) → AsksOne asked → (Left : List Candidate → Type 0) (left : List Candidate) (found : Option (List ℕ × Partition)) → GivesAllowed limit test Left left found → GivesAllowed (lesser asked limit) test Left left found
  allowed_lesser None limit one Left left found is = is
  allowed_lesser (Some zero) limit one Left left found is = absurd one
  allowed_lesser (Some (suc n)) None one Left left found is = is
  allowed_lesser (Some (suc n)) (Some zero) one Left left found is = subst (λ k. GivesAllowed (Some k) test Left left found) (no_more n) is
  allowed_lesser (Some (suc n)) (Some (suc m)) one Left left found is = subst (λ k. GivesAllowed (Some k) test Left left found) (one_less n m) is

  -- for as many candidates,
  pub asked_lesser : (asked limit : Option ℕ) → AsksOne asked → (left : List Candidate) → asked_in (lesser asked limit) test left ≡ asked_in limit test left
  asked_lesser None limit one left = refl
  asked_lesser (Some zero) limit one left = absurd one
  asked_lesser (Some (suc n)) None one left = refl
  asked_lesser (Some (suc n)) (Some zero) one left = ap (λ k. asked_in (Some k) test left) (sym (no_more n))
  asked_lesser (Some (suc n)) (Some (suc m)) one left = ap (λ k. asked_in (Some k) test left) (sym (one_less n m))

-- and leaves the lesser of the numbers that are then left.
pub next_lesser : (asked limit : Option ℕ) (found : Option (List ℕ × Partition)) → allowed_after (lesser asked limit) found ≡ lesser (allowed_after asked found) (allowed_after limit found)
next_lesser asked limit None = refl
next_lesser None limit (Some row) = refl
next_lesser (Some n) None (Some row) = refl
next_lesser (Some n) (Some m) (Some row) = ap Some (omega arith)

-- ---- fewer rows

module _ {A : Type 0} (test : A → Bool) where
  fewer_of : (n m : ℕ) → n ≤ m → (xs : List A) (prices : List ℕ) → paid_of n test xs prices ≤ paid_of m test xs prices
  fewer_of zero m within xs prices = omega arith
  fewer_of (suc n) zero within xs prices = omega (arith, within)
  fewer_of (suc n) (suc m) within [] prices = omega arith
  fewer_of (suc n) (suc m) within (x ∷ xs) [] = omega arith
  fewer_of (suc n) (suc m) within (x ∷ xs) (price ∷ prices) = by (test x) (fewer_of n m (omega (arith, within)) xs prices) (fewer_of (suc n) (suc m) within xs prices)
    where
      by : (b : Bool) → paid_of n test xs prices ≤ paid_of m test xs prices → paid_of (suc n) test xs prices ≤ paid_of (suc m) test xs prices
          → price + cond b (paid_of n test xs prices) (paid_of (suc n) test xs prices) ≤ price + cond b (paid_of m test xs prices) (paid_of (suc m) test xs prices)
      by true one other = omega (arith, one)
      by false one other = omega (arith, other)

-- **Fewer rows are paid with no more.**
pub fewer_paid : {A : Type 0} (n m : ℕ) → n ≤ m → (limit : Option ℕ) (test : A → Bool) (xs : List A) (prices : List ℕ) → paid (lesser (Some n) limit) test xs prices ≤ paid (lesser (Some m) limit) test xs prices
fewer_paid n m within None test xs prices = fewer_of test n m within xs prices
fewer_paid n m within (Some l) test xs prices = fewer_of test (min n l) (min m l) (omega (arith, within)) xs prices
