-- Turns over candidates that don't pass, and what they cost.
use Rattle.std.proofs.Common.{◌≡◌, ℕ, zero, suc, ◌+◌, ◌≤◌, Bool, true, false, cond, Option, None, Some, List, [], ◌∷◌, ◌++◌, length, drop, take, sum, append-nil, refl, sym, ap, subst, ◌∙◌, arith}
use Rattle.std.proofs.lemmas.List.Sums.{sum_by-cons}
use Rattle.std.specs.List.{AllByRecursion}
use Rattle.sasi_types.specs.declared.column.ColumnType.{ColumnType}
use Rattle.sasi_model.specs.Cells.{Partition}
use Rattle.sasi_recheck.specs.Rows.{asked_in, asked_to, looked_to}
use Rattle.sasi_recheck.specs.Sources.{Candidate, GivesPrintable, IsPrintable, first_price}

-- ---- prices

pub drop_next : (k : ℕ) (prices : List ℕ) → drop (suc k) prices ≡ drop 1 (drop k prices)
drop_next zero prices = refl
drop_next (suc k) [] = refl
drop_next (suc k) (price ∷ prices) = drop_next k prices

pub sum_next : (k : ℕ) (prices : List ℕ) → sum (take (suc k) prices) ≡ sum (take k prices) + first_price (drop k prices)
sum_next zero [] = refl
sum_next zero (price ∷ prices) = omega (arith, sum_by-cons (λ (x : ℕ). x) price [])
sum_next (suc k) [] = refl
sum_next (suc k) (price ∷ prices) = omega (arith, sum_next k prices, sum_by-cons (λ (x : ℕ). x) price (take (suc k) prices), sum_by-cons (λ (x : ℕ). x) price (take k prices))

pub sum_more : (k m : ℕ) (prices : List ℕ) → k ≤ m → sum (take k prices) ≤ sum (take m prices)
sum_more zero m prices few = omega arith
sum_more (suc k) zero prices few = absurd (omega (arith, few))
sum_more (suc k) (suc m) [] few = omega arith
sum_more (suc k) (suc m) (price ∷ prices) few = omega (arith, sum_more k m prices (omega (arith, few)), sum_by-cons (λ (x : ℕ). x) price (take k prices), sum_by-cons (λ (x : ℕ). x) price (take m prices))

-- ---- a candidate

-- it is the one that is given as this key and partition
pub entry_is : (e : Candidate) (key : List ℕ) (part : Partition) → e.0.key ≡ key → e.1 ≡ part → (record { token = e.0.token; key = key }, part) ≡ e
entry_is e key part key_is part_is i = (record { token = e.0.token; key = sym key_is i }, sym part_is i)

pub given_printable : (kind : ColumnType) (found : Option (List ℕ × Partition)) (key : List ℕ) (part : Partition) → found ≡ Some (key, part) → GivesPrintable kind found → IsPrintable kind key part
given_printable kind found key part is printable = subst (GivesPrintable kind) is printable

-- ---- turns

module _ (test : Candidate → Bool) where
  -- after so many candidates that don't pass, the others are left
  pub record HasPassed (Left : List Candidate → Type 0) (left : List Candidate) (n : ℕ) : Type 0 where
    pub failed : List Candidate
    pub fail : AllByRecursion (λ x. test x ≡ false) failed
    pub rest : List Candidate
    pub parts : left ≡ failed ++ rest
    pub counted : length failed ≡ n
    pub others : Left rest

  pub passed_none : (Left : List Candidate → Type 0) (left : List Candidate) → Left left → HasPassed Left left 0
  passed_none Left left is = record { failed = []; fail = tt; rest = left; parts = refl; counted = refl; others = is }

  all_more : (xs : List Candidate) (e : Candidate) → AllByRecursion (λ x. test x ≡ false) xs → test e ≡ false → AllByRecursion (λ x. test x ≡ false) (xs ++ e ∷ [])
  all_more [] e all last = (last, tt)
  all_more (x ∷ xs) e all last = (all.0, all_more xs e all.1 last)

  joined : (xs rest : List Candidate) (e : Candidate) → xs ++ e ∷ rest ≡ (xs ++ e ∷ []) ++ rest
  joined [] rest e = refl
  joined (x ∷ xs) rest e = ap (λ l. x ∷ l) (joined xs rest e)

  longer : (xs : List Candidate) (e : Candidate) → length (xs ++ e ∷ []) ≡ suc (length xs)
  longer [] e = refl
  longer (x ∷ xs) e = ap suc (longer xs e)

  pub passed_one : (Left Next : List Candidate → Type 0) (left : List Candidate) (n : ℕ) (e : Candidate) (more : List Candidate) → (before : HasPassed Left left n) → before.rest ≡ e ∷ more → test e ≡ false → Next more
      → HasPassed Next left (suc n)
  passed_one Left Next left n e more before is fails next = record {
    failed = before.failed ++ e ∷ [];
    fail = all_more before.failed e before.fail fails;
    rest = more;
    parts = before.parts ∙ ap (λ l. before.failed ++ l) is ∙ joined before.failed more e;
    counted = longer before.failed e ∙ ap suc before.counted;
    others = next;
  }

  asked_behind : (xs rest : List Candidate) → AllByRecursion (λ x. test x ≡ false) xs → asked_to test (xs ++ rest) ≡ length xs + asked_to test rest
  asked_behind [] rest all = omega arith
  asked_behind (x ∷ xs) rest all = ap (λ b. cond b 1 (suc (asked_to test (xs ++ rest)))) all.0 ∙ omega (arith, asked_behind xs rest all.1)

  looked_behind : (xs rest : List Candidate) → AllByRecursion (λ x. test x ≡ false) xs → looked_to test (xs ++ rest) ≡ length xs + looked_to test rest
  looked_behind [] rest all = omega arith
  looked_behind (x ∷ xs) rest all = ap (λ b. cond b 1 (suc (looked_to test (xs ++ rest)))) all.0 ∙ omega (arith, looked_behind xs rest all.1)

  some_asked : (rest : List Candidate) → 1 ≤ asked_to test rest
  some_asked [] = omega arith
  some_asked (x ∷ xs) = by (test x)
    where
      by : (b : Bool) → 1 ≤ cond b 1 (suc (asked_to test xs))
      by true = omega arith
      by false = omega arith

  module _ (Left : List Candidate → Type 0) (left : List Candidate) (n : ℕ) (passed : HasPassed Left left n) where
    asked_is : asked_to test left ≡ n + asked_to test passed.rest
    asked_is = ap (asked_to test) passed.parts ∙ asked_behind passed.failed passed.rest passed.fail ∙ ap (λ k. k + asked_to test passed.rest) passed.counted

    looked_is : looked_to test left ≡ n + looked_to test passed.rest
    looked_is = ap (looked_to test) passed.parts ∙ looked_behind passed.failed passed.rest passed.fail ∙ ap (λ k. k + looked_to test passed.rest) passed.counted

    -- one more is asked for
    pub asked_more : suc n ≤ asked_to test left
    asked_more = omega (arith, asked_is, some_asked passed.rest)

    -- none is left
    pub asked_end : passed.rest ≡ [] → asked_to test left ≡ suc n
    asked_end end = omega (arith, asked_is, ap (asked_to test) end)

    pub looked_end : passed.rest ≡ [] → looked_to test left ≡ n
    looked_end end = omega (arith, looked_is, ap (looked_to test) end)

    -- the next one passes
    pub asked_row : (e : Candidate) (more : List Candidate) → passed.rest ≡ e ∷ more → test e ≡ true → asked_to test left ≡ suc n
    asked_row e more is passes = omega (arith, asked_is, ap (asked_to test) is, ap (λ b. cond b 1 (suc (asked_to test more))) passes)

    pub looked_row : (e : Candidate) (more : List Candidate) → passed.rest ≡ e ∷ more → test e ≡ true → looked_to test left ≡ suc n
    looked_row e more is passes = omega (arith, looked_is, ap (looked_to test) is, ap (λ b. cond b 1 (suc (looked_to test more))) passes)

    -- none passes
    pub all_passed : passed.rest ≡ [] → AllByRecursion (λ x. test x ≡ false) left
    all_passed end = subst (λ l. AllByRecursion (λ x. test x ≡ false) l) (sym (passed.parts ∙ ap (λ l. passed.failed ++ l) end ∙ append-nil passed.failed)) passed.fail

-- where rows are allowed, as many candidates are asked for as there are up to the next row
pub some_left : (P : ℕ → Type 0) (limit : Option ℕ) (test : Candidate → Bool) (left : List Candidate) → (limit ≡ Some zero → ⊥) → P (asked_to test left) → P (asked_in limit test left)
some_left P None test left some is = is
some_left P (Some zero) test left some is = absurd (some refl)
some_left P (Some (suc n)) test left some is = is
