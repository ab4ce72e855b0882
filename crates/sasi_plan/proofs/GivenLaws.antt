-- The rows that are given one after another are those of the definition, and so are the candidates that are looked at, and what is paid.
use Rattle.std.proofs.Common.{◌≡◌, ℕ, zero, suc, ◌+◌, ◌-◌, ◌≤◌, Bool, true, false, cond, List, [], ◌∷◌, ◌++◌, length, map, take, drop, sum, append-nil, length-append, Option, None, Some, refl, sym, ap, ◌∙◌, arith}
use Rattle.std.proofs.lemmas.List.Sums.{sum_by-cons}
use Rattle.std.specs.List.{AllByRecursion, filter}
use Rattle.std.specs.Option.{option_to_list}
use Rattle.sasi_host.specs.View.{counted}
use Rattle.sasi_model.specs.Cells.{Partition}
use Rattle.sasi_candidates.specs.Checks.{given, given_of, looked, looked_of}
use Rattle.sasi_recheck.specs.Rows.{GivesAllowed, IsFirstRow, allowed_after, asked_in, asked_to, counted_on, looked_in, looked_to}
use Rattle.sasi_recheck.specs.Sources.{Candidate}
use Rattle.sasi_plan.specs.Answers.{paid, paid_of, row_of}

-- ---- candidates that don't pass

module _ {A : Type 0} (test : A → Bool) where
  filter_after : (xs rest : List A) → AllByRecursion (λ x. test x ≡ false) xs → filter test (xs ++ rest) ≡ filter test rest
  filter_after [] rest all = refl
  filter_after (x ∷ xs) rest all = ap (λ b. cond b (x ∷ filter test (xs ++ rest)) (filter test (xs ++ rest))) all.0 ∙ filter_after xs rest all.1

  given_after : (n : ℕ) (xs rest : List A) → AllByRecursion (λ x. test x ≡ false) xs → given_of (suc n) test (xs ++ rest) ≡ given_of (suc n) test rest
  given_after n [] rest all = refl
  given_after n (x ∷ xs) rest all = ap (λ b. cond b (x ∷ given_of n test (xs ++ rest)) (given_of (suc n) test (xs ++ rest))) all.0 ∙ given_after n xs rest all.1

  looked_after : (n : ℕ) (xs rest : List A) → AllByRecursion (λ x. test x ≡ false) xs → looked_of (suc n) test (xs ++ rest) ≡ length xs + looked_of (suc n) test rest
  looked_after n [] rest all = omega arith
  looked_after n (x ∷ xs) rest all = ap (λ b. suc (cond b (looked_of n test (xs ++ rest)) (looked_of (suc n) test (xs ++ rest)))) all.0 ∙ omega (arith, looked_after n xs rest all.1)

  -- without a price nothing is paid
  pub paid_nothing : (n : ℕ) (xs : List A) → paid_of n test xs [] ≡ 0
  paid_nothing zero xs = refl
  paid_nothing (suc n) [] = refl
  paid_nothing (suc n) (x ∷ xs) = refl

  paid_after : (n : ℕ) (xs rest : List A) (prices : List ℕ) → AllByRecursion (λ x. test x ≡ false) xs
      → paid_of (suc n) test (xs ++ rest) prices ≡ sum (take (length xs) prices) + paid_of (suc n) test rest (drop (length xs) prices)
  paid_after n [] rest prices all = omega arith
  paid_after n (x ∷ xs) rest [] all = omega (arith, paid_nothing (suc n) rest)
  paid_after n (x ∷ xs) rest (price ∷ prices) all =
      ap (λ b. price + cond b (paid_of n test (xs ++ rest) prices) (paid_of (suc n) test (xs ++ rest) prices)) all.0
      ∙ omega (arith, paid_after n xs rest prices all.1, sum_by-cons (λ (x : ℕ). x) price (take (length xs) prices))

-- ---- prices

-- the first prices, and the others
all_prices : (k : ℕ) (prices : List ℕ) → sum (take k prices) + sum (drop k prices) ≡ sum prices
all_prices zero prices = omega arith
all_prices (suc k) [] = refl
all_prices (suc k) (price ∷ prices) = omega (arith, all_prices k prices, sum_by-cons (λ (x : ℕ). x) price (take k prices), sum_by-cons (λ (x : ℕ). x) price prices)

sum_first : (k : ℕ) (prices : List ℕ) → sum (take (suc k) prices) ≡ sum (take k prices) + sum (take 1 (drop k prices))
sum_first zero prices = omega arith
sum_first (suc k) [] = refl
sum_first (suc k) (price ∷ prices) = omega (arith, sum_first k prices, sum_by-cons (λ (x : ℕ). x) price (take (suc k) prices), sum_by-cons (λ (x : ℕ). x) price (take k prices))

drop_first : (k : ℕ) (prices : List ℕ) → drop (suc k) prices ≡ drop 1 (drop k prices)
drop_first zero prices = refl
drop_first (suc k) [] = refl
drop_first (suc k) (price ∷ prices) = drop_first k prices

-- ---- a call

-- What one call gives and what is left, as the definitions have it: the row that is given is the first one, and the others are those of the rest.
pub record IsCalled (limit : Option ℕ) (test : Candidate → Bool) (Left : List Candidate → Type 0) (left : List Candidate) (found : Option (List ℕ × Partition)) : Type 0 where
  pub rest : List Candidate
  pub others : Left rest
  pub given_is : map row_of (given limit test left) ≡ option_to_list found ++ map row_of (given (allowed_after limit found) test rest)
  pub looked_is : looked limit test left ≡ looked_in limit test left + looked (allowed_after limit found) test rest
  pub paid_is : (prices : List ℕ) → sum (take (asked_in limit test left) prices) + paid (allowed_after limit found) test rest (drop (asked_in limit test left) prices) ≤ paid limit test left prices
  -- without a row nothing is left
  pub given_ends : found ≡ None → given (allowed_after limit found) test rest ≡ []
  pub looked_ends : found ≡ None → looked (allowed_after limit found) test rest ≡ 0

module _ (test : Candidate → Bool) where
  looked_behind : (xs rest : List Candidate) → AllByRecursion (λ x. test x ≡ false) xs → looked_to test (xs ++ rest) ≡ length xs + looked_to test rest
  looked_behind [] rest all = omega arith
  looked_behind (x ∷ xs) rest all = ap (λ b. cond b 1 (suc (looked_to test (xs ++ rest)))) all.0 ∙ omega (arith, looked_behind xs rest all.1)

  asked_behind : (xs rest : List Candidate) → AllByRecursion (λ x. test x ≡ false) xs → asked_to test (xs ++ rest) ≡ length xs + asked_to test rest
  asked_behind [] rest all = omega arith
  asked_behind (x ∷ xs) rest all = ap (λ b. cond b 1 (suc (asked_to test (xs ++ rest)))) all.0 ∙ omega (arith, asked_behind xs rest all.1)

  -- ---- a row

  module _ (Left : List Candidate → Type 0) (left : List Candidate) (row : List ℕ × Partition) (is : IsFirstRow test Left left row) where
    -- this call looked at the candidates up to the row
    looked_first : looked_to test left ≡ suc (length is.failed)
    looked_first = omega (arith, ap (looked_to test) is.parts, looked_behind is.failed (is.entry ∷ is.rest) is.fail, ap (λ b. cond b 1 (suc (looked_to test is.rest))) is.passes)

    asked_first : asked_to test left ≡ suc (length is.failed)
    asked_first = omega (arith, ap (asked_to test) is.parts, asked_behind is.failed (is.entry ∷ is.rest) is.fail, ap (λ b. cond b 1 (suc (asked_to test is.rest))) is.passes)

    row_is : row_of is.entry ≡ row
    row_is i = (is.key_is i, is.part_is i)

    first_of_all : IsCalled None test Left left (Some row)
    first_of_all = record {
      rest = is.rest;
      others = is.others;
      given_is =
          ap (λ l. map row_of (filter test l)) is.parts
          ∙ ap (map row_of) (filter_after test is.failed (is.entry ∷ is.rest) is.fail)
          ∙ ap (λ b. map row_of (cond b (is.entry ∷ filter test is.rest) (filter test is.rest))) is.passes
          ∙ ap (λ r. r ∷ map row_of (filter test is.rest)) row_is;
      looked_is = omega (arith, looked_first, ap length is.parts, length-append is.failed (is.entry ∷ is.rest));
      paid_is = λ prices. omega (arith, all_prices (asked_to test left) prices);
      given_ends = λ none. cc;
      looked_ends = λ none. cc;
    }

    -- what is paid is the prices up to the row, and what is paid behind it
    first_paid : (n : ℕ) (prices : List ℕ) → paid_of (suc n) test left prices ≡ sum (take (suc (length is.failed)) prices) + paid_of n test is.rest (drop (suc (length is.failed)) prices)
    first_paid n prices =
        ap (λ l. paid_of (suc n) test l prices) is.parts
        ∙ paid_after test n is.failed (is.entry ∷ is.rest) prices is.fail
        ∙ omega (arith, one (drop (length is.failed) prices), sum_first (length is.failed) prices, ap (paid_of n test is.rest) (drop_first (length is.failed) prices))
      where
        one : (own : List ℕ) → paid_of (suc n) test (is.entry ∷ is.rest) own ≡ sum (take 1 own) + paid_of n test is.rest (drop 1 own)
        one [] = omega (arith, paid_nothing test n is.rest)
        one (price ∷ own) = ap (λ b. price + cond b (paid_of n test is.rest own) (paid_of (suc n) test is.rest own)) is.passes ∙ omega (arith, sum_by-cons (λ (x : ℕ). x) price [])

    first_of_some : (n : ℕ) → IsCalled (Some (suc n)) test Left left (Some row)
    first_of_some n =
        let less : suc n - 1 ≡ n = omega arith in
        record {
          rest = is.rest;
          others = is.others;
          given_is =
              ap (λ l. map row_of (given_of (suc n) test l)) is.parts
              ∙ ap (map row_of) (given_after test n is.failed (is.entry ∷ is.rest) is.fail)
              ∙ ap (λ b. map row_of (cond b (is.entry ∷ given_of n test is.rest) (given_of (suc n) test is.rest))) is.passes
              ∙ ap (λ r. r ∷ map row_of (given_of n test is.rest)) row_is
              ∙ ap (λ m. row ∷ map row_of (given_of m test is.rest)) (sym less);
          looked_is = omega (
            arith,
            looked_first,
            ap (looked_of (suc n) test) is.parts ∙ looked_after test n is.failed (is.entry ∷ is.rest) is.fail ∙ ap (λ b. length is.failed + suc (cond b (looked_of n test is.rest) (looked_of (suc n) test is.rest))) is.passes,
            ap (λ m. looked_of m test is.rest) less,
          );
          paid_is = λ prices. omega (
            arith,
            first_paid n prices,
            ap (λ k. sum (take k prices)) asked_first,
            ap (λ k. paid_of (suc n - 1) test is.rest (drop k prices)) asked_first,
            ap (λ m. paid_of m test is.rest (drop (suc (length is.failed)) prices)) less,
          );
          given_ends = λ none. cc;
          looked_ends = λ none. cc;
        }

  -- ---- no row

  module _ (Left : List Candidate → Type 0) (left : List Candidate) (fail : AllByRecursion (λ x. test x ≡ false) left) (others : Left []) where
    looked_all : looked_to test left ≡ length left
    looked_all = omega (arith, ap (looked_to test) (append-nil left), looked_behind left [] fail)

    asked_all : asked_to test left ≡ suc (length left)
    asked_all = omega (arith, ap (asked_to test) (append-nil left), asked_behind left [] fail)

    none_of_all : IsCalled None test Left left None
    none_of_all = record {
      rest = [];
      others = others;
      given_is = ap (λ l. map row_of (filter test l)) (sym (append-nil left)) ∙ ap (map row_of) (filter_after test left [] fail);
      looked_is = omega (arith, looked_all);
      paid_is = λ prices. omega (arith, all_prices (asked_to test left) prices);
      given_ends = λ none. refl;
      looked_ends = λ none. refl;
    }

    none_of_some : (n : ℕ) → IsCalled (Some (suc n)) test Left left None
    none_of_some n = record {
      rest = [];
      others = others;
      given_is = ap (λ l. map row_of (given_of (suc n) test l)) (sym (append-nil left)) ∙ ap (map row_of) (given_after test n left [] fail);
      looked_is = omega (arith, looked_all, ap (looked_of (suc n) test) (append-nil left), looked_after test n left [] fail);
      paid_is = λ prices. omega (
        arith,
        ap (λ l. paid_of (suc n) test l prices) (append-nil left),
        paid_after test n left [] prices fail,
        ap (λ k. sum (take k prices)) asked_all,
        ap (λ k. sum (drop k prices)) asked_all,
        all_prices (length left) prices,
        all_prices (suc (length left)) prices,
      );
      given_ends = λ none. refl;
      looked_ends = λ none. refl;
    }

  -- **What a call gives is what the definitions have next.**
  pub called : (limit : Option ℕ) (Left : List Candidate → Type 0) (left : List Candidate) (found : Option (List ℕ × Partition)) → GivesAllowed limit test Left left found → IsCalled limit test Left left found
  called None Left left None is = none_of_all Left left is.0 is.1
  called None Left left (Some row) is = first_of_all Left left row is
  called (Some zero) Left left None is = record {
    rest = left;
    others = is.1;
    given_is = refl;
    looked_is = refl;
    paid_is = λ prices. omega arith;
    given_ends = λ none. refl;
    looked_ends = λ none. refl;
  }
  called (Some zero) Left left (Some row) is = (let none : Some row ≡ None = is.0 in cc)
  called (Some (suc n)) Left left None is = none_of_some Left left is.0 is.1 n
  called (Some (suc n)) Left left (Some row) is = first_of_some Left left row is n

-- ---- counts

-- so many and so many more are counted
pub counted_more : (count m n : ℕ) → counted_on count (m + n) ≡ counted_on (counted_on count m) n
counted_more count m zero = ap (counted_on count) (omega arith)
counted_more count m (suc n) = (let next : m + suc n ≡ suc (m + n) = omega arith in ap (counted_on count) next ∙ ap counted (counted_more count m n))

-- ---- the prices of a call

some_pays : (n : ℕ) (test : Candidate → Bool) (left : List Candidate) (prices : List ℕ) → sum (take (asked_to test left) prices) ≤ paid_of (suc n) test left prices
some_pays n test [] prices = omega (arith, all_prices 1 prices)
some_pays n test (x ∷ xs) [] = by (asked_to test (x ∷ xs))
  where
    by : (k : ℕ) → sum (take k []) ≤ 0
    by zero = omega arith
    by (suc k) = omega arith
some_pays n test (x ∷ xs) (price ∷ prices) = by (test x) (some_pays n test xs prices)
  where
    by : (b : Bool) → sum (take (asked_to test xs) prices) ≤ paid_of (suc n) test xs prices
        → sum (take (cond b 1 (suc (asked_to test xs))) (price ∷ prices)) ≤ price + cond b (paid_of n test xs prices) (paid_of (suc n) test xs prices)
    by true rest = omega (arith, sum_by-cons (λ (x : ℕ). x) price [])
    by false rest = omega (arith, rest, sum_by-cons (λ (x : ℕ). x) price (take (asked_to test xs) prices))

-- **No call takes more than what is paid of all prices.**
pub first_pays : (limit : Option ℕ) (test : Candidate → Bool) (left : List Candidate) (prices : List ℕ) → sum (take (asked_in limit test left) prices) ≤ paid limit test left prices
first_pays None test left prices = omega (arith, all_prices (asked_to test left) prices)
first_pays (Some zero) test left prices = omega arith
first_pays (Some (suc n)) test left prices = some_pays n test left prices
