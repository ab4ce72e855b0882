-- What is paid of the prices of hits is what looks at their tokens cost.
use Rattle.std.proofs.Common.{◌≡◌, ℕ, zero, suc, ◌+◌, ◌-◌, ◌*◌, ◌≤◌, max, Bool, true, false, cond, List, [], ◌∷◌, ◌++◌, length, map, sum, Option, None, Some, ap, arith}
use Rattle.std.proofs.lemmas.List.Sums.{sum_by-append, sum_by-cons}
use Rattle.std.proofs.lemmas.Nat.{mul-le}
use Rattle.std.specs.List.{filter}
use Rattle.sasi_candidates.specs.Checks.{looked_of}
use Rattle.sasi_candidates.specs.Costs.{token_cost}
use Rattle.sasi_candidates.specs.Groups.{Group, looks, rows_in}
use Rattle.sasi_recheck.specs.Sources.{Candidate}
use Rattle.sasi_engine.specs.HitCandidates.{PlanWorld, candidates_at, owed_behind, prices_from, prices_of}
use Rattle.sasi_plan.specs.Answers.{paid, paid_of}
use Rattle.sasi_plan.proofs.GivenLaws.{paid_nothing}

-- ---- the keys of a token

same_prices : {A : Type 0} (price : ℕ) (xs : List A) → sum (map (λ (x : A). price) xs) ≡ length xs * price
same_prices price [] = omega arith
same_prices {A} price (x ∷ xs) = omega (arith, same_prices price xs, sum_by-cons (λ (x : ℕ). x) price (map (λ (x : A). price) xs))

-- each that is looked at pays the price, and the others behind them what they pay
same_paid : {A : Type 0} (test : A → Bool) (price n : ℕ) (xs rest : List A) (prices : List ℕ)
    → paid_of n test (xs ++ rest) (map (λ (x : A). price) xs ++ prices) ≡ looked_of n test xs * price + paid_of (n - length (filter test xs)) test rest prices
same_paid test price zero xs rest prices = (let none : 0 - length (filter test xs) ≡ 0 = omega arith in omega (arith, ap (λ m. paid_of m test rest prices) none))
same_paid test price (suc n) [] rest prices = (let all : suc n - 0 ≡ suc n = omega arith in omega (arith, ap (λ m. paid_of m test rest prices) all))
same_paid {A} test price (suc n) (x ∷ xs) rest prices = by (test x) (same_paid test price n xs rest prices) (same_paid test price (suc n) xs rest prices)
  where
    own : List ℕ
    own = map (λ (x : A). price) xs ++ prices

    by : (b : Bool) → paid_of n test (xs ++ rest) own ≡ looked_of n test xs * price + paid_of (n - length (filter test xs)) test rest prices
        → paid_of (suc n) test (xs ++ rest) own ≡ looked_of (suc n) test xs * price + paid_of (suc n - length (filter test xs)) test rest prices
        → price + cond b (paid_of n test (xs ++ rest) own) (paid_of (suc n) test (xs ++ rest) own)
        ≡ suc (cond b (looked_of n test xs) (looked_of (suc n) test xs)) * price + paid_of (suc n - length (cond b (x ∷ filter test xs) (filter test xs))) test rest prices
    by true one other =
        let fewer : n - length (filter test xs) ≡ suc n - suc (length (filter test xs)) = omega arith in
        omega (arith, one, ap (λ m. paid_of m test rest prices) fewer)
    by false one other = omega (arith, other)

-- what is owed is paid by the first one
owed_paid : {A : Type 0} (test : A → Bool) (owed price n : ℕ) (x : A) (xs : List A) (prices : List ℕ) → paid_of (suc n) test (x ∷ xs) ((owed + price) ∷ prices) ≡ owed + paid_of (suc n) test (x ∷ xs) (price ∷ prices)
owed_paid test owed price n x xs prices = omega arith

-- it is paid once at least
at_least : (k price : ℕ) → price ≤ max 1 k * price
at_least k price = (let more : 1 * price ≤ max 1 k * price = mul-le 1 price (max 1 k) price (omega arith) (omega arith) in omega (arith, more))

-- ---- all tokens

module _ (w : PlanWorld) where
  abbrev price_of : ℕ → ℕ
  price_of token = token_cost w.partitioner w.parts token

  all_paid : (test : Candidate → Bool) (owed : ℕ) (gs : List Group) → sum (prices_from w owed gs) ≤ owed + looks price_of test None (map (candidates_at w) gs)
  all_paid test owed [] = omega (arith, sum_by-cons (λ (x : ℕ). x) owed [])
  all_paid test owed (g ∷ gs) = by (candidates_at w g).rows (all_paid test (owed + price_of g.token) gs) (all_paid test 0 gs)
    where
      price : ℕ
      price = price_of g.token

      more : ℕ
      more = looks price_of test None (map (candidates_at w) gs)

      by : (rows : List Candidate) → sum (prices_from w (owed + price) gs) ≤ owed + price + more → sum (prices_from w 0 gs) ≤ 0 + more
          → sum (prices_of (owed + price) price rows ++ prices_from w (owed_behind (owed + price) rows) gs) ≤ owed + (max 1 (length rows) * price + more)
      by [] without behind = omega (arith, without)
      by (e ∷ rows) without behind =
          let own = map (λ (x : Candidate). price) rows in
          let most : max 1 (length (e ∷ rows)) ≡ suc (length rows) = omega arith in
          let all : sum ((owed + price) ∷ (own ++ prices_from w 0 gs)) ≤ owed + (max 1 (length (e ∷ rows)) * price + more) =
          omega (
            arith,
            behind,
            ap (λ k. k * price) most,
            same_prices price rows,
            sum_by-append (λ (x : ℕ). x) own (prices_from w 0 gs),
            sum_by-cons (λ (x : ℕ). x) (owed + price) (own ++ prices_from w 0 gs),
          ) in
          all

  some_paid : (test : Candidate → Bool) (n owed : ℕ) (gs : List Group) → paid_of n test (rows_in (map (candidates_at w) gs)) (prices_from w owed gs) ≤ owed + looks price_of test (Some n) (map (candidates_at w) gs)
  some_paid test zero owed gs = omega arith
  some_paid test (suc n) owed [] = omega (arith, sum_by-cons (λ (x : ℕ). x) owed [])
  some_paid test (suc n) owed (g ∷ gs) = by (candidates_at w g).rows (some_paid test (suc n) (owed + price_of g.token) gs) (λ m. some_paid test m 0 gs)
    where
      price : ℕ
      price = price_of g.token

      rest : List Candidate
      rest = rows_in (map (candidates_at w) gs)

      more : ℕ → ℕ
      more m = looks price_of test (Some m) (map (candidates_at w) gs)

      by : (rows : List Candidate) → paid_of (suc n) test rest (prices_from w (owed + price) gs) ≤ owed + price + more (suc n) → ((m : ℕ) → paid_of m test rest (prices_from w 0 gs) ≤ 0 + more m)
          → paid_of (suc n) test (rows ++ rest) (prices_of (owed + price) price rows ++ prices_from w (owed_behind (owed + price) rows) gs)
          ≤ owed + (max 1 (looked_of (suc n) test rows) * price + more (suc n - length (filter test rows)))
      by [] without behind = (let all : suc n - 0 ≡ suc n = omega arith in omega (arith, without, ap more all))
      by (e ∷ rows) without behind =
          let own = map (λ (x : Candidate). price) rows ++ prices_from w 0 gs in
          let seen = looked_of (suc n) test (e ∷ rows) in
          let most : max 1 (looked_of (suc n) test (e ∷ rows)) ≡ looked_of (suc n) test (e ∷ rows) = omega arith in
          let all : paid_of (suc n) test (e ∷ (rows ++ rest)) ((owed + price) ∷ own) ≤ owed + (max 1 seen * price + more (suc n - length (filter test (e ∷ rows)))) =
          omega (
            arith,
            owed_paid test owed price n e (rows ++ rest) own,
            ap (λ k. k * price) most,
            same_paid test price (suc n) (e ∷ rows) rest (prices_from w 0 gs),
            behind (suc n - length (filter test (e ∷ rows))),
          ) in
          all

  -- **What is paid of the prices of hits is at most what is owed, and what the looks at their tokens cost.**
  pub hits_paid : (limit : Option ℕ) (test : Candidate → Bool) (owed : ℕ) (gs : List Group)
      → paid limit test (rows_in (map (candidates_at w) gs)) (prices_from w owed gs) ≤ owed + looks price_of test limit (map (candidates_at w) gs)
  hits_paid None test owed gs = all_paid test owed gs
  hits_paid (Some n) test owed gs = some_paid test n owed gs

  -- **One token with one price costs no less than a look for each candidate.**
  pub one_paid : (limit : Option ℕ) (test : Candidate → Bool) (g : Group) → paid limit test g.rows (price_of g.token ∷ []) ≤ looks price_of test limit (g ∷ [])
  one_paid None test g = omega (arith, at_least (length g.rows) (price_of g.token), sum_by-cons (λ (x : ℕ). x) (price_of g.token) [])
  one_paid (Some zero) test g = omega arith
  one_paid (Some (suc n)) test g = by g.rows
    where
      price : ℕ
      price = price_of g.token

      one : (x : Candidate) (rows : List Candidate) (b : Bool) → price + cond b (paid_of n test rows []) (paid_of (suc n) test rows []) ≤ max 1 (suc (cond b (looked_of n test rows) (looked_of (suc n) test rows))) * price + 0
      one x rows true = omega (arith, at_least (suc (looked_of n test rows)) price, paid_nothing test n rows)
      one x rows false = omega (arith, at_least (suc (looked_of (suc n) test rows)) price, paid_nothing test (suc n) rows)

      by : (rows : List Candidate) → paid_of (suc n) test rows (price ∷ []) ≤ max 1 (looked_of (suc n) test rows) * price + 0
      by [] = omega (arith, at_least 0 price, sum_by-cons (λ (x : ℕ). x) price [])
      by (x ∷ rows) = one x rows (test x)
