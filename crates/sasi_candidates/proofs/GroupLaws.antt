-- For callers: the candidates of the groups are the candidates, and what is looked at grows with LIMIT.
use Rattle.std.proofs.Common.{◌≡◌, ℕ, zero, suc, ◌+◌, ◌-◌, ◌*◌, ◌<◌, ◌≤◌, max, nat_eq, Bool, true, false, cond, ◌||◌, if◌then◌else◌, List, [], ◌∷◌, ◌++◌, length, map, Option, None, Some, refl, sym, ap, ◌∙◌, arith, append-nil, length-append}
use Rattle.std.proofs.lemmas.Bool.{false_from_ne_true, or_left, or_right}
use Rattle.std.proofs.lemmas.List.Elements.{filter-append}
use Rattle.std.proofs.lemmas.Nat.{mul-le}
use Rattle.std.specs.FinMap as map_
use Rattle.std.specs.List.{filter, list_any}
use Rattle.sasi_types.specs.declared.decorated_key.DecoratedKey.{DecoratedKey}
use Rattle.sasi_types.specs.declared.partitioner.Partitioner.{Partitioner}
use Rattle.sasi_cells.specs.Maps.{merged}
use Rattle.sasi_model.specs.Cells.{Partition}
use Rattle.sasi_model.specs.Conditions.{Condition}
use Rattle.sasi_model.specs.Filters.{Filter, key_asked, tree, where_of}
use Rattle.sasi_candidates.specs.Candidates.{admits, candidates, is_candidate}
use Rattle.sasi_candidates.specs.Checks.{looked, looked_of}
use Rattle.sasi_candidates.specs.Groups.{Group, by_token, candidates_in, groups, groups_with, is_looked, looks, rows_in, touches, with_key}
use Rattle.sasi_candidates.specs.Parts.{Part, maps_of}
use Rattle.sasi_candidates.proofs.Hits.{tree_grows}

-- ---- keys by their tokens

one_in_front : (e : DecoratedKey × Partition) (gs : List Group) → rows_in (with_key e gs) ≡ e ∷ rows_in gs
one_in_front e [] = refl
one_in_front e (g ∷ gs) = by (nat_eq e.0.token g.token)
  where
    by : (b : Bool) → rows_in (if b then record { token = g.token; rows = e ∷ g.rows } ∷ gs else record { token = e.0.token; rows = e ∷ [] } ∷ g ∷ gs) ≡ e ∷ rows_in (g ∷ gs)
    by true = refl
    by false = refl

-- no key is lost, and the order stays
pub all_by_token : (es : List (DecoratedKey × Partition)) → rows_in (by_token es) ≡ es
all_by_token [] = refl
all_by_token (e ∷ es) = one_in_front e (by_token es) ∙ ap (λ (l : List (DecoratedKey × Partition)). e ∷ l) (all_by_token es)

-- ---- a token with a candidate is looked at

clash : {A : Type 0} (b : Bool) → b ≡ false → b ≡ true → A
clash b isnt is = (let differ : true ≡ false = sym is ∙ isnt in cc)

candidate_touches : (parts : List Part) (f : Filter) (rows : List (DecoratedKey × Partition)) → list_any (λ e. is_candidate parts f e.0) rows ≡ true → tree (touches parts rows) f ≡ true
candidate_touches parts f [] is = cc
candidate_touches parts f (e ∷ rows) is = by (is_candidate parts f e.0) refl is (candidate_touches parts f rows)
  where
    by : (b : Bool) → is_candidate parts f e.0 ≡ b → b || list_any (λ e. is_candidate parts f e.0) rows ≡ true → (list_any (λ e. is_candidate parts f e.0) rows ≡ true → tree (touches parts rows) f ≡ true)
        → tree (touches parts (e ∷ rows)) f ≡ true
    by true here any others = tree_grows (admits parts e.0) (touches parts (e ∷ rows)) (λ c admitted. or_left (admits parts e.0 c) (touches parts rows c) admitted) f here
    by false here any others = tree_grows (touches parts rows) (touches parts (e ∷ rows)) (λ c touched. or_right (admits parts e.0 c) (touches parts rows c) touched) f (others any)

none_kept : {A : Type 0} (test : A → Bool) (xs : List A) → list_any test xs ≡ false → filter test xs ≡ []
none_kept test [] none = refl
none_kept test (x ∷ xs) none = by (test x) none (none_kept test xs)
  where
    by : (b : Bool) → b || list_any test xs ≡ false → (list_any test xs ≡ false → filter test xs ≡ []) → cond b (x ∷ filter test xs) (filter test xs) ≡ []
    by true any others = cc
    by false any others = others any

kept_rows : (parts : List Part) (f : Filter) (gs : List Group) → rows_in (map (candidates_in parts f) (filter (is_looked parts f) gs)) ≡ filter (λ e. is_candidate parts f e.0) (rows_in gs)
kept_rows parts f [] = refl
kept_rows parts f (g ∷ gs) = by (is_looked parts f g) refl (kept_rows parts f gs) ∙ sym (filter-append (λ e. is_candidate parts f e.0) g.rows (rows_in gs))
  where
    own : List (DecoratedKey × Partition)
    own = filter (λ e. is_candidate parts f e.0) g.rows

    by : (b : Bool) → is_looked parts f g ≡ b → rows_in (map (candidates_in parts f) (filter (is_looked parts f) gs)) ≡ filter (λ e. is_candidate parts f e.0) (rows_in gs)
        → rows_in (map (candidates_in parts f) (cond b (g ∷ filter (is_looked parts f) gs) (filter (is_looked parts f) gs))) ≡ own ++ filter (λ e. is_candidate parts f e.0) (rows_in gs)
    by true is rest = ap (λ (l : List (DecoratedKey × Partition)). own ++ l) rest
    by false is rest =
        let none : own ≡ [] = none_kept (λ e. is_candidate parts f e.0) g.rows (false_from_ne_true (list_any (λ e. is_candidate parts f e.0) g.rows) (λ yes. clash (is_looked parts f g) is (candidate_touches parts f g.rows yes))) in
        rest ∙ ap (λ (l : List (DecoratedKey × Partition)). l ++ filter (λ e. is_candidate parts f e.0) (rows_in gs)) (sym none)

-- **The candidates of the groups, one after another, are the candidates.**
pub groups_have : (partitioner : Partitioner) (parts : List Part) (conditions : List Condition) → rows_in (groups partitioner parts conditions) ≡ candidates parts (where_of conditions)
groups_have partitioner parts conditions = by (key_asked conditions)
  where
    f : Filter
    f = where_of conditions

    by : (key : Option (List ℕ)) → rows_in (groups_with partitioner parts f key) ≡ candidates parts f
    by (Some key) = append-nil (candidates parts f)
    by None =
        kept_rows parts f (by_token (map_.entries (merged (maps_of parts))))
        ∙ ap (λ (l : List (DecoratedKey × Partition)). filter (λ e. is_candidate parts f e.0) l) (all_by_token (map_.entries (merged (maps_of parts))))

-- ---- how many candidates are checked

looked_more : {A : Type 0} (test : A → Bool) (m n : ℕ) (xs : List A) → m ≤ n → looked_of m test xs ≤ looked_of n test xs
looked_more test zero n xs le = omega arith
looked_more test (suc m) zero xs le = absurd (omega (arith, le))
looked_more test (suc m) (suc n) [] le = omega arith
looked_more test (suc m) (suc n) (x ∷ xs) le = by (test x) (looked_more test m n xs (omega (arith, le))) (looked_more test (suc m) (suc n) xs le)
  where
    by : (b : Bool) → looked_of m test xs ≤ looked_of n test xs → looked_of (suc m) test xs ≤ looked_of (suc n) test xs
        → suc (if b then looked_of m test xs else looked_of (suc m) test xs) ≤ suc (if b then looked_of n test xs else looked_of (suc n) test xs)
    by true one other = omega (arith, one)
    by false one other = omega (arith, other)

looked_most : {A : Type 0} (test : A → Bool) (n : ℕ) (xs : List A) → looked_of n test xs ≤ length xs
looked_most test zero xs = omega arith
looked_most test (suc n) [] = omega arith
looked_most test (suc n) (x ∷ xs) = by (test x) (looked_most test n xs) (looked_most test (suc n) xs)
  where
    by : (b : Bool) → looked_of n test xs ≤ length xs → looked_of (suc n) test xs ≤ length xs → suc (if b then looked_of n test xs else looked_of (suc n) test xs) ≤ suc (length xs)
    by true one other = omega (arith, one)
    by false one other = omega (arith, other)

looked_whole : {A : Type 0} (test : A → Bool) (n : ℕ) (xs : List A) → length (filter test xs) < n → looked_of n test xs ≡ length xs
looked_whole test zero xs lt = absurd (omega (arith, lt))
looked_whole test (suc n) [] lt = refl
looked_whole {A} test (suc n) (x ∷ xs) lt = by (test x) lt (λ less. looked_whole test n xs less) (λ less. looked_whole test (suc n) xs less)
  where
    by : (b : Bool) → length (cond b (x ∷ filter test xs) (filter test xs)) < suc n → (length (filter test xs) < n → looked_of n test xs ≡ length xs) → (length (filter test xs) < suc n → looked_of (suc n) test xs ≡ length xs)
        → suc (if b then looked_of n test xs else looked_of (suc n) test xs) ≡ suc (length xs)
    by true less one other = ap suc (one (omega (arith, less)))
    by false less one other = ap suc (other less)

-- ---- how often tokens are looked at

times_more : (a b cost : ℕ) → a ≤ b → max 1 a * cost ≤ max 1 b * cost
times_more a b cost le = mul-le (max 1 a) cost (max 1 b) cost (omega (arith, le)) (omega arith)

-- **It grows with LIMIT,**
pub looks_more : (cost : ℕ → ℕ) (test : DecoratedKey × Partition → Bool) (m n : ℕ) (gs : List Group) → m ≤ n → looks cost test (Some m) gs ≤ looks cost test (Some n) gs
looks_more cost test m n [] le = omega arith
looks_more cost test zero n (g ∷ gs) le = omega arith
looks_more cost test (suc m) zero (g ∷ gs) le = absurd (omega (arith, le))
looks_more cost test (suc m) (suc n) (g ∷ gs) le =
    let rows = length (filter test g.rows) in
    omega (
      arith,
      times_more (looked_of (suc m) test g.rows) (looked_of (suc n) test g.rows) (cost g.token) (looked_more test (suc m) (suc n) g.rows le),
      looks_more cost test (suc m - rows) (suc n - rows) gs (omega (arith, le)),
    )

-- **and is most where there is none.**
pub looks_most : (cost : ℕ → ℕ) (test : DecoratedKey × Partition → Bool) (n : ℕ) (gs : List Group) → looks cost test (Some n) gs ≤ looks cost test None gs
looks_most cost test n [] = omega arith
looks_most cost test zero (g ∷ gs) = omega arith
looks_most cost test (suc n) (g ∷ gs) =
    omega (
      arith,
      times_more (looked_of (suc n) test g.rows) (length g.rows) (cost g.token) (looked_most test (suc n) g.rows),
      looks_most cost test (suc n - length (filter test g.rows)) gs,
    )

-- **Where fewer rows pass than LIMIT allows, all are looked at.**
pub looks_all : (cost : ℕ → ℕ) (test : DecoratedKey × Partition → Bool) (n : ℕ) (gs : List Group) → length (filter test (rows_in gs)) < n → looks cost test (Some n) gs ≡ looks cost test None gs
looks_all cost test n [] lt = refl
looks_all cost test zero (g ∷ gs) lt = absurd (omega (arith, lt))
looks_all cost test (suc n) (g ∷ gs) lt =
    let rows = length (filter test g.rows) in
    let parts : length (filter test (g.rows ++ rows_in gs)) ≡ rows + length (filter test (rows_in gs)) =
    ap (λ (l : List (DecoratedKey × Partition)). length l) (filter-append test g.rows (rows_in gs)) ∙ length-append (filter test g.rows) (filter test (rows_in gs)) in
    ap (λ (k : ℕ). max 1 k * cost g.token + looks cost test (Some (suc n - rows)) gs) (looked_whole test (suc n) g.rows (omega (arith, lt, parts)))
    ∙ ap (λ (k : ℕ). max 1 (length g.rows) * cost g.token + k) (looks_all cost test (suc n - rows) gs (omega (arith, lt, parts)))

-- ---- each candidate that is checked is paid

looked_on : {A : Type 0} (test : A → Bool) (n : ℕ) (xs ys : List A) → looked_of n test (xs ++ ys) ≡ looked_of n test xs + looked_of (n - length (filter test xs)) test ys
looked_on test zero xs ys =
    let none : 0 - length (filter test xs) ≡ 0 = omega arith in
    let nothing : looked_of (0 - length (filter test xs)) test ys ≡ 0 = ap (λ m. looked_of m test ys) none in
    omega (arith, nothing)
looked_on test (suc n) [] ys =
    let all : suc n - 0 ≡ suc n = omega arith in
    omega (arith, ap (λ m. looked_of m test ys) all)
looked_on {A} test (suc n) (x ∷ xs) ys = by (test x) (looked_on test n xs ys) (looked_on test (suc n) xs ys)
  where
    by : (b : Bool) → looked_of n test (xs ++ ys) ≡ looked_of n test xs + looked_of (n - length (filter test xs)) test ys
        → looked_of (suc n) test (xs ++ ys) ≡ looked_of (suc n) test xs + looked_of (suc n - length (filter test xs)) test ys
        → suc (if b then looked_of n test (xs ++ ys) else looked_of (suc n) test (xs ++ ys))
        ≡ suc (if b then looked_of n test xs else looked_of (suc n) test xs) + looked_of (suc n - length (cond b (x ∷ filter test xs) (filter test xs))) test ys
    by true one other =
        let fewer : n - length (filter test xs) ≡ suc n - suc (length (filter test xs)) = omega arith in
        omega (arith, one, ap (λ m. looked_of m test ys) fewer)
    by false one other = omega (arith, other)

-- **A look at a token is paid for each candidate that is checked.**
pub each_paid : (test : DecoratedKey × Partition → Bool) (limit : Option ℕ) (gs : List Group) → looked limit test (rows_in gs) ≤ looks (λ token. 1) test limit gs
each_paid test None [] = omega arith
each_paid test None (g ∷ gs) = omega (arith, length-append g.rows (rows_in gs), each_paid test None gs)
each_paid test (Some zero) [] = omega arith
each_paid test (Some zero) (g ∷ gs) = omega arith
each_paid test (Some (suc n)) [] = omega arith
each_paid test (Some (suc n)) (g ∷ gs) = omega (arith, looked_on test (suc n) g.rows (rows_in gs), each_paid test (Some (suc n - length (filter test g.rows))) gs)
