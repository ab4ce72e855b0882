-- For callers: the tests of pairs, in the words of a search's clauses.
use Rattle.std.proofs.Common.{◌≡◌, ℕ, zero, suc, ◌<◌, Bool, true, false, ◌||◌, nat_eq, List, [], ◌∷◌, length, slice_index_or, refl, ap, ◌∙◌, arith}
use Rattle.std.proofs.lemmas.Bool.{and_parts, or_left, or_right}
use Rattle.std.proofs.lemmas.Bool.Decides.{nat_tests}
use Rattle.std.proofs.lemmas.Map.Views.{Contains-from_any}
use Rattle.std.specs.List.{list_any}
use Rattle.sasi_types.specs.declared.tree.Pair.{Pair}
use Rattle.sasi_treemerge.specs.Merges.{IsPairOf}
use Rattle.sasi_candidates.specs.Searches.{any_pair, same_pair}

pub same_numbers : (a b : ℕ) → nat_eq a b ≡ true → a ≡ b
same_numbers a b e = grind (arith, nat_tests)

pub equal_pairs : (a b : Pair) → same_pair a b ≡ true → a ≡ b
equal_pairs a b e =
    let parts = and_parts (nat_eq a.token b.token) (nat_eq a.place b.place) e in
    let token = same_numbers a.token b.token parts.0 in
    let place = same_numbers a.place b.place parts.1 in
    λ i. record { token = token i; place = place i }

pub pair_itself : (pair : Pair) → same_pair pair pair ≡ true
pair_itself pair = grind (arith, nat_tests)

pub any_at : {X : Type 0} (test : X → Bool) (xs : List X) (x : X) (k : ℕ) → k < length xs → slice_index_or xs k x ≡ x → test x ≡ true → list_any test xs ≡ true
any_at test [] x k lt at is = absurd (omega (arith, lt))
any_at test (y ∷ ys) x zero lt at is = or_left (test y) (list_any test ys) (ap test at ∙ is)
any_at test (y ∷ ys) x (suc k) lt at is = or_right (test y) (list_any test ys) (any_at test ys x k (omega (arith, lt)) at is)

-- a pair of one of the lists passes the test of being this one
pub listed_pair : (pair : Pair) (lists : List (List Pair)) → IsPairOf lists pair → any_pair (same_pair pair) lists ≡ true
listed_pair pair lists is =
    any_at (list_any (same_pair pair)) lists is.pairs is.listed.0 is.listed.1 is.listed.2
    (any_at (same_pair pair) is.pairs pair is.has.0 is.has.1 is.has.2 (pair_itself pair))

-- and what passes it is one of them
pub pair_listed : (pair : Pair) (lists : List (List Pair)) → any_pair (same_pair pair) lists ≡ true → IsPairOf lists pair
pair_listed pair [] e = cc
pair_listed pair (pairs ∷ lists) e = by (list_any (same_pair pair) pairs) refl e (pair_listed pair lists)
  where
    by : (b : Bool) → list_any (same_pair pair) pairs ≡ b → (b || any_pair (same_pair pair) lists) ≡ true → (any_pair (same_pair pair) lists ≡ true → IsPairOf lists pair) → IsPairOf (pairs ∷ lists) pair
    by true here found later = record { pairs = pairs; listed = (0, omega arith, refl); has = Contains-from_any equal_pairs pair pairs here }
    by false here found later = (let is = later found in record { pairs = is.pairs; listed = (suc is.listed.0, omega (arith, is.listed.1), is.listed.2); has = is.has })
