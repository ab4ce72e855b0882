-- The pairs of several lists together: sorted, and each once.
use Rattle.std.proofs.Common.{◌≡◌, ℕ, zero, suc, ◌+◌, ◌≤◌, Bool, true, false, List, [], ◌∷◌, ◌++◌, length, cond, sym, ◌∙◌, ap, subst, arith}
use Rattle.std.specs.Prelude.{nat_eq}
use Rattle.std.specs.List.{dedup, dedup_from}
use Rattle.std.specs.List.Sorted.{IsPermutation, IsSorted, IsStrictlySortedBy}
use Rattle.std.specs.Ordering.{eq_by_cmp, nat_cmp}
use Rattle.std.specs.Cmp.{IsTotalOrder, both_tied, nat_cmp_total, unsigned_ties}
use Rattle.std.proofs.lemmas.Cmp.{on_total, then_total}
use Rattle.std.proofs.lemmas.List.Kept.{IsStrictlySortedBy-dedup}
use Rattle.std.proofs.lemmas.List.Sorted.{length_permutation}
use Rattle.std.proofs.lemmas.Map.Lookups.{CmpEqualImpliesEq, exact_pairs, exact_unsigned}
use Rattle.sasi_types.specs.declared.tree.Pair.{Pair}
use Rattle.sasi_segments.specs.Sorting.{sort}
use Rattle.sasi_segments.proofs.Sorting.{sort_is, sort_permutation, sort_sorted}
use Rattle.sasi_tokentree.specs.Format.{IsBefore, IsRising, pair_at}
use Rattle.sasi_indexwrite.specs.Unions.{pair_cmp, same_pair, union_of}
use Rattle.sasi_indexwrite.proofs.Grouping.{pairs_before}

pair_total : IsTotalOrder pair_cmp
pair_total = then_total (on_total (λ (p : Pair). p.token) nat_cmp_total) (on_total (λ (p : Pair). p.place) nat_cmp_total)

-- pairs that tie are one
pair_exact : CmpEqualImpliesEq pair_cmp
pair_exact a b tie = ap (λ (q : ℕ × ℕ). record { token = q.0; place = q.1 }) (exact_pairs nat_cmp nat_cmp exact_unsigned exact_unsigned (a.token, a.place) (b.token, b.place) tie)

-- sorted, and then each once
union_is : (old sorted new : List Pair) → IsPermutation old sorted → IsSorted pair_cmp sorted → new ≡ dedup same_pair sorted → new ≡ union_of old
union_is old sorted new moved rising is = is ∙ ap (λ (l : List Pair). dedup same_pair l) (sym (sort_is pair_total pair_exact old sorted moved rising))

-- each pair of a sorted list comes before the next one
rising_of : (pairs : List Pair) → IsStrictlySortedBy pair_cmp pairs → IsRising pairs
unfolding IsStrictlySortedBy
rising_of [] sorted index lt = absurd (omega arith)
rising_of (x ∷ []) sorted index lt = absurd (omega arith)
rising_of (x ∷ y ∷ pairs) sorted zero lt = pairs_before x y sorted.0.0
rising_of (x ∷ y ∷ pairs) sorted (suc index) lt =
    let e : suc (index + 1) ≡ suc index + 1 = omega arith in
    subst (λ (n : ℕ). IsBefore (pair_at (y ∷ pairs) index) (pair_at (x ∷ y ∷ pairs) n)) e (rising_of (y ∷ pairs) sorted.1 index (omega (arith, lt)))

ties : (a b : Pair) → same_pair a b ≡ eq_by_cmp pair_cmp a b
ties a b = both_tied (nat_eq a.token b.token) (nat_eq a.place b.place) (nat_cmp a.token b.token) (nat_cmp a.place b.place) (unsigned_ties a.token b.token) (unsigned_ties a.place b.place)

pub union_rising : (pairs : List Pair) → IsRising (union_of pairs)
union_rising pairs = rising_of (union_of pairs) (IsStrictlySortedBy-dedup pair_total ties (sort pair_cmp pairs) (sort_sorted pair_total pairs))

-- of some pairs some are left
pub union_some : (pairs : List Pair) → 1 ≤ length pairs → 1 ≤ length (union_of pairs)
union_some pairs some = some_of (sort pair_cmp pairs) (omega (arith, some, length_permutation pairs (sort pair_cmp pairs) (sort_permutation pair_cmp pairs)))
  where
    from_one : (xs : List Pair) (x : Pair) → 1 ≤ length (dedup_from same_pair x xs)
    from_one [] x = omega arith
    from_one (y ∷ xs) x = by_test (same_pair y x) (from_one xs x)
      where
        by_test : (b : Bool) → 1 ≤ length (dedup_from same_pair x xs) → 1 ≤ length (cond b (dedup_from same_pair x xs) (x ∷ dedup_from same_pair y xs))
        by_test true rest = rest
        by_test false rest = omega arith

    some_of : (xs : List Pair) → 1 ≤ length xs → 1 ≤ length (dedup same_pair xs)
    some_of [] some = absurd (omega arith)
    some_of (x ∷ xs) some = from_one xs x

-- what was copied, sorted, and has each once
pub union_made : (old copied sorted new pushed none all : List Pair) → copied ≡ old → IsPermutation copied sorted → IsSorted pair_cmp sorted → new ≡ dedup same_pair sorted → pushed ≡ new → none ≡ [] → all ≡ none ++ pushed → all ≡ union_of old
union_made old copied sorted new pushed none all is moved rising once same empty joined =
    joined ∙ ap (λ (l : List Pair). l ++ pushed) empty ∙ same ∙ union_is copied sorted new moved rising once ∙ ap (λ (l : List Pair). union_of l) is
