-- Lists that strictly rise.
use Rattle.std.proofs.Common.{◌≡◌, Bool, true, false, ◌&&◌, ◌||◌, List, [], ◌∷◌, ◌++◌, map, refl, sym, ap, ap₂, ◌∙◌, subst}
use Rattle.std.specs.Cmp.{IsTotalOrder}
use Rattle.std.specs.List.{AllByRecursion, list_any}
use Rattle.std.specs.List.Sorted.{IsStrictlySortedBy}
use Rattle.std.specs.Ordering.{is_eq, is_lt, ordering_reverse, ordering_then}
use Rattle.std.specs.declared.cmp.Ordering.{Ordering}
use Rattle.std.specs.declared.cmp.Ordering.TheVariants.{Less, Equal, Greater}
use Rattle.std.proofs.lemmas.Cmp.{tied_itself}
use Rattle.std.proofs.lemmas.Map.Lookups.{CmpEqualImpliesEq}
use Rattle.sasi_types.specs.ListKind.{list_cmp}
use Rattle.sasi_types.specs.declared.list_kind.ListKind.{ListKind}
use Rattle.sasi_types.specs.declared.list_kind.ListKind.TheVariants.{Stored, Spill}
use Rattle.sasi_types.specs.declared.tree.Pair.{Pair}
use Rattle.sasi_segments.specs.declared.posting.Posting.{Posting}
use Rattle.sasi_segments.specs.Postings.{posting_cmp, posting_of}
use Rattle.sasi_indexwrite.specs.Unions.{pair_cmp}
use Rattle.sasi_indexwrite.proofs.Lists.{all_join}

-- ---- which of them have the same items

module _ {X : Type 0} {cmp : X → X → Ordering} (total : IsTotalOrder cmp) (exact : CmpEqualImpliesEq cmp) where
  abbrev ties : X → X → Bool
  ties x y = is_eq (cmp x y)

  -- what is below the first is none of them
  none_behind : (x : X) (ys : List X) → AllByRecursion (λ y. cmp x y ≡ Less) ys → list_any (ties x) ys ≡ false
  none_behind x [] all = refl
  none_behind x (y ∷ ys) all = ap₂ (λ a b. a || b) (ap is_eq all.0) (none_behind x ys all.1)

  below_all : (x y : X) (ys : List X) → cmp x y ≡ Less → AllByRecursion (λ z. cmp y z ≡ Less) ys → AllByRecursion (λ z. cmp x z ≡ Less) ys
  below_all x y [] less all = tt
  below_all x y (z ∷ ys) less all = (total.trans x y z less all.0, below_all x y ys less all.1)

  not_there : (x y : X) (ys : List X) → cmp x y ≡ Less → AllByRecursion (λ z. cmp y z ≡ Less) ys → list_any (ties x) (y ∷ ys) ≡ false
  not_there x y ys less all = none_behind x (y ∷ ys) (less, below_all x y ys less all)

  there : (x : X) (xs : List X) → list_any (ties x) (x ∷ xs) ≡ true
  there x xs = ap (λ o. is_eq o || list_any (ties x) xs) (tied_itself total x)

  -- a test of what comes behind the first
  abbrev behind : (X → Bool) → X → X → Bool
  behind test x z = is_lt (cmp x z) && test z

  test_behind : (test : X → Bool) (x : X) (xs : List X) → AllByRecursion (λ z. cmp x z ≡ Less) xs → list_any (behind test x) xs ≡ list_any test xs
  test_behind test x [] all = refl
  test_behind test x (z ∷ xs) all = ap₂ (λ a b. a || b) (ap (λ o. is_lt o && test z) all.0) (test_behind test x xs all.1)

  test_rest : (test : X → Bool) (x : X) (xs : List X) → AllByRecursion (λ z. cmp x z ≡ Less) xs → list_any (behind test x) (x ∷ xs) ≡ list_any test xs
  test_rest test x xs all = ap (λ o. (is_lt o && test x) || list_any (behind test x) xs) (tied_itself total x) ∙ test_behind test x xs all

  abbrev AreAlike : List X → List X → Type 0
  AreAlike xs ys = (test : X → Bool) → list_any test xs ≡ list_any test ys

  -- **Two lists that strictly rise, and have the same items, are one.** That they have the same is said for every test of an item.
  pub one_list : (xs ys : List X) → IsStrictlySortedBy cmp xs → IsStrictlySortedBy cmp ys → AreAlike xs ys → xs ≡ ys
  unfolding IsStrictlySortedBy
  one_list [] [] rises rise alike = refl
  one_list [] (y ∷ ys) rises rise alike = absurd (never (alike (λ _. true)))
    where
      never : false ≡ true → ⊥
      never e = cc
  one_list (x ∷ xs) [] rises rise alike = absurd (never (alike (λ _. true)))
    where
      never : true ≡ false → ⊥
      never e = cc
  one_list (x ∷ xs) (y ∷ ys) rises rise alike = by (cmp x y) refl (λ tails. one_list xs ys rises.1 rise.1 tails)
    where
      never : true ≡ false → ⊥
      never e = cc

      by : (o : Ordering) → cmp x y ≡ o → (AreAlike xs ys → xs ≡ ys) → x ∷ xs ≡ y ∷ ys
      by Less less rest = absurd (never (sym (there x xs) ∙ alike (ties x) ∙ not_there x y ys less rise.0))
      by Greater greater rest =
          let less : cmp y x ≡ Less = total.antisymm y x ∙ ap ordering_reverse greater in
          absurd (never (sym (there y ys) ∙ sym (alike (ties y)) ∙ not_there y x xs less rises.0))
      by Equal tie rest =
          let same : x ≡ y = exact x y tie in
          let above : AllByRecursion (λ z. cmp x z ≡ Less) ys = subst (λ (w : X). AllByRecursion (λ z. cmp w z ≡ Less) ys) (sym same) rise.0 in
          ap₂ (λ (w : X) (l : List X). w ∷ l) same
          (rest (λ test. sym (test_rest test x xs rises.0) ∙ alike (behind test x) ∙ ap (λ (w : X). list_any (behind test x) (w ∷ ys)) (sym same) ∙ test_rest test x ys above))

-- ---- stored postings, and then those of the spill

-- postings of the spill rise by their pairs
pub spill_rises : (pairs : List Pair) → IsStrictlySortedBy pair_cmp pairs → IsStrictlySortedBy posting_cmp (map (posting_of [] Spill) pairs)
unfolding IsStrictlySortedBy
spill_rises [] rises = tt
spill_rises (pair ∷ pairs) rises = (above pairs rises.0, spill_rises pairs rises.1)
  where
    above : (others : List Pair) → AllByRecursion (λ q. pair_cmp pair q ≡ Less) others → AllByRecursion (λ q. posting_cmp (posting_of [] Spill pair) q ≡ Less) (map (posting_of [] Spill) others)
    above [] all = tt
    above (q ∷ others) all = (all.0, above others all.1)

-- and each of them is in the spill
pub spill_each : (pairs : List Pair) → AllByRecursion (λ p. p.list ≡ Spill) (map (posting_of [] Spill) pairs)
spill_each [] = tt
spill_each (pair ∷ pairs) = (refl, spill_each pairs)

stored_first : (p q : Posting) → p.list ≡ Stored → q.list ≡ Spill → posting_cmp p q ≡ Less
stored_first p q stored spill = by p.list q.list stored spill _
  where
    by : (a b : ListKind) → a ≡ Stored → b ≡ Spill → (rest : Ordering) → ordering_then (list_cmp a b) rest ≡ Less
    by Stored Spill e f rest = refl
    by Stored Stored e f rest = cc
    by Spill b e f rest = cc

pub stored_then_spill : (stored spill : List Posting) → IsStrictlySortedBy posting_cmp stored → IsStrictlySortedBy posting_cmp spill → AllByRecursion (λ p. p.list ≡ Stored) stored → AllByRecursion (λ p. p.list ≡ Spill) spill
    → IsStrictlySortedBy posting_cmp (stored ++ spill)
unfolding IsStrictlySortedBy
stored_then_spill [] spill rises rise first last = rise
stored_then_spill (p ∷ stored) spill rises rise first last = (
  all_join (λ q. posting_cmp p q ≡ Less) stored spill rises.0 (above spill last),
  stored_then_spill stored spill rises.1 rise first.1 last,
)
  where
    above : (others : List Posting) → AllByRecursion (λ q. q.list ≡ Spill) others → AllByRecursion (λ q. posting_cmp p q ≡ Less) others
    above [] all = tt
    above (q ∷ others) all = (stored_first p q first.0 all.0, above others all.1)
