-- A binary search of a list that rises by an order tells whether an item that ties is there.
use Rattle.std.proofs.Common.{◌≡◌, ℕ, ◌+◌, ◌<◌, Bool, true, false, List, [], ◌∷◌, length, Ok, Err, get_or, sym, ◌∙◌, ap, arith, ⊎_elim}
use Rattle.std.specs.Prelude.{is_ok}
use Rattle.std.specs.declared.cmp.Ordering.{Ordering}
use Rattle.std.specs.declared.cmp.Ordering.TheVariants.{Less, Equal, Greater}
use Rattle.std.specs.declared.result.Result.{Result}
use Rattle.std.specs.Cmp.{IsTotalOrder}
use Rattle.std.specs.List.{list_any}
use Rattle.std.specs.List.Sorted.{IsBinarySearchResult, IsPartitionPoint, IsSearchInRange, IsSorted, IsStrictlySortedBy}
use Rattle.std.specs.Ordering.{eq_by_cmp, is_eq, is_lt, ordering_reverse}
use Rattle.std.proofs.lemmas.Bool.{cases_lt}
use Rattle.std.proofs.lemmas.Cmp.{tied_back}
use Rattle.std.proofs.lemmas.List.Folds.{list_any_at, list_any_none}
use Rattle.std.proofs.lemmas.List.Sorted.{searchable_from_sorted}
use Rattle.std.proofs.lemmas.Map.Keys.{Less-from_sorted}

module _ {K : Type 0} {cmp : K → K → Ordering} (total : IsTotalOrder cmp) {X : Type 0} (key : X → K) where
  not_below : (x y : K) → cmp x y ≡ Less → is_lt (cmp y x) ≡ false
  not_below x y below = ap is_lt (total.antisymm y x ∙ ap ordering_reverse below)

  -- what rises strictly is sorted
  pub sorted_strictly : (xs : List X) → IsStrictlySortedBy (λ a b. cmp (key a) (key b)) xs → IsSorted (λ a b. cmp (key a) (key b)) xs
  sorted_strictly xs rise k d from within =
      not_below (key (get_or xs k d)) (key (get_or xs (k + 1) d)) (Less-from_sorted (λ a b. cmp (key a) (key b)) xs k (k + 1) d rise (omega arith) within)

  module _ (k : K) where
    abbrev ties : X → Bool
    ties y = eq_by_cmp cmp k (key y)

    found : (xs : List X) (i : ℕ) → i < length xs → ((d : X) → cmp (key (get_or xs i d)) k ≡ Equal) → list_any ties xs ≡ true
    found [] i within tie = absurd (omega (arith, within))
    found (x ∷ xs) i within tie = list_any_at ties (x ∷ xs) i x within (ap is_eq (tied_back total (key (get_or (x ∷ xs) i x)) k (tie x)))

    unlike_less : (y : X) → cmp (key y) k ≡ Less → ties y ≡ false
    unlike_less y less = ap is_eq (total.antisymm k (key y) ∙ ap ordering_reverse less)

    unlike_more : (y : X) → cmp (key y) k ≡ Greater → ties y ≡ false
    unlike_more y more = ap is_eq (total.antisymm k (key y) ∙ ap ordering_reverse more)

    missing : (xs : List X) (i : ℕ) → IsPartitionPoint (λ y. cmp (key y) k ≡ Less) (λ y. cmp (key y) k ≡ Greater) xs i → list_any ties xs ≡ false
    missing xs i ends = list_any_none ties xs (λ j d within. ⊎_elim
        (λ low. unlike_less (get_or xs j d) (ends.0 j d (omega arith) low))
        (λ high. unlike_more (get_or xs j d) (ends.1 j d high within))
        (cases_lt j i))

    -- **A search tells whether an item ties.**
    pub search_tells : (xs : List X) (r : Result ℕ ℕ) → IsStrictlySortedBy (λ a b. cmp (key a) (key b)) xs → IsSearchInRange r (length xs) → IsBinarySearchResult (λ y. cmp (key y) k) xs r → is_ok r ≡ list_any ties xs
    search_tells xs (Ok i) rise within is = sym (found xs i within is)
    search_tells xs (Err i) rise within is = sym (missing xs i (is (searchable_from_sorted total key xs k (sorted_strictly xs rise))))
