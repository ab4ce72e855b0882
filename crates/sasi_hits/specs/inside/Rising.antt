-- The hits at pairs that rise.
use Rattle.std.specs.Prelude.{◌≡◌, ℕ, Bool, true, false, List, [], ◌∷◌}
use Rattle.std.proofs.Common.{ap, cond, refl, ◌∙◌}
use Rattle.std.specs.List.{AllByRecursion, filter}
use Rattle.std.specs.Ordering.{is_lt, nat_cmp, ordering_then}
use Rattle.std.specs.Cmp.{nat_cmp_total}
use Rattle.std.proofs.lemmas.Cmp.{tied_itself}
use Rattle.std.specs.declared.cmp.Ordering.{Ordering}
use Rattle.std.specs.declared.cmp.Ordering.TheVariants.{Less, Equal, Greater}
use Rattle.sasi_types.specs.declared.tree.Pair.{Pair}
use Rattle.sasi_treemerge.specs.Sources.{is_before, pair_cmp}
use Rattle.sasi_ranges.specs.Entries.{Above, Rises, entry_cmp}
use Rattle.sasi_hits.specs.Pairs.{PairsRise, entries_of, entry_of}

less_is : (r : Ordering) → is_lt r ≡ true → r ≡ Less
less_is Less e = refl
less_is Equal e = cc
less_is Greater e = cc

filtered_above : (test : Pair → Bool) (x : Pair) (ys : List Pair) → AllByRecursion (λ y. is_before x y ≡ true) ys → AllByRecursion (λ y. is_before x y ≡ true) (filter test ys)
filtered_above test x [] all = tt
filtered_above test x (y ∷ ys) all = by (test y) (filtered_above test x ys all.1)
  where
    by : (b : Bool) → AllByRecursion (λ y. is_before x y ≡ true) (filter test ys) → AllByRecursion (λ y. is_before x y ≡ true) (cond b (y ∷ filter test ys) (filter test ys))
    by true rest = (all.0, rest)
    by false rest = rest

-- some of the pairs that rise, rise
pub filter_rises : (test : Pair → Bool) (pairs : List Pair) → PairsRise pairs → PairsRise (filter test pairs)
filter_rises test [] rise = tt
filter_rises test (x ∷ xs) rise = by (test x) (filter_rises test xs rise.1)
  where
    by : (b : Bool) → PairsRise (filter test xs) → PairsRise (cond b (x ∷ filter test xs) (filter test xs))
    by true rest = (filtered_above test x xs rise.0, rest)
    by false rest = rest

-- with equal relations and parts, entries are in the order of their pairs
between : (t p : Ordering) → ordering_then (ordering_then (ordering_then t Equal) Equal) p ≡ ordering_then t p
between Less p = refl
between Equal p = refl
between Greater p = refl

tied : (n : ℕ) → nat_cmp n n ≡ Equal
tied n = tied_itself nat_cmp_total n

module _ (leaf part : ℕ) where
  same_order : (x y : Pair) → entry_cmp (entry_of leaf part x) (entry_of leaf part y) ≡ pair_cmp x y
  same_order x y =
      ap (λ (r : Ordering). ordering_then (ordering_then (ordering_then (nat_cmp x.token y.token) r) (nat_cmp part part)) (nat_cmp x.place y.place)) (tied leaf)
      ∙ ap (λ (r : Ordering). ordering_then (ordering_then (ordering_then (nat_cmp x.token y.token) Equal) r) (nat_cmp x.place y.place)) (tied part)
      ∙ between (nat_cmp x.token y.token) (nat_cmp x.place y.place)

  all_above : (x : Pair) (ys : List Pair) → AllByRecursion (λ y. is_before x y ≡ true) ys → AllByRecursion (Above (entry_of leaf part x)) (entries_of leaf part ys)
  all_above x [] all = tt
  all_above x (y ∷ ys) all = (same_order x y ∙ less_is (pair_cmp x y) all.0, all_above x ys all.1)

  -- the hits at pairs that rise, rise
  pub entries_rise : (pairs : List Pair) → PairsRise pairs → Rises (entries_of leaf part pairs)
  entries_rise [] rise = tt
  entries_rise (x ∷ xs) rise = (all_above x xs rise.0, entries_rise xs rise.1)
