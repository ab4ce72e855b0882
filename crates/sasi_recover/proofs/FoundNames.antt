-- A binary search of sorted names.
use Rattle.std.proofs.Common.{◌≡◌, ℕ, zero, suc, ◌+◌, ◌<◌, ◌≤◌, Bool, true, false, List, [], ◌∷◌, length, Ok, Err, get_or, refl, sym, ◌∙◌, ap, subst, arith, ⊎_elim, ◌⊎◌, inl, inr}
use Rattle.std.specs.Prelude.{Contains, is_ok}
use Rattle.std.specs.declared.cmp.Ordering.{Ordering}
use Rattle.std.specs.declared.cmp.Ordering.TheVariants.{Less, Equal, Greater}
use Rattle.std.specs.declared.result.Result.{Result}
use Rattle.std.specs.List.{AllByRecursion, list_any}
use Rattle.std.specs.List.Sorted.{IsBinarySearchResult, IsNonDecreasingBy, IsPartitionPoint, IsSearchInRange, IsSorted, IsStrictlySortedBy}
use Rattle.std.specs.Ordering.{is_lt, ordering_index, ordering_reverse}
use Rattle.std.proofs.lemmas.Cmp.{tied_itself}
use Rattle.std.proofs.lemmas.List.Sorted.{IsNonDecreasingBy-from_all_adjacent}
use Rattle.sasi_host.specs.declared.name.FileName.{FileName}
use Rattle.sasi_host.specs.Names.{name_cmp, name_eq}
use Rattle.sasi_host.specs.NameLaws.{names_exact, names_total}
use Rattle.sasi_recover.proofs.NameLists.{any_of, of_any}

-- a lower name isn't further behind
lower : (x y file : FileName) → name_cmp x y ≡ Less → ordering_index (name_cmp x file) ≤ ordering_index (name_cmp y file)
lower x y file below = by (name_cmp y file) refl
  where
    at_most : (o : Ordering) → ordering_index o ≤ 2
    at_most Less = omega arith
    at_most Equal = omega arith
    at_most Greater = omega arith

    by : (o : Ordering) → name_cmp y file ≡ o → ordering_index (name_cmp x file) ≤ ordering_index (name_cmp y file)
    by Less is = omega (arith, ap ordering_index (names_total.trans x y file below is))
    by Equal is = omega (arith, ap ordering_index (subst (λ (n : FileName). name_cmp x n ≡ Less) (names_exact y file is) below))
    by Greater is = omega (arith, at_most (name_cmp x file), ap ordering_index is)

-- a name that isn't below another isn't further behind
no_lower : (x y file : FileName) → is_lt (name_cmp y x) ≡ false → ordering_index (name_cmp x file) ≤ ordering_index (name_cmp y file)
no_lower x y file is = by (name_cmp y x) refl is
  where
    by : (o : Ordering) → name_cmp y x ≡ o → is_lt o ≡ false → ordering_index (name_cmp x file) ≤ ordering_index (name_cmp y file)
    by Less less is = cc
    by Equal same is = omega (arith, ap (λ (n : FileName). ordering_index (name_cmp n file)) (names_exact y x same))
    by Greater above is = lower x y file (names_total.antisymm x y ∙ ap ordering_reverse above)

rises : (file : FileName) (names : List FileName) → IsSorted name_cmp names → IsNonDecreasingBy (λ y. ordering_index (name_cmp y file)) names
rises file names sorted = IsNonDecreasingBy-from_all_adjacent (λ y. ordering_index (name_cmp y file)) names
    (λ k d within. no_lower (get_or names k d) (get_or names (k + 1) d) file (sorted k d (omega arith) within))

-- ---- strictly sorted names

all_at : (P : FileName → Type 0) (names : List FileName) (i : ℕ) (d : FileName) → AllByRecursion P names → i < length names → P (get_or names i d)
all_at P [] i d all within = absurd (omega (arith, within))
all_at P (x ∷ names) zero d all within = all.0
all_at P (x ∷ names) (suc i) d all within = all_at P names i d all.1 (omega (arith, within))

not_below : (x y : FileName) → name_cmp x y ≡ Less → is_lt (name_cmp y x) ≡ false
not_below x y below = ap is_lt (names_total.antisymm y x ∙ ap ordering_reverse below)

-- they are sorted
pub sorted_strictly : (names : List FileName) → IsStrictlySortedBy name_cmp names → IsSorted name_cmp names
unfolding IsStrictlySortedBy
sorted_strictly [] strictly k d low within = absurd (omega (arith, within))
sorted_strictly (x ∷ names) strictly zero d low within = not_below x (get_or names 0 d) (all_at (λ y. name_cmp x y ≡ Less) names 0 d strictly.0 (omega (arith, within)))
sorted_strictly (x ∷ names) strictly (suc k) d low within =
    let next : suc (k + 1) ≡ suc k + 1 = omega arith in
    subst (λ n. is_lt (name_cmp (get_or (x ∷ names) n d) (get_or names k d)) ≡ false) next (sorted_strictly names strictly.1 k d (omega arith) (omega (arith, within)))

-- ---- a search

-- what is found is there
found_there : (names : List FileName) (file : FileName) (i : ℕ) → IsSearchInRange (Ok i) (length names) → IsBinarySearchResult (λ y. name_cmp y file) names (Ok i) → Contains names file
found_there names file i within is = (i, within, names_exact (get_or names i file) file (is file))

-- and what isn't found isn't there
found_nowhere : (names : List FileName) (file : FileName) (i : ℕ) → IsSorted name_cmp names → IsBinarySearchResult (λ y. name_cmp y file) names (Err i) → Contains names file → ⊥
found_nowhere names file i sorted is there = by (is (rises file names sorted)) (either there.0 i)
  where
    same : name_cmp (get_or names there.0 file) file ≡ Equal
    same = ap (λ (n : FileName). name_cmp n file) there.2 ∙ tied_itself names_total file

    either : (k i : ℕ) → (k < i) ⊎ (i ≤ k)
    either k zero = inr (omega arith)
    either zero (suc i) = inl (omega arith)
    either (suc k) (suc i) = ⊎_elim (λ l. inl (omega (arith, l))) (λ l. inr (omega (arith, l))) (either k i)

    by : IsPartitionPoint (λ y. name_cmp y file ≡ Less) (λ y. name_cmp y file ≡ Greater) names i → (there.0 < i) ⊎ (i ≤ there.0) → ⊥
    by ends (inl low) = (let two : Less ≡ Equal = sym (ends.0 there.0 file (omega arith) low) ∙ same in cc)
    by ends (inr high) = (let two : Greater ≡ Equal = sym (ends.1 there.0 file high there.1) ∙ same in cc)

not_both : (b : Bool) → (b ≡ true → ⊥) → b ≡ false
not_both true never = absurd (never refl)
not_both false never = refl

-- **A search of sorted names tells whether the name is among them.**
pub found_among : (names : List FileName) (file : FileName) (r : Result ℕ ℕ) → IsSorted name_cmp names → IsSearchInRange r (length names) → IsBinarySearchResult (λ y. name_cmp y file) names r → is_ok r ≡ list_any (name_eq file) names
found_among names file (Ok i) sorted within is = sym (any_of names file (found_there names file i within is))
found_among names file (Err i) sorted within is = sym (not_both (list_any (name_eq file) names) (λ has. found_nowhere names file i sorted is (of_any names file has)))
