-- A binary search for a key.
use Rattle.std.proofs.Common.{◌≡◌, ℕ, zero, suc, ◌+◌, ◌<◌, ◌≤◌, false, List, [], ◌∷◌, length, map, get_or, Ok, Err, refl, sym, ap, subst, ◌∙◌, arith, inl, inr, ⊎_elim, ◌⊎◌}
use Rattle.std.specs.Prelude.{Contains}
use Rattle.std.specs.declared.cmp.Ordering.TheVariants.{Less, Equal, Greater}
use Rattle.std.specs.Cmp.Lexicographic.{nat_list_cmp_total, same_text, texts_ties}
use Rattle.std.specs.List.{AllByRecursion}
use Rattle.std.specs.List.Sorted.{IsBinarySearchResult, IsPartitionPoint, IsSearchInRange, IsSortedBy, IsStrictlySortedBy}
use Rattle.std.specs.Ordering.{is_eq, is_lt, ordering_reverse}
use Rattle.std.proofs.lemmas.Bool.{false_from_ne_true}
use Rattle.std.proofs.lemmas.Cmp.{tied_itself}
use Rattle.std.proofs.lemmas.List.Sorted.{searchable_from_sorted}
use Rattle.sasi_types.specs.Key.{key_cmp, key_eq}
use Rattle.sasi_host.specs.Names.{Bytes}
use Rattle.sasi_dataread.specs.declared.token_keys.PlacedKey.{PlacedKey}
use Rattle.sasi_lookup.specs.KeySearches.{HasNo, KeysRise}
use Rattle.sasi_lookup.proofs.ContentLaws.{is_same_key}

abbrev key_of : PlacedKey → Bytes
key_of placed = placed.key

-- ---- keys that rise are sorted

all_at : (x : Bytes) (keys : List PlacedKey) (i : ℕ) (d : PlacedKey) → AllByRecursion (λ k. key_cmp x k ≡ Less) (map key_of keys) → i < length keys → key_cmp x (get_or keys i d).key ≡ Less
all_at x [] i d all within = absurd (omega (arith, within))
all_at x (y ∷ keys) zero d all within = all.0
all_at x (y ∷ keys) (suc i) d all within = all_at x keys i d all.1 (omega (arith, within))

not_below : (x y : Bytes) → key_cmp x y ≡ Less → is_lt (key_cmp y x) ≡ false
not_below x y below = ap is_lt (nat_list_cmp_total.antisymm y x ∙ ap ordering_reverse below)

sorted : (keys : List PlacedKey) → KeysRise keys → IsSortedBy (λ (a b : PlacedKey). is_lt (key_cmp a.key b.key)) keys
unfolding IsStrictlySortedBy
sorted [] rise k d low within = absurd (omega (arith, within))
sorted (x ∷ keys) rise zero d low within = not_below x.key (get_or keys 0 d).key (all_at x.key keys 0 d rise.0 (omega (arith, within)))
sorted (x ∷ keys) rise (suc k) d low within =
    let next : suc (k + 1) ≡ suc k + 1 = omega arith in
    subst (λ n. is_lt (key_cmp (get_or (x ∷ keys) n d).key (get_or keys k d).key) ≡ false) next (sorted keys rise.1 k d (omega arith) (omega (arith, within)))

-- ---- the search

tied : (a b : Bytes) → key_cmp a b ≡ Equal → a ≡ b
tied a b is = same_text a b (sym (texts_ties a b ∙ ap is_eq is))

-- what is found is the key's
pub found_there : (keys : List PlacedKey) (key : Bytes) (i : ℕ) (d : PlacedKey) → IsSearchInRange (Ok i) (length keys) → IsBinarySearchResult (λ (y : PlacedKey). key_cmp y.key key) keys (Ok i)
    → Contains keys (record { place = (get_or keys i d).place; key = key })
found_there keys key i d within is = (i, within, other keys i within ∙ ap (λ (k : Bytes). with_key k) same)
  where
    with_key : Bytes → PlacedKey
    with_key k = record { place = (get_or keys i d).place; key = k }

    same : (get_or keys i d).key ≡ key
    same = tied (get_or keys i d).key key (is d)

    other : (ks : List PlacedKey) (n : ℕ) → n < length ks → get_or ks n (with_key key) ≡ get_or ks n d
    other [] n in_range = absurd (omega (arith, in_range))
    other (k ∷ ks) zero in_range = refl
    other (k ∷ ks) (suc n) in_range = other ks n (omega (arith, in_range))

-- where none is found, none is there
pub found_nowhere : (keys : List PlacedKey) (key : Bytes) (i : ℕ) → IsBinarySearchResult (λ (y : PlacedKey). key_cmp y.key key) keys (Err i) → KeysRise keys → HasNo key keys
found_nowhere keys key i is rise = every keys (λ n d within. not_here n d within)
  where
    ends : IsPartitionPoint (λ (y : PlacedKey). key_cmp y.key key ≡ Less) (λ (y : PlacedKey). key_cmp y.key key ≡ Greater) keys i
    ends = is (searchable_from_sorted nat_list_cmp_total key_of keys key (sorted keys rise))

    either : (k i : ℕ) → (k < i) ⊎ (i ≤ k)
    either k zero = inr (omega arith)
    either zero (suc i) = inl (omega arith)
    either (suc k) (suc i) = ⊎_elim (λ l. inl (omega (arith, l))) (λ l. inr (omega (arith, l))) (either k i)

    not_here : (n : ℕ) (d : PlacedKey) → n < length keys → key_eq key (get_or keys n d).key ≡ false
    not_here n d within = false_from_ne_true (key_eq key (get_or keys n d).key) (λ equal. (
        let same : key_cmp (get_or keys n d).key key ≡ Equal = ap (λ (k : Bytes). key_cmp (get_or keys n d).key k) (is_same_key key (get_or keys n d).key equal) ∙ tied_itself nat_list_cmp_total (get_or keys n d).key in
        ⊎_elim
        (λ low. (let no : Less ≡ Equal = sym (ends.0 n d (omega arith) low) ∙ same in cc))
        (λ high. (let no : Greater ≡ Equal = sym (ends.1 n d high within) ∙ same in cc))
        (either n i)))

    every : (ks : List PlacedKey) → ((n : ℕ) (d : PlacedKey) → n < length ks → key_eq key (get_or ks n d).key ≡ false) → HasNo key ks
    every [] none = tt
    every (k ∷ ks) none = (none 0 k (omega arith), every ks (λ n d within. none (suc n) d (omega (arith, within))))
