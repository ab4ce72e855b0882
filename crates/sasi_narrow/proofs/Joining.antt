-- What the loops come to: the keys of a map with a token, and those that one relation more leaves.
use Rattle.std.proofs.Common.{◌≡◌, ℕ, ◌+◌, ◌≤◌, Bool, true, false, cond, ◌&&◌, ◌||◌, nat_eq, List, [], ◌∷◌, length, drop, refl, sym, ◌∙◌, ap, add-one}
use Rattle.std.specs.List.{filter, list_any}
use Rattle.std.proofs.lemmas.List.{drop_all}
use Rattle.sasi_types.specs.declared.decorated_key.DecoratedKey.{DecoratedKey}
use Rattle.sasi_model.specs.Tokens.{same}
use Rattle.sasi_dataread.specs.declared.token_keys.PlacedKey.{PlacedKey}
use Rattle.sasi_ranges.specs.declared.entry.Entry.{Entry}
use Rattle.sasi_narrow.specs.declared.part_hits.PartHits.{PartHits}
use Rattle.sasi_narrow.specs.Narrowing.{hit_in_map, is_left, some_hit}
use Rattle.sasi_narrow.specs.inside.KeyRefs.{has_key}
use Rattle.sasi_narrow.proofs.Refs.{Ref, shared, shared_has}

-- ---- the keys of a map

or_false : (b : Bool) → (b || false) ≡ b
or_false true = refl
or_false false = refl

module _ {X : Type 0} (key : X → List ℕ) where
  abbrev one_of : List ℕ → List X → Bool
  one_of bytes xs = list_any (λ x. same bytes (key x)) xs

  pub all_added : (hits : List Ref) (xs : List X) (i : ℕ) → length xs ≤ i → (bytes : List ℕ) → has_key bytes hits ≡ (has_key bytes hits || one_of bytes (drop i xs))
  all_added hits xs i past bytes = sym (or_false (has_key bytes hits)) ∙ ap (λ (l : List X). has_key bytes hits || one_of bytes l) (sym (drop_all i xs past))

filter_any : {X : Type 0} (p q : X → Bool) (xs : List X) → list_any p (filter q xs) ≡ list_any (λ x. q x && p x) xs
filter_any p q [] = refl
filter_any p q (x ∷ xs) = by (q x) (filter_any p q xs)
  where
    by : (b : Bool) → list_any p (filter q xs) ≡ list_any (λ x. q x && p x) xs → list_any p (cond b (x ∷ filter q xs) (filter q xs)) ≡ ((b && p x) || list_any (λ x. q x && p x) xs)
    by true rest = ap (λ b. p x || b) rest
    by false rest = rest

pub map_hits_are : (token : ℕ) (found keys : List DecoratedKey) → keys ≡ filter (λ (key : DecoratedKey). nat_eq key.token token) found
    → (bytes : List ℕ) → list_any (λ (key : DecoratedKey). same bytes key.key) keys ≡ hit_in_map token found bytes
map_hits_are token found keys is bytes =
    ap (list_any (λ (key : DecoratedKey). same bytes key.key)) is ∙ filter_any (λ (key : DecoratedKey). same bytes key.key) (λ (key : DecoratedKey). nat_eq key.token token) found

-- ---- relations one by one

pub one_relation : (token : ℕ) (given : Entry → Bool) (keys : List (List PlacedKey)) (parts : List PartHits) (leaf : ℕ) (others left new : List Ref) (bytes : List ℕ) → new ≡ shared others left
    → has_key bytes others ≡ some_hit token given keys parts leaf bytes → has_key bytes left ≡ is_left token given keys parts leaf bytes → has_key bytes new ≡ is_left token given keys parts (leaf + 1) bytes
one_relation token given keys parts leaf others left new bytes is hits so_far =
    ap (has_key bytes) is ∙ shared_has others left bytes ∙ ap (λ b. b && has_key bytes left) hits ∙ ap (λ b. some_hit token given keys parts leaf bytes && b) so_far
    ∙ turned (some_hit token given keys parts leaf bytes) (is_left token given keys parts leaf bytes)
    ∙ ap (λ n. is_left token given keys parts n bytes) (sym (add-one leaf))
  where
    turned : (a b : Bool) → (a && b) ≡ (b && a)
    turned true true = refl
    turned true false = refl
    turned false true = refl
    turned false false = refl
