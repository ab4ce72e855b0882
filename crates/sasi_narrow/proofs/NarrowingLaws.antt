-- For callers: laws of the keys that relations leave.
use Rattle.std.proofs.Common.{◌≡◌, ℕ, zero, suc, ◌+◌, Bool, true, false, ◌&&◌, ◌||◌, nat_eq, not, List, [], ◌∷◌, ◌++◌, Contains, length, slice_index_or, refl, sym, ◌∙◌, ap, arith, add-zero}
use Rattle.std.proofs.Math.Bool.{and-true, or_assoc}
use Rattle.std.specs.Cmp.{unsigned_ties}
use Rattle.std.specs.Cmp.Lexicographic.{lists_ties, nat_list_cmp_total}
use Rattle.std.specs.List.{list_any}
use Rattle.std.specs.List.Sorted.{IsStrictlySortedBy}
use Rattle.std.specs.Ordering.{is_eq, nat_cmp}
use Rattle.std.proofs.lemmas.Bool.{and_parts}
use Rattle.std.proofs.lemmas.Bool.Decides.{nat_tests}
use Rattle.std.proofs.lemmas.List.Folds.{list_any_at}
use Rattle.std.proofs.lemmas.Map.Lookups.{btree_set_from_contains, exact_bytes}
use Rattle.std.proofs.lemmas.Map.Views.{Contains-from_any}
use Rattle.sasi_types.specs.Key.{key_cmp}
use Rattle.sasi_model.specs.Tokens.{same}
use Rattle.sasi_dataread.specs.declared.token_keys.PlacedKey.{PlacedKey}
use Rattle.sasi_ranges.specs.declared.entry.Entry.{Entry}
use Rattle.sasi_narrow.specs.declared.part_hits.PartHits.{PartHits}
use Rattle.sasi_narrow.specs.declared.part_hits.PartHits.TheVariants.{File, Map}
use Rattle.sasi_narrow.specs.Narrowing.{has_entry, hit_from, hit_in_file, is_hit, is_left, same_entry, some_hit}

-- ---- entries

same_numbers : (a b : ℕ) → nat_eq a b ≡ true → a ≡ b
same_numbers a b e = grind (arith, nat_tests)

pub equal_entries : (a b : Entry) → same_entry a b ≡ true → a ≡ b
equal_entries a b e =
    let last = and_parts ((nat_eq a.token b.token && nat_eq a.leaf b.leaf) && nat_eq a.part b.part) (nat_eq a.place b.place) e in
    let third = and_parts (nat_eq a.token b.token && nat_eq a.leaf b.leaf) (nat_eq a.part b.part) last.0 in
    let second = and_parts (nat_eq a.token b.token) (nat_eq a.leaf b.leaf) third.0 in
    let token = same_numbers a.token b.token second.0 in
    let leaf = same_numbers a.leaf b.leaf second.1 in
    let part = same_numbers a.part b.part third.1 in
    let place = same_numbers a.place b.place last.1 in
    λ i. record { token = token i; leaf = leaf i; part = part i; place = place i }

pub entry_itself : (e : Entry) → same_entry e e ≡ true
entry_itself e = grind (arith, nat_tests)

-- An entry is among others where the list contains it.
pub entry_among : (es : List Entry) (e : Entry) → Contains es e → has_entry es e ≡ true
entry_among es e is = list_any_at (same_entry e) es is.0 e is.1 (ap (same_entry e) is.2 ∙ entry_itself e)

pub among_entries : (es : List Entry) (e : Entry) → has_entry es e ≡ true → Contains es e
among_entries es e has = Contains-from_any equal_entries e es has

-- where what is told of an entry is whether the list contains it
pub entry_where : (es : List Entry) (e : Entry) (b : Bool) → (Contains es e → b ≡ true) → (b ≡ true → Contains es e) → has_entry es e ≡ b
entry_where es e b there back = by (has_entry es e) b refl (λ has. there (among_entries es e has)) (λ is. entry_among es e (back is))
  where
    by : (a b : Bool) → has_entry es e ≡ a → (has_entry es e ≡ true → b ≡ true) → (b ≡ true → has_entry es e ≡ true) → has_entry es e ≡ b
    by true b is there back = is ∙ sym (there is)
    by false true is there back = back refl
    by false false is there back = is

-- ---- tests that agree on the entries of the token

module _ (token : ℕ) (given other : Entry → Bool) (agree : (e : Entry) → e.token ≡ token → given e ≡ other e) (keys : List (List PlacedKey)) where
  placed_alike : (leaf part : ℕ) (indexed : Bool) (placed : List PlacedKey) (bytes : List ℕ)
      → hit_in_file (λ place. given (record { token = token; leaf = leaf; part = part; place = place })) indexed placed bytes
      ≡ hit_in_file (λ place. other (record { token = token; leaf = leaf; part = part; place = place })) indexed placed bytes
  placed_alike leaf part indexed [] bytes = refl
  placed_alike leaf part indexed (key ∷ placed) bytes =
      ap (λ b. (same bytes key.key && (not indexed || b)) || hit_in_file (λ place. given (record { token = token; leaf = leaf; part = part; place = place })) indexed placed bytes)
      (agree (record { token = token; leaf = leaf; part = part; place = key.place }) refl)
      ∙ ap (λ b. (same bytes key.key && (not indexed || other (record { token = token; leaf = leaf; part = part; place = key.place }))) || b) (placed_alike leaf part indexed placed bytes)

  -- **Where two tests agree on the entries of the token, the hits are the same,**
  pub hit_alike : (leaf part : ℕ) (p : PartHits) (bytes : List ℕ) → is_hit token given keys leaf part p bytes ≡ is_hit token other keys leaf part p bytes
  hit_alike leaf part (File file indexed) bytes = placed_alike leaf part (slice_index_or indexed.items leaf false) (slice_index_or keys file []) bytes
  hit_alike leaf part (Map found) bytes = refl

  from_alike : (leaf first : ℕ) (parts : List PartHits) (bytes : List ℕ) → hit_from token given keys leaf first parts bytes ≡ hit_from token other keys leaf first parts bytes
  from_alike leaf first [] bytes = refl
  from_alike leaf first (p ∷ parts) bytes =
      ap (λ b. b || hit_from token given keys leaf (first + 1) parts bytes) (hit_alike leaf first p bytes)
      ∙ ap (λ b. is_hit token other keys leaf first p bytes || b) (from_alike leaf (first + 1) parts bytes)

  -- **those of all parts,**
  pub some_alike : (parts : List PartHits) (leaf : ℕ) (bytes : List ℕ) → some_hit token given keys parts leaf bytes ≡ some_hit token other keys parts leaf bytes
  some_alike parts leaf bytes = from_alike leaf 0 parts bytes

  -- **and the keys that are left.**
  pub left_alike : (parts : List PartHits) (relations : ℕ) (bytes : List ℕ) → is_left token given keys parts relations bytes ≡ is_left token other keys parts relations bytes
  left_alike parts zero bytes = refl
  left_alike parts (suc n) bytes =
      ap (λ b. b && some_hit token given keys parts n bytes) (left_alike parts n bytes)
      ∙ ap (λ b. is_left token other keys parts n bytes && b) (some_alike parts n bytes)

-- **Entries in another list leave the same keys.**
pub left_of_same_entries : (token : ℕ) (es others : List Entry) (keys : List (List PlacedKey)) (parts : List PartHits) (relations : ℕ) (bytes : List ℕ)
    → ((e : Entry) → Contains es e → Contains others e) → ((e : Entry) → Contains others e → Contains es e)
    → is_left token (has_entry es) keys parts relations bytes ≡ is_left token (has_entry others) keys parts relations bytes
left_of_same_entries token es others keys parts relations bytes there back =
    left_alike token (has_entry es) (has_entry others)
    (λ e of. entry_where es e (has_entry others e) (λ has. entry_among others e (there e has)) (λ has. back e (among_entries others e has)))
    keys parts relations bytes

-- **Where a test of relation, part and offset tells which entries of the token there are, it tells the keys that are left.**
pub left_by_test : (token : ℕ) (es : List Entry) (told : ℕ → ℕ → ℕ → Bool) (keys : List (List PlacedKey)) (parts : List PartHits) (relations : ℕ) (bytes : List ℕ)
    → ((leaf part place : ℕ) → has_entry es (record { token = token; leaf = leaf; part = part; place = place }) ≡ told leaf part place)
    → is_left token (has_entry es) keys parts relations bytes ≡ is_left token (λ e. told e.leaf e.part e.place) keys parts relations bytes
left_by_test token es told keys parts relations bytes tells = left_alike token (has_entry es) (λ e. told e.leaf e.part e.place) (by_test) keys parts relations bytes
  where
    by_test : (e : Entry) → e.token ≡ token → has_entry es e ≡ told e.leaf e.part e.place
    by_test e of = ap (λ t. has_entry es (record { token = t; leaf = e.leaf; part = e.part; place = e.place })) of ∙ tells e.leaf e.part e.place

-- ---- files and maps

-- **Without the index each key of a data file is a hit.**
pub hit_without_index : (was_given : ℕ → Bool) (keys : List PlacedKey) (bytes : List ℕ) → hit_in_file was_given false keys bytes ≡ list_any (λ (placed : PlacedKey). same bytes placed.key) keys
hit_without_index was_given [] bytes = refl
hit_without_index was_given (placed ∷ keys) bytes =
    ap (λ b. b || hit_in_file was_given false keys bytes) (and-true (same bytes placed.key)) ∙ ap (λ b. same bytes placed.key || b) (hit_without_index was_given keys bytes)

-- **A hit of some part is one of the first parts or of those behind them.**
pub hit_of_both : (token : ℕ) (given : Entry → Bool) (keys : List (List PlacedKey)) (leaf first : ℕ) (parts others : List PartHits) (bytes : List ℕ)
    → hit_from token given keys leaf first (parts ++ others) bytes ≡ (hit_from token given keys leaf first parts bytes || hit_from token given keys leaf (first + length parts) others bytes)
hit_of_both token given keys leaf first [] others bytes = ap (λ n. hit_from token given keys leaf n others bytes) (sym (add-zero first))
hit_of_both token given keys leaf first (p ∷ parts) others bytes =
    ap (λ b. is_hit token given keys leaf first p bytes || b) (
    hit_of_both token given keys leaf (first + 1) parts others bytes
    ∙ ap (λ n. hit_from token given keys leaf (first + 1) parts bytes || hit_from token given keys leaf n others bytes) behind
    )
    ∙ sym (or_assoc (is_hit token given keys leaf first p bytes) (hit_from token given keys leaf (first + 1) parts bytes) (hit_from token given keys leaf (first + length (p ∷ parts)) others bytes))
  where
    behind : (first + 1) + length parts ≡ first + length (p ∷ parts)
    behind = omega arith

-- ---- one relation

-- **One relation leaves what some part has as its hit.**
pub left_of_one : (token : ℕ) (given : Entry → Bool) (keys : List (List PlacedKey)) (parts : List PartHits) (bytes : List ℕ)
    → is_left token given keys parts 1 bytes ≡ some_hit token given keys parts 0 bytes
left_of_one token given keys parts bytes = refl

-- ---- the keys as a list

any_tied : (bytes : List ℕ) (keys : List (List ℕ)) → list_any (λ k. is_eq (key_cmp bytes k)) keys ≡ list_any (same bytes) keys
any_tied bytes [] = refl
any_tied bytes (k ∷ keys) =
    ap (λ b. b || list_any (λ k. is_eq (key_cmp bytes k)) keys) (sym (lists_ties nat_cmp unsigned_ties bytes k)) ∙ ap (λ b. same bytes k || b) (any_tied bytes keys)

-- **Two lists of keys that rise are one list where they have the same keys.**
pub same_keys : (left wanted : List (List ℕ)) → IsStrictlySortedBy key_cmp left → IsStrictlySortedBy key_cmp wanted → ((bytes : List ℕ) → list_any (same bytes) left ≡ list_any (same bytes) wanted) → left ≡ wanted
same_keys left wanted rises rise are =
    btree_set_from_contains nat_list_cmp_total (record { keys = left }) (record { keys = wanted }) rises rise (λ q. any_tied q left ∙ are q ∙ sym (any_tied q wanted)) exact_bytes
