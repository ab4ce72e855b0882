-- Which keys of a token the relations of a WHERE leave. Every part of the table has its own hits of each relation: a data file with the
-- relation's index those that a search of the index gave, a data file without it all its keys, and a map what its index finds. They are
-- united over the parts first, and then a key is left where each relation has it.
use Rattle.std.specs.Prelude.{◌≡◌, ℕ, zero, suc, ◌<◌, ◌≤◌, Bool, true, false, ◌&&◌, ◌||◌, not, nat_eq, List, [], length, slice_index_or}
use Rattle.std.specs.List.{AllByRecursion, enumerate_from, list_any}
use Rattle.std.specs.List.Sorted.{IsStrictlySortedBy}
use Rattle.sasi_types.specs.declared.decorated_key.DecoratedKey.{DecoratedKey}
use Rattle.sasi_types.specs.DecoratedKey.{decorated_cmp}
use Rattle.sasi_model.specs.Tokens.{same}
use Rattle.sasi_dataread.specs.declared.token_keys.PlacedKey.{PlacedKey}
use Rattle.sasi_ranges.specs.declared.entry.Entry.{Entry}
use Rattle.sasi_ranges.specs.Entries.{Rises}
use Rattle.sasi_narrow.specs.declared.part_hits.PartHits.{PartHits}
use Rattle.sasi_narrow.specs.declared.part_hits.PartHits.TheVariants.{File, Map}

-- ---- entries

abbrev pub same_entry : Entry → Entry → Bool
same_entry a b = nat_eq a.token b.token && nat_eq a.leaf b.leaf && nat_eq a.part b.part && nat_eq a.place b.place

-- the entry is one of these
abbrev pub has_entry : List Entry → Entry → Bool
has_entry entries e = list_any (same_entry e) entries

-- ---- the hits of one part

-- in a data file: one of its keys with the token has these bytes, and stands where a hit was given. Without the index each key is a hit.
abbrev pub hit_in_file : (ℕ → Bool) → Bool → List PlacedKey → List ℕ → Bool
hit_in_file was_given indexed keys bytes = list_any (λ (placed : PlacedKey). same bytes placed.key && (not indexed || was_given placed.place)) keys

-- in a map: one of the keys that were found has the token and these bytes
abbrev pub hit_in_map : ℕ → List DecoratedKey → List ℕ → Bool
hit_in_map token found bytes = list_any (λ (key : DecoratedKey). nat_eq key.token token && same bytes key.key) found

-- **The key is a hit of a relation in the part at a position**, where `given` tells which entries the streams gave, and `keys` has the
-- keys of each data file with the token.
abbrev pub is_hit : ℕ → (Entry → Bool) → List (List PlacedKey) → ℕ → ℕ → PartHits → List ℕ → Bool
is_hit token given keys leaf part (File file indexed) bytes =
    let was_given : ℕ → Bool = λ place. given (record { token = token; leaf = leaf; part = part; place = place }) in
    hit_in_file was_given (slice_index_or indexed.items leaf false) (slice_index_or keys file []) bytes
is_hit token given keys leaf part (Map found) bytes = hit_in_map token (slice_index_or found.items leaf []) bytes

-- ---- all parts and all relations

-- one of the parts, of which the first has this position, has the key as a hit of the relation
abbrev pub hit_from : ℕ → (Entry → Bool) → List (List PlacedKey) → ℕ → ℕ → List PartHits → List ℕ → Bool
hit_from token given keys leaf first parts bytes = list_any (λ (p : ℕ × PartHits). is_hit token given keys leaf p.0 p.1 bytes) (enumerate_from first parts)

-- **Some part has the key as a hit of the relation.**
abbrev pub some_hit : ℕ → (Entry → Bool) → List (List PlacedKey) → List PartHits → ℕ → List ℕ → Bool
some_hit token given keys parts leaf bytes = hit_from token given keys leaf 0 parts bytes

-- each number below this one passes the test
abbrev pub each_below : ℕ → (ℕ → Bool) → Bool
each_below zero test = true
each_below (suc n) test = each_below n test && test n

-- **Every relation leaves the key**: for each of them some part has it as a hit.
abbrev pub is_left : ℕ → (Entry → Bool) → List (List PlacedKey) → List PartHits → ℕ → List ℕ → Bool
is_left token given keys parts relations bytes = each_below relations (λ leaf. some_hit token given keys parts leaf bytes)

-- keys are those that pass a test, such as being left
abbrev pub AreThose : (List ℕ → Bool) → List (List ℕ) → Type 0
AreThose passes keys = (bytes : List ℕ) → list_any (same bytes) keys ≡ passes bytes

-- ---- what is told of the parts

-- of each relation, and a data file's keys are there
abbrev pub TellsOf : ℕ → ℕ → PartHits → Type 0
TellsOf relations files (File file indexed) = (file < files) × (relations ≤ length indexed.items)
TellsOf relations files (Map found) = relations ≤ length found.items

-- the keys that each relation finds in a map are in their order
abbrev pub FoundInOrder : PartHits → Type 0
FoundInOrder (File file indexed) = Unit {0}
FoundInOrder (Map found) = AllByRecursion (IsStrictlySortedBy decorated_cmp) found.items

-- what streams give in a right folder, and maps always: hits in their order
pub record AreInOrder (entries : List Entry) (parts : List PartHits) : Type 0 where
  pub rise : Rises entries
  pub found : AllByRecursion FoundInOrder parts
