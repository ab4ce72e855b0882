-- The bytes of blocks: one format for term blocks and for the pointer blocks above them.
use Rattle.std.specs.Prelude.{◌≡◌, ℕ, zero, suc, ◌+◌, ◌-◌, ◌*◌, ◌<◌, ◌≤◌, nat_le, List, [], ◌∷◌, ◌++◌, length, map, replicate, if◌then◌else◌}
use Rattle.std.specs.List.{flat_map, fold}
use Rattle.std.specs.Int.{to_be_bytes, w16}
use Rattle.sasi_host.specs.Names.{Bytes}
use Rattle.sasi_formats.specs.Formats.{encoded}
use Rattle.sasi_termblocks.specs.declared.term_entry.TermEntry.{TermEntry}
use Rattle.sasi_termblocks.specs.declared.block_ref.BlockRef.{BlockRef}
use Rattle.sasi_termblocks.specs.Entries.{term_entry, pointer}

-- ---- entries

-- an entry of a block: its term, and its bytes
pub record Item : Type 0 where
  pub term : Bytes
  pub bytes : Bytes

abbrev pub term_item : TermEntry → Item
term_item entry = record { term = entry.term; bytes = encoded term_entry entry }

abbrev pub pointer_item : Bytes → ℕ → Item
pointer_item term place = record { term = term; bytes = encoded pointer (term, place) }

-- ---- a block

-- the offsets of entries of which the first stands at this one
abbrev pub offsets : ℕ → List Item → List ℕ
offsets at [] = []
offsets at (item ∷ others) = at ∷ offsets (at + length item.bytes) others

abbrev pub entries_bytes : List Item → Bytes
entries_bytes items = flat_map (λ (item : Item). item.bytes) items

-- how many bytes a block of these entries takes: its count, and an offset and the bytes of each
abbrev pub size : List Item → ℕ
size items = 2 + (2 * length items + length (entries_bytes items))

-- a block: the count, the offsets from its start, the entries, and zeros up to 4,096 bytes
unfoldable pub block : List Item → Bytes
block items =
    to_be_bytes w16 (length items) ++ (flat_map (to_be_bytes w16) (offsets (2 + 2 * length items) items) ++ (entries_bytes items ++ replicate (4096 - size items) 0))

-- ---- a level

-- entries cut into blocks: the full ones, and the last, which may take more
pub record Cut : Type 0 where
  pub full : List (List Item)
  pub last : List Item

-- the last block, if so many bytes of an entry fit, or else a new one
abbrev pub with_room : ℕ → Cut → Cut
with_room bytes cut = if nat_le (size cut.last + (2 + bytes)) 4096 then cut else record { full = cut.full ++ cut.last ∷ []; last = [] }

abbrev pub add : Cut → Item → Cut
add cut item = record { full = (with_room (length item.bytes) cut).full; last = (with_room (length item.bytes) cut).last ++ item ∷ [] }

-- a block takes entries as long as they fit
unfoldable pub cut_of : List Item → Cut
cut_of items = fold add (record { full = []; last = [] }) items

abbrev pub with_last : List (List Item) → List Item → List (List Item)
with_last full [] = full
with_last full (item ∷ others) = full ++ (item ∷ others) ∷ []

-- the blocks of these entries; of none there is none
abbrev pub blocks : List Item → List (List Item)
blocks items = with_last (cut_of items).full (cut_of items).last

abbrev pub level_bytes : List Item → Bytes
level_bytes items = flat_map block (blocks items)

-- the first term of a block
abbrev pub first_term : List Item → Bytes
first_term [] = []
first_term (item ∷ others) = item.term

-- the first terms of the blocks of a level
abbrev pub first_terms : List Item → List Bytes
first_terms items = map first_term (blocks items)

-- pointers to blocks with these first terms, of which the first stands at this offset
abbrev pub pointers_to : ℕ → List Bytes → List Item
pointers_to place [] = []
pointers_to place (term ∷ others) = pointer_item term place ∷ pointers_to (place + 4096) others

-- the entries of the level above one of these entries at this offset
abbrev pub above : ℕ → List Item → List Item
above at items = pointers_to at (first_terms items)

-- where it begins
abbrev pub next_at : ℕ → List Item → ℕ
next_at at items = at + 4096 * length (blocks items)

-- ---- all levels

-- a level at this offset, and so many levels above it
unfoldable pub levels_bytes : ℕ → ℕ → List Item → Bytes
levels_bytes zero at items = level_bytes items
levels_bytes (suc more) at items = level_bytes items ++ levels_bytes more (next_at at items) (above at items)

-- levels end with the first that has one block, or none
unfoldable pub EndsAfter : ℕ → ℕ → List Item → Type 0
EndsAfter zero at items = length (blocks items) ≤ 1
EndsAfter (suc more) at items = (1 < length (blocks items)) × EndsAfter more (next_at at items) (above at items)

-- the offset of the last level's block
unfoldable pub top_of : ℕ → ℕ → List Item → ℕ
top_of zero at items = at
top_of (suc more) at items = top_of more (next_at at items) (above at items)

abbrev pub top_pointer : ℕ → ℕ → List Item → ℕ
top_pointer zero at items = 0
top_pointer (suc more) at items = top_of (suc more) at items

abbrev pub items_of : List TermEntry → List Item
items_of entries = map term_item entries

-- the reference of the blocks of these entries at this offset
pub record IsRefOf (at : ℕ) (entries : List TermEntry) (ref : BlockRef) : Type 0 where
  pub first : ref.first ≡ at
  pub blocks_are : ref.blocks ≡ length (blocks (items_of entries))
  pub levels_are : EndsAfter ref.levels at (items_of entries)
  pub top_is : ref.top ≡ top_pointer ref.levels at (items_of entries)
  pub terms_are : ref.terms ≡ length entries
