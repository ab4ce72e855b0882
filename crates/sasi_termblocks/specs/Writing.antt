-- Blocks in memory, before they are written.
use Rattle.std.specs.Prelude.{◌≡◌, ℕ, ◌+◌, ◌*◌, ◌≤◌, List, [], ◌∷◌, ◌++◌, length, map, get_or, slice_index, nat_le, if◌then◌else◌}
use Rattle.std.specs.List.{flat_map}
use Rattle.sasi_host.specs.Names.{Bytes}
use Rattle.sasi_termblocks.specs.declared.packer.Packer.{Packer}
use Rattle.sasi_termblocks.specs.declared.term_entry.TermEntry.{TermEntry}
use Rattle.sasi_termblocks.specs.Blocks.{Item, Cut, block, cut_of, entries_bytes, items_of, first_term, level_bytes, first_terms, offsets, with_last}

-- each of these terms is short enough for an entry
abbrev pub AreShort : List Bytes → Type 0
AreShort terms = (k : ℕ) → length (get_or terms k []) ≤ 1024

-- each of these entries is short enough that three fit a block
abbrev pub AreSmall : List Item → Type 0
AreSmall [] = Unit {0}
AreSmall (item ∷ others) = (length item.bytes ≤ 1200) × AreSmall others

-- the last block fits 4,096 bytes, its numbers fit their fields, and there is at most one first term more than full blocks
pub record IsSmall (packer : Packer) : Type 0 where
  pub size : 2 + (2 * length packer.starts.items + length packer.entries.items) ≤ 4096
  pub each : (k : ℕ) → slice_index packer.starts.items k ≤ 4096
  pub terms : AreShort packer.first_terms.items
  pub few : 4096 * length packer.first_terms.items ≤ length packer.full.items + 4096

-- the packer has these blocks
pub record Packs (packer : Packer) (cut : Cut) : Type 0 where
  pub full_is : packer.full.items ≡ flat_map block cut.full
  pub whole : length packer.full.items ≡ 4096 * length cut.full
  pub starts_are : packer.starts.items ≡ offsets 0 cut.last
  pub entries_are : packer.entries.items ≡ entries_bytes cut.last
  pub first_terms_are : packer.first_terms.items ≡ map first_term (with_last cut.full cut.last)

-- the first terms, with that of a new block where there are no more of them than full blocks, which have so many bytes
abbrev pub first_terms_with : ℕ → List Bytes → Bytes → List Bytes
first_terms_with full terms term = if nat_le (4096 * length terms) full then (terms ++ term ∷ []) else terms

-- the bytes and the first terms of a level of these entries
pub record IsLevel (bytes : Bytes) (terms : List Bytes) (items : List Item) : Type 0 where
  pub bytes_are : bytes ≡ level_bytes items
  pub terms_are : terms ≡ first_terms items
  pub whole : length bytes ≡ 4096 * length terms

-- ---- a writer

-- the view of a writer: the blocks of its entries, and how many entries it was given
pub record Writer : Type 0 where
  pub packer : Packer
  pub terms : ℕ

-- the writer was given these entries
pub record HasPushed (writer : Writer) (entries : List TermEntry) : Type 0 where
  pub packs : Packs writer.packer (cut_of (items_of entries))
  pub small : AreSmall (items_of entries)
  pub terms_are : writer.terms ≡ length entries
