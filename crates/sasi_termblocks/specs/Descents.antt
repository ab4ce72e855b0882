-- The way from the top block down to the term block for a term.
use Rattle.std.specs.Prelude.{◌≡◌, ℕ, zero, suc, ◌+◌, ◌*◌, ◌/◌, ◌%◌, ◌<◌, ◌&&◌, ◌==◌, Bool, true, false, nat_le, nat_lt, List, [], length, get_or, if◌then◌else◌}
use Rattle.std.specs.Int.{w64}
use Rattle.sasi_host.specs.Names.{Bytes}
use Rattle.sasi_host.specs.declared.damage.FormatRule.TheVariants as rule
use Rattle.sasi_formats.specs.Formats.{Format}
use Rattle.sasi_formats.specs.Fields.{◌&◌, checked, number}
use Rattle.sasi_termblocks.specs.declared.block_ref.BlockRef.{BlockRef}
use Rattle.sasi_termblocks.specs.declared.term_entry.TermEntry.{TermEntry}
use Rattle.sasi_termblocks.specs.Entries.{is_below, term}
use Rattle.sasi_termblocks.specs.Blocks.{Item, above, blocks, first_term, items_of, next_at}

-- ---- the levels, counted from the term blocks on

-- the offset of a level
abbrev pub level_at : ℕ → ℕ → List Item → ℕ
level_at zero at items = at
level_at (suc level) at items = level_at level (next_at at items) (above at items)

-- its entries
abbrev pub level_items : ℕ → ℕ → List Item → List Item
level_items zero at items = items
level_items (suc level) at items = level_items level (next_at at items) (above at items)

-- ---- the block for a term

-- the block's first term is below the term, and that of the next block isn't; the first block needs no such term
pub record IsFor (groups : List (List Item)) (sought : Bytes) (group : ℕ) : Type 0 where
  pub within : group < length groups
  pub last : 0 < group → is_below (first_term (get_or groups group [])) sought ≡ true
  pub next : group + 1 < length groups → is_below (first_term (get_or groups (group + 1) [])) sought ≡ false

-- the page has that block of a level
pub record IsPageFor (first : ℕ) (entries : List TermEntry) (level : ℕ) (sought : Bytes) (page : ℕ) : Type 0 where
  pub group : ℕ
  pub page_is : 4096 * page ≡ level_at level first (items_of entries) + 4096 * group
  pub is_for : IsFor (blocks (level_items level first (items_of entries))) sought group

-- ---- pointers

-- the offset is that of a page from `low` up to `high`, which isn't among them
abbrev pub is_page_offset : ℕ → ℕ → ℕ → Bool
is_page_offset low high place = place % 4096 == 0 && (nat_le low (place / 4096) && nat_lt (place / 4096) high)

-- a pointer to one of these pages
abbrev pub pointer_to : ℕ → ℕ → Format (Bytes × ℕ)
pointer_to low high = term & checked rule.Place 8 (is_page_offset low high) (number w64)

-- the pages of the blocks to which a block of a level on this page can point: the term blocks, or the pointer blocks before it
abbrev pub low_page : BlockRef → ℕ → ℕ
low_page ref level = if level == 1 then (ref.first / 4096) else (ref.first / 4096 + ref.blocks)

abbrev pub high_page : BlockRef → ℕ → ℕ → ℕ
high_page ref level page = if level == 1 then (ref.first / 4096 + ref.blocks) else page

-- the page of the top block: that of the first one, where there are no pointer blocks
abbrev pub page_of_top : BlockRef → ℕ
page_of_top ref = (if ref.levels == 0 then ref.first else ref.top) / 4096
