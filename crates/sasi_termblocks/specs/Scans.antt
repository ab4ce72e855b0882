-- Scans of the entries of blocks in a file.
use Rattle.std.specs.Prelude.{◌≡◌, ◌⊎◌, ℕ, ◌+◌, ◌*◌, ◌/◌, ◌^◌, ◌<◌, ◌≤◌, nat_lt, if◌then◌else◌, true, false, List, [], ◌∷◌, length, map, take, drop, get_or, Option, Some, None}
use Rattle.std.specs.List.{AllByRecursion, flat_map}
use Rattle.sasi_host.specs.declared.name.FileName.{FileName}
use Rattle.sasi_host.specs.Names.{Bytes}
use Rattle.sasi_host.specs.View.{View, contents}
use Rattle.sasi_host.specs.Buffered.{Buffered}
use Rattle.sasi_host.specs.declared.fault.ReadFault.{ReadFault}
use Rattle.sasi_host.specs.Damages.{HasAt, OnDamage}
use Rattle.sasi_formats.specs.Formats.{Fits}
use Rattle.sasi_termblocks.specs.declared.block_ref.BlockRef.{BlockRef}
use Rattle.sasi_termblocks.specs.declared.list_form.ListForm.{ListForm}
use Rattle.sasi_termblocks.specs.declared.term_entry.TermEntry.{TermEntry}
use Rattle.sasi_termblocks.specs.Entries.{is_below, term_entry}
use Rattle.sasi_termblocks.specs.Forms.{HasForm}
use Rattle.sasi_termblocks.specs.Windows.{EndsAtNext, HasEntry, RefersWithin, StartsBehind, count_in}
use Rattle.sasi_termblocks.specs.BlockFaults.{IsAboveLast}
use Rattle.sasi_termblocks.specs.Damages.{EndsTerms, LeadsTo}
use Rattle.sasi_termblocks.specs.Blocks.{Item, IsRefOf, blocks, items_of, levels_bytes}

-- ---- terms in their order

-- each term is below the next one
abbrev pub IsRising : List Bytes → Type 0
IsRising terms = (index : ℕ) → index + 1 < length terms → is_below (get_or terms index []) (get_or terms (index + 1) []) ≡ true

-- so many of the terms, and no more, are below this one
pub record CountsBelow (terms : List Bytes) (sought : Bytes) (count : ℕ) : Type 0 where
  pub within : count ≤ length terms
  pub below : (index : ℕ) → index < count → is_below (get_or terms index []) sought ≡ true
  pub above : (index : ℕ) → count ≤ index → index < length terms → is_below (get_or terms index []) sought ≡ false

abbrev pub terms_of : List TermEntry → List Bytes
terms_of entries = map (λ (e : TermEntry). e.term) entries

abbrev pub HaveBytes : List TermEntry → Type 0
HaveBytes [] = Unit {0}
HaveBytes (entry ∷ others) = Fits term_entry entry × HaveBytes others

-- each entry's tree, if it has one, can stand in front of the first term block
abbrev pub HaveTrees : ℕ → List TermEntry → Type 0
HaveTrees first [] = Unit {0}
HaveTrees first (entry ∷ others) = RefersWithin first entry.list × HaveTrees first others

-- ---- blocks in a file

-- the file has the blocks of these entries, which rise, with this reference; they begin on a page, and no file is longer than 2^62 bytes
pub record HasBlocks (bytes : Bytes) (ref : BlockRef) (entries : List TermEntry) : Type 0 where
  pub page : ℕ
  pub aligned : ref.first ≡ 4096 * page
  pub stands : HasAt bytes ref.first (levels_bytes ref.levels ref.first (items_of entries))
  pub referred : IsRefOf ref.first entries ref
  pub rising : IsRising (terms_of entries)
  pub fit : HaveBytes entries
  pub trees : HaveTrees ref.first entries
  pub short : length bytes ≤ 2 ^ 62

-- ---- a scan

-- the view of a scan: the buffered file, where the blocks are, where their entries have the pairs, and the page and the index of the next entry
pub record Scan : Type 0 where
  pub buffered : Buffered
  pub blocks : BlockRef
  pub form : ListForm
  pub page : ℕ
  pub index : ℕ

-- how many entries stand in front of a block
abbrev pub start_of : List (List Item) → ℕ → ℕ
start_of groups group = length (flat_map (λ (g : List Item). g) (take group groups))

-- the page and the index are those of the entry behind so many, or the end
pub data IsAt (first : ℕ) (groups : List (List Item)) (page index passed : ℕ) : Type 0 where
  at_entry : (group : ℕ) → group < length groups → index < length (get_or groups group []) → 4096 * page ≡ first + 4096 * group → passed ≡ start_of groups group + index → IsAt first groups page index passed
  at_end : 4096 * page ≡ first + 4096 * length groups → index ≡ 0 → passed ≡ start_of groups (length groups) → IsAt first groups page index passed

-- the scan has passed so many of the entries
abbrev pub HasPassed : BlockRef → List TermEntry → ℕ → ℕ → ℕ → Type 0
HasPassed ref entries page index passed = IsAt ref.first (blocks (items_of entries)) page index passed

-- it steps to the entry behind so many, and behind it; to none where none is left
abbrev pub StepsTo : BlockRef → List TermEntry → ℕ → ℕ → ℕ → Option TermEntry → Type 0
StepsTo ref entries passed page index None = (drop passed entries ≡ []) × HasPassed ref entries page index passed
StepsTo ref entries passed page index (Some entry) = (drop passed entries ≡ entry ∷ drop (passed + 1) entries) × HasPassed ref entries page index (passed + 1)

-- where the file has the blocks, this is the next of their entries
abbrev pub ReadsNext : View → FileName → BlockRef → ℕ → ℕ → ℕ → ℕ → Option TermEntry → Type 0
ReadsNext v file ref page index new_page new_index found =
    (bytes : Bytes) (entries : List TermEntry) (passed : ℕ) → contents v file ≡ Some bytes → HasBlocks bytes ref entries → HasPassed ref entries page index passed → StepsTo ref entries passed new_page new_index found

-- where the file has the blocks, this is the first of their entries at or above a term
abbrev pub ReadsFirst : View → FileName → BlockRef → Bytes → ℕ → ℕ → Option TermEntry → Type 0
ReadsFirst v file ref sought new_page new_index found =
    (bytes : Bytes) (entries : List TermEntry) → contents v file ≡ Some bytes → HasBlocks bytes ref entries → (passed : ℕ) × CountsBelow (terms_of entries) sought passed × StepsTo ref entries passed new_page new_index found

-- ---- in any file

-- the entry, if any, is that of the block with this index, above the one before it; the position is then behind it. The block has as
-- many entries as its first offset leaves room for, and the next one stands where this one ends.
abbrev pub GivesEntry : Bytes → ℕ → ℕ → ℕ → ℕ → Option TermEntry → Type 0
GivesEntry block page index new_page new_index None = (count_in block ≤ index) × (new_page ≡ page) × (new_index ≡ index) × (0 < count_in block)
GivesEntry block page index new_page new_index (Some entry) =
    (index < count_in block) × HasEntry term_entry block index entry × IsAboveLast block index
    × (new_page ≡ (if nat_lt (index + 1) (count_in block) then page else page + 1)) × (new_index ≡ (if nat_lt (index + 1) (count_in block) then (index + 1) else 0))
    × StartsBehind block × (index + 1 < count_in block → EndsAtNext block index)

-- the entry, if any, is that with this index of the block on this page, even where other blocks are damaged
abbrev pub ReadsHere : View → FileName → ℕ → ℕ → ℕ → ℕ → Option TermEntry → Type 0
ReadsHere v file page index new_page new_index None = Unit {0}
ReadsHere v file page index new_page new_index (Some entry) =
    (bytes : Bytes) → contents v file ≡ Some bytes → (block : Bytes) × HasAt bytes (4096 * page) block × GivesEntry block page index new_page new_index (Some entry)

-- the entry, if any, is one of a block of the file, even where other blocks are damaged
abbrev pub ReadsSome : View → FileName → Option TermEntry → Type 0
ReadsSome v file None = Unit {0}
ReadsSome v file (Some entry) =
    (bytes : Bytes) → contents v file ≡ Some bytes → (page : ℕ) × (index : ℕ) × (block : Bytes) × HasAt bytes (4096 * page) block × (index < count_in block) × HasEntry term_entry block index entry

-- the position is behind the term blocks, where the pointer blocks begin, or behind the last entry of its block
abbrev pub IsPast : Bytes → BlockRef → ℕ → ℕ → Type 0
IsPast bytes ref page index =
    ((ref.first / 4096 + ref.blocks ≤ page) × EndsTerms bytes ref)
    ⊎ ((block : Bytes) × (page < ref.first / 4096 + ref.blocks) × HasAt bytes (4096 * page) block × (length block ≡ 4096) × (0 < count_in block) × (count_in block ≤ index))

-- there is no entry exactly where the position is behind the last one, even where other blocks are damaged; the scan stays there
abbrev pub EndsPast : View → FileName → BlockRef → ℕ → ℕ → ℕ → ℕ → Option TermEntry → Type 0
EndsPast v file ref page index new_page new_index None = (new_page ≡ page) × (new_index ≡ index) × ((bytes : Bytes) → contents v file ≡ Some bytes → IsPast bytes ref page index)
EndsPast v file ref page index new_page new_index (Some entry) = page < ref.first / 4096 + ref.blocks

-- there is no entry at or above a term only where there are no blocks, or where the pointers lead behind all entries of the last one
abbrev pub EndsBelow : View → FileName → BlockRef → Bytes → ℕ → ℕ → Option TermEntry → Type 0
EndsBelow v file ref sought page index None = (bytes : Bytes) → contents v file ≡ Some bytes → (ref.blocks ≡ 0) ⊎ ((ref.first / 4096 + ref.blocks ≤ page) × LeadsTo bytes ref sought page index)
EndsBelow v file ref sought page index (Some entry) = Unit {0}

-- the entry, if any, has a term that isn't below this one
abbrev pub IsNotBelow : Bytes → Option TermEntry → Type 0
IsNotBelow least None = Unit {0}
IsNotBelow least (Some entry) = is_below entry.term least ≡ false

-- the tree of the entry, if any, can stand in front of the first term block, which is at this offset
abbrev pub GivesTree : ℕ → Option TermEntry → Type 0
GivesTree first None = Unit {0}
GivesTree first (Some entry) = RefersWithin first entry.list

-- corruption is reported only where the file doesn't have the blocks, of entries that have this form
abbrev pub NoFalseDamage : View → FileName → BlockRef → ListForm → ReadFault → Type 0
NoFalseDamage v file ref form =
    OnDamage (λ _. (bytes : Bytes) (entries : List TermEntry) → contents v file ≡ Some bytes → HasBlocks bytes ref entries → AllByRecursion (HasForm form) entries → ⊥)
