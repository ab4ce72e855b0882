-- Where a file breaks the format of blocks, and what is there.
use Rattle.std.specs.Prelude.{◌≡◌, ◌⊎◌, ℕ, ◌+◌, ◌-◌, ◌*◌, ◌/◌, ◌<◌, ◌≤◌, nat_lt, if◌then◌else◌, true, false, length}
use Rattle.sasi_host.specs.declared.name.FileName.{FileName}
use Rattle.sasi_host.specs.declared.damage.Damage.{Damage}
use Rattle.sasi_host.specs.declared.damage.FormatRule.{FormatRule}
use Rattle.sasi_host.specs.declared.fault.ReadFault.{ReadFault}
use Rattle.sasi_host.specs.declared.fault.ReadFault.TheVariants as read
use Rattle.sasi_host.specs.Names.{Bytes}
use Rattle.sasi_host.specs.Damages.{HasAt, ShowsEnd, seen_bytes}
use Rattle.sasi_termblocks.specs.declared.block_ref.BlockRef.{BlockRef}
use Rattle.sasi_termblocks.specs.declared.list_form.ListForm.{ListForm}
use Rattle.sasi_termblocks.specs.declared.fault.BlockFault.{BlockFault}
use Rattle.sasi_termblocks.specs.declared.fault.BlockFault.TheVariants.{OutOfMemory, Broken}
use Rattle.sasi_termblocks.specs.Entries.{pointer, term_entry}
use Rattle.sasi_termblocks.specs.Windows.{BreaksEntry, BreaksForm, BreaksFront, BreaksNext, BreaksOrder, BreaksTree, HasEntry, IsBound, count_in}
use Rattle.sasi_termblocks.specs.Descents.{high_page, low_page, page_of_top, pointer_to}
use Rattle.sasi_termblocks.specs.BlockFaults.{BreaksFirstPointer, IsMisplaced, PointsTo}

-- ---- the faults of a block in its file

-- the fault of a block that stands at an offset of a file
abbrev pub IsLifted : FileName → ℕ → BlockFault → ReadFault → Type 0
IsLifted file at OutOfMemory fault = fault ≡ read.OutOfMemory
IsLifted file at (Broken broken) (read.Damaged damage) = (damage.file ≡ file) × (damage.at ≡ at + broken.at) × (damage.rule ≡ broken.rule) × (damage.seen ≡ broken.seen)
IsLifted file at (Broken broken) _ = ⊥

-- ---- what breaks the blocks of a file

-- what breaks a term block
abbrev pub BreaksTerms : Bytes → FormatRule → ℕ → Bytes → Type 0
BreaksTerms block broken at seen =
    BreaksFront block broken at seen
    ⊎ ((index : ℕ) × (index < count_in block) × BreaksEntry term_entry block index broken at seen)
    ⊎ ((index : ℕ) × (index + 1 < count_in block) × BreaksOrder block index broken at seen)
    ⊎ ((index : ℕ) × (index + 1 < count_in block) × BreaksNext block index broken at seen)

-- what breaks a pointer block, whose offsets are those of pages from `low` up to `high`, which isn't among them
abbrev pub BreaksPointers : ℕ → ℕ → Bytes → FormatRule → ℕ → Bytes → Type 0
BreaksPointers low high block broken at seen =
    BreaksFront block broken at seen
    ⊎ ((index : ℕ) × (index < count_in block) × BreaksEntry (pointer_to low high) block index broken at seen)

-- what breaks a term block to which pointers lead for a term: where it isn't the first one, its first entry is below the term
abbrev pub BreaksSplit : ℕ → ℕ → Bytes → Bytes → FormatRule → ℕ → Bytes → Type 0
BreaksSplit first page sought block broken at seen = BreaksTerms block broken at seen ⊎ ((first < page) × IsMisplaced false 0 sought block broken at seen)

-- and what breaks one of which an entry is given that isn't below this term, has its pairs where this form has them, and whose tree
-- stands in front of the first term block
abbrev pub BreaksGiven : ℕ → ListForm → ℕ → Bytes → Bytes → FormatRule → ℕ → Bytes → Type 0
BreaksGiven first form index least block broken at seen =
    BreaksTerms block broken at seen ⊎ IsMisplaced true index least block broken at seen ⊎ BreaksTree first index block broken at seen ⊎ BreaksForm form index block broken at seen

-- the damage is that of this file, in which a block on the page breaks a rule so, or which ends within it
pub data ShowsBlock (Breaks : Bytes → FormatRule → ℕ → Bytes → Type 0) (file : FileName) (page : ℕ) (bytes : Bytes) (damage : Damage) : Type 0 where
  ends : ShowsEnd (4096 * page + 4096) file bytes damage → ShowsBlock Breaks file page bytes damage
  breaks : (block : Bytes) (at : ℕ) → damage.file ≡ file → HasAt bytes (4096 * page) block → length block ≡ 4096 → damage.at ≡ 4096 * page + at → Breaks block damage.rule at (seen_bytes damage.seen)
      → ShowsBlock Breaks file page bytes damage

-- the pointers lead from the top block down to a block on this page, above so many levels
pub data Leads (bytes : Bytes) (ref : BlockRef) : ℕ → ℕ → Type 0 where
  top : (level page : ℕ) → 0 < level → level ≡ ref.levels → page ≡ ref.top / 4096 → Leads bytes ref level page
  down : (level page from index : ℕ) (block t : Bytes) (place : ℕ) → Leads bytes ref (level + 1) from → HasAt bytes (4096 * from) block → length block ≡ 4096
      → index < count_in block → HasEntry pointer block index (t, place) → page ≡ place / 4096 → Leads bytes ref level page

-- so they do in a search for a term: at each block it takes the last pointer with a term below, or the first one
pub data LeadsFor (bytes : Bytes) (ref : BlockRef) (sought : Bytes) : ℕ → ℕ → Type 0 where
  from_top : (level page : ℕ) → 0 < ref.blocks → level ≡ ref.levels → page ≡ page_of_top ref → LeadsFor bytes ref sought level page
  further_down : (level page from below place : ℕ) (block : Bytes) → LeadsFor bytes ref sought (level + 1) from → HasAt bytes (4096 * from) block → length block ≡ 4096
      → IsBound block (count_in block) sought below → PointsTo (low_page ref (level + 1)) (high_page ref (level + 1) from) block (below - 1) place → page ≡ place / 4096 → LeadsFor bytes ref sought level page

-- and in the term block on to the first entry that isn't below
pub record LeadsTo (bytes : Bytes) (ref : BlockRef) (sought : Bytes) (page index : ℕ) : Type 0 where
  pub from : ℕ
  pub leads : LeadsFor bytes ref sought 0 from
  pub block : Bytes
  pub stands : HasAt bytes (4096 * from) block
  pub long : length block ≡ 4096
  pub below : ℕ
  pub bound : IsBound block (count_in block) sought below
  pub page_is : page ≡ (if nat_lt below (count_in block) then from else from + 1)
  pub index_is : index ≡ (if nat_lt below (count_in block) then below else 0)

-- the damage is that of this file, which breaks the format of the blocks with this reference, whose entries have this form
pub data ShowsBlocks (file : FileName) (ref : BlockRef) (form : ListForm) (bytes : Bytes) (damage : Damage) : Type 0 where
  -- it ends within the term blocks
  ends_early : ShowsEnd (ref.first + 4096 * ref.blocks) file bytes damage → ShowsBlocks file ref form bytes damage
  -- a term block is damaged
  in_terms : (page : ℕ) → ref.first / 4096 ≤ page → page < ref.first / 4096 + ref.blocks → ShowsBlock BreaksTerms file page bytes damage → ShowsBlocks file ref form bytes damage
  -- or an entry refers to a tree that can't stand in front of the first one
  misled : (page index : ℕ) → ref.first / 4096 ≤ page → page < ref.first / 4096 + ref.blocks → ShowsBlock (BreaksTree ref.first index) file page bytes damage → ShowsBlocks file ref form bytes damage
  -- or an entry has another form
  of_other_form : (page index : ℕ) → ref.first / 4096 ≤ page → page < ref.first / 4096 + ref.blocks → ShowsBlock (BreaksForm form index) file page bytes damage → ShowsBlocks file ref form bytes damage
  -- or a pointer block, to which the pointers above it lead
  in_pointers : (level page : ℕ) → 0 < level → Leads bytes ref level page → ShowsBlock (BreaksPointers (low_page ref level) (high_page ref level page)) file page bytes damage → ShowsBlocks file ref form bytes damage
  -- or the pointer blocks don't begin behind the term blocks, with a pointer to the first of these
  behind_terms : 0 < ref.levels → ShowsBlock (BreaksFirstPointer (ref.first / 4096)) file (ref.first / 4096 + ref.blocks) bytes damage → ShowsBlocks file ref form bytes damage
  -- or they lead a search behind the first term block, to one whose first entry isn't below the term
  led_too_far : (sought : Bytes) (page : ℕ) → LeadsFor bytes ref sought 0 page → ref.first / 4096 < page → ShowsBlock (IsMisplaced false 0 sought) file page bytes damage → ShowsBlocks file ref form bytes damage
  -- or to an entry that is below the term
  led_too_near : (sought : Bytes) (page index : ℕ) → LeadsTo bytes ref sought page index → page < ref.first / 4096 + ref.blocks → ShowsBlock (IsMisplaced true index sought) file page bytes damage → ShowsBlocks file ref form bytes damage

-- what a scan shows that reads the entry with this index of a block, which isn't below this term
abbrev pub ShowsGiven : FileName → BlockRef → ListForm → ℕ → ℕ → Bytes → Bytes → Damage → Type 0
ShowsGiven file ref form page index least bytes damage = ShowsBlocks file ref form bytes damage ⊎ ((page < ref.first / 4096 + ref.blocks) × ShowsBlock (IsMisplaced true index least) file page bytes damage)

-- ---- where the term blocks end

-- the pointer blocks, if there are any, begin behind the term blocks, with a pointer to the first of these
abbrev pub EndsTerms : Bytes → BlockRef → Type 0
EndsTerms bytes ref =
    0 < ref.levels → (block : Bytes) × HasAt bytes (4096 * (ref.first / 4096 + ref.blocks)) block × ((place : ℕ) × PointsTo (ref.first / 4096) (ref.first / 4096 + 1) block 0 place)
