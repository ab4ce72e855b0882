-- A block as it is read: bytes that may be those of a block.
use Rattle.std.specs.Prelude.{◌≡◌, ◌≢◌, ℕ, ◌+◌, ◌-◌, ◌*◌, ◌<◌, ◌≤◌, ◌⊎◌, true, false, length, take, drop, Option, Some, None}
use Rattle.std.specs.Int.{from_be_bytes, w16}
use Rattle.sasi_types.specs.declared.tree.TreeRef.{TreeRef}
use Rattle.sasi_host.specs.Names.{Bytes}
use Rattle.sasi_host.specs.Damages.{seen_bytes}
use Rattle.sasi_host.specs.declared.damage.FormatRule.{FormatRule}
use Rattle.sasi_host.specs.declared.damage.FormatRule.TheVariants as rule
use Rattle.sasi_fields.specs.Reading.{Reading}
use Rattle.sasi_formats.specs.Formats.{Format}
use Rattle.sasi_formats.specs.Reader.{Got, Short, Long, Broken, read, start}
use Rattle.sasi_formats.specs.Failures.{Fails}
use Rattle.sasi_tokentree.specs.Damages.{is_tree_ref}
use Rattle.sasi_termblocks.specs.declared.fault.BlockFault.{BlockFault}
use Rattle.sasi_termblocks.specs.declared.fault.BlockFault.TheVariants.{OutOfMemory}
use Rattle.sasi_termblocks.specs.declared.fault.BlockFault.TheVariants as fault
use Rattle.sasi_termblocks.specs.declared.list_form.ListForm.{ListForm}
use Rattle.sasi_termblocks.specs.declared.term_entry.TermEntry.{TermEntry}
use Rattle.sasi_termblocks.specs.Entries.{is_below, term, term_entry}
use Rattle.sasi_termblocks.specs.Forms.{HasForm}

-- the number of two bytes at an offset
unfoldable pub number_at : Bytes → ℕ → ℕ
number_at block at = from_be_bytes w16 (drop at block)

-- how many entries the block tells, and where it tells the one with this index
abbrev pub count_in : Bytes → ℕ
count_in block = number_at block 0

abbrev pub offset_in : Bytes → ℕ → ℕ
offset_in block index = number_at block (2 + 2 * index)

-- the bytes of the block from that entry on
unfoldable pub bytes_in : Bytes → ℕ → Bytes
bytes_in block index = drop (offset_in block index) block

-- a value of the format begins there
abbrev pub HasEntry : {A : Type 0} → Format A → Bytes → ℕ → A → Type 0
HasEntry format block index value = (behind : Reading) × (read format (start (bytes_in block index)) ≡ Got value behind)

-- the first entry stands behind the offsets
abbrev pub StartsBehind : Bytes → Type 0
StartsBehind block = number_at block 2 ≡ 2 + 2 * count_in block

-- the entry has so many bytes
abbrev pub HasSize : Bytes → ℕ → ℕ → Type 0
HasSize block index size = (entry : TermEntry) × (behind : Reading) × (read term_entry (start (bytes_in block index)) ≡ Got entry behind) × (size ≡ length behind.done)

-- the next entry stands where this one ends
abbrev pub EndsAtNext : Bytes → ℕ → Type 0
EndsAtNext block index = (size : ℕ) × HasSize block index size × (offset_in block (index + 1) - offset_in block index ≡ size)

-- the tree, if there is one, can stand between the file's header, of 16 bytes, and the first term block, which is at this offset
abbrev pub RefersWithin : ℕ → Option TreeRef → Type 0
RefersWithin first None = Unit {0}
RefersWithin first (Some tree) = is_tree_ref 16 first tree ≡ true

-- ---- what breaks a block

-- it has no entries, or more than have room
pub record BreaksCount (block : Bytes) (broken : FormatRule) (at : ℕ) (seen : Bytes) : Type 0 where
  pub rule_is : broken ≡ rule.Number
  pub at_is : at ≡ 0
  pub seen_is : seen ≡ take 2 block
  pub wrong : (count_in block ≡ 0) ⊎ (4096 < 2 + 2 * count_in block)

-- its first entry stands elsewhere
pub record BreaksStart (block : Bytes) (broken : FormatRule) (at : ℕ) (seen : Bytes) : Type 0 where
  pub rule_is : broken ≡ rule.Number
  pub at_is : at ≡ 2
  pub seen_is : seen ≡ take 2 (drop 2 block)
  pub wrong : number_at block 2 ≢ 2 + 2 * count_in block

-- one of both
pub data BreaksFront (block : Bytes) (broken : FormatRule) (at : ℕ) (seen : Bytes) : Type 0 where
  in_count : BreaksCount block broken at seen → BreaksFront block broken at seen
  in_start : BreaksStart block broken at seen → BreaksFront block broken at seen

-- no value of the format begins where it tells this entry
pub data BreaksEntry {A : Type 0} (format : Format A) (block : Bytes) (index : ℕ) (broken : FormatRule) (at : ℕ) (seen : Bytes) : Type 0 where
  -- the entry ends behind the block: its offset is wrong
  offset : broken ≡ rule.Number → at ≡ 2 + 2 * index → seen ≡ take 2 (drop (2 + 2 * index) block) → Fails format (start (bytes_in block index)) Short ⊎ Fails format (start (bytes_in block index)) Long
      → BreaksEntry format block index broken at seen
  -- or one of its fields is
  field : (inner : ℕ) → at ≡ offset_in block index + inner → Fails format (start (bytes_in block index)) (Broken broken inner seen) → BreaksEntry format block index broken at seen

-- two entries, one behind the other, don't rise
pub record BreaksOrder (block : Bytes) (index : ℕ) (broken : FormatRule) (at : ℕ) (seen : Bytes) : Type 0 where
  pub before : Bytes
  pub after : Bytes
  pub has_before : HasEntry term block index before
  pub has_after : HasEntry term block (index + 1) after
  pub disorder : is_below before after ≡ false
  pub rule_is : broken ≡ rule.Order
  pub at_is : at ≡ offset_in block (index + 1)
  pub seen_is : seen ≡ take 8 (bytes_in block (index + 1))

-- the entry behind one stands elsewhere than where that ends
pub record BreaksNext (block : Bytes) (index : ℕ) (broken : FormatRule) (at : ℕ) (seen : Bytes) : Type 0 where
  pub size : ℕ
  pub has : HasSize block index size
  pub wrong : offset_in block (index + 1) - offset_in block index ≢ size
  pub rule_is : broken ≡ rule.Number
  pub at_is : at ≡ 2 + 2 * (index + 1)
  pub seen_is : seen ≡ take 2 (drop (2 + 2 * (index + 1)) block)

-- an entry refers to a tree that can't stand there; the offset of its root is behind the term's length, the term and the flags
pub record BreaksTree (first : ℕ) (index : ℕ) (block : Bytes) (broken : FormatRule) (at : ℕ) (seen : Bytes) : Type 0 where
  pub entry : TermEntry
  pub tree : TreeRef
  pub within : index < count_in block
  pub has : HasEntry term_entry block index entry
  pub list : entry.list ≡ Some tree
  pub wrong : is_tree_ref 16 first tree ≡ false
  pub rule_is : broken ≡ rule.Place
  pub at_is : at ≡ offset_in block index + (3 + length entry.term)
  pub seen_is : seen ≡ take 8 (drop (offset_in block index + (3 + length entry.term)) block)

-- an entry has its pairs elsewhere than where this form has them; its flags, a byte, are behind the term's length and the term
pub record BreaksForm (form : ListForm) (index : ℕ) (block : Bytes) (broken : FormatRule) (at : ℕ) (seen : Bytes) : Type 0 where
  pub entry : TermEntry
  pub within : index < count_in block
  pub has : HasEntry term_entry block index entry
  pub wrong : HasForm form entry → ⊥
  pub rule_is : broken ≡ rule.Number
  pub at_is : at ≡ offset_in block index + (2 + length entry.term)
  pub seen_is : seen ≡ take 1 (drop (offset_in block index + (2 + length entry.term)) block)

-- the fault is out of memory, or of this kind; its offset is that of a number of two bytes, and within a block from there
abbrev pub IsFault : (FormatRule → ℕ → Bytes → Type 0) → BlockFault → Type 0
IsFault Breaks OutOfMemory = Unit {0}
IsFault Breaks (fault.Broken broken) = Breaks broken.rule broken.at (seen_bytes broken.seen) × (broken.at ≤ 131072)

-- ---- a search

-- so many of the block's entries have terms below this one, as far as their neighbours tell
pub record IsBound (block : Bytes) (count : ℕ) (term_sought : Bytes) (below : ℕ) : Type 0 where
  pub within : below ≤ count
  pub last : (index : ℕ) → below ≡ index + 1 → (t : Bytes) × HasEntry term block index t × (is_below t term_sought ≡ true)
  pub next : below < count → (t : Bytes) × HasEntry term block below t × (is_below t term_sought ≡ false)
