-- What the readers of a block give.
use Rattle.std.specs.Prelude.{◌≡◌, ℕ, ◌+◌, ◌*◌, ◌<◌, ◌≤◌, ◌⊎◌, Bool, true, false, take, drop}
use Rattle.sasi_host.specs.Names.{Bytes}
use Rattle.sasi_host.specs.Damages.{seen_bytes}
use Rattle.sasi_host.specs.declared.damage.FormatRule.{FormatRule}
use Rattle.sasi_host.specs.declared.damage.FormatRule.TheVariants as rule
use Rattle.sasi_formats.specs.Formats.{Format}
use Rattle.sasi_formats.specs.declared.fault.FormatFault.{FormatFault}
use Rattle.sasi_formats.specs.declared.fault.FormatFault.TheVariants as fault
use Rattle.sasi_termblocks.specs.declared.fault.BlockFault.{BlockFault}
use Rattle.sasi_termblocks.specs.declared.fault.BlockFault.TheVariants.{OutOfMemory, Broken}
use Rattle.sasi_termblocks.specs.Entries.{is_below, term, term_entry}
use Rattle.sasi_termblocks.specs.Descents.{pointer_to}
use Rattle.sasi_termblocks.specs.Windows.{BreaksEntry, BreaksFront, BreaksNext, BreaksOrder, HasEntry, bytes_in, count_in, offset_in}

-- the pointer with this index has some term and this offset
abbrev pub PointsTo : ℕ → ℕ → Bytes → ℕ → ℕ → Type 0
PointsTo low high block index place = (t : Bytes) × HasEntry (pointer_to low high) block index (t, place)

-- the test compares the entry's term with this one
abbrev pub IsCompared : Bytes → ℕ → Bytes → Bool → Type 0
IsCompared block index sought test = (t : Bytes) × HasEntry term block index t × (test ≡ is_below t sought)

-- one of the first entries is broken
abbrev pub BreaksSome : {A : Type 0} → Format A → Bytes → ℕ → FormatRule → ℕ → Bytes → Type 0
BreaksSome format block count broken at seen = (index : ℕ) × (index < count) × BreaksEntry format block index broken at seen

-- an entry's term is above that of the one before
abbrev pub IsAboveLast : Bytes → ℕ → Type 0
IsAboveLast block index = (last : ℕ) → index ≡ last + 1 → (a b : Bytes) → HasEntry term block last a → HasEntry term block index b → is_below a b ≡ true

-- the entry or the one before is broken, or the two don't rise
abbrev pub BreaksUpTo : Bytes → ℕ → FormatRule → ℕ → Bytes → Type 0
BreaksUpTo block index broken at seen = BreaksSome term block (index + 1) broken at seen ⊎ ((last : ℕ) × (index ≡ last + 1) × BreaksOrder block last broken at seen)

-- an entry's term isn't below this one
abbrev pub IsAtLeast : Bytes → ℕ → Bytes → Type 0
IsAtLeast block index least = (t : Bytes) × HasEntry term block index t × (is_below t least ≡ false)

-- an entry's term is below a term that is sought, or isn't, where the way to it tells otherwise
pub record IsMisplaced (test : Bool) (index : ℕ) (sought : Bytes) (block : Bytes) (broken : FormatRule) (at : ℕ) (seen : Bytes) : Type 0 where
  pub entry : Bytes
  pub has : HasEntry term block index entry
  pub compared : is_below entry sought ≡ test
  pub rule_is : broken ≡ rule.Order
  pub at_is : at ≡ offset_in block index
  pub seen_is : seen ≡ take 8 (bytes_in block index)

-- an entry is broken, or its term is below this one
abbrev pub BreaksLeast : ℕ → Bytes → Bytes → FormatRule → ℕ → Bytes → Type 0
BreaksLeast index least block broken at seen = BreaksEntry term block index broken at seen ⊎ IsMisplaced true index least block broken at seen

-- an entry is broken, or isn't the last one and ends elsewhere than where the next one stands
abbrev pub BreaksEnd : Bytes → ℕ → FormatRule → ℕ → Bytes → Type 0
BreaksEnd block index broken at seen = BreaksEntry term_entry block index broken at seen ⊎ ((index + 1 < count_in block) × BreaksNext block index broken at seen)

-- what breaks the first pointer block, whose first pointer leads to this page
abbrev pub BreaksFirstPointer : ℕ → Bytes → FormatRule → ℕ → Bytes → Type 0
BreaksFirstPointer page block broken at seen = BreaksFront block broken at seen ⊎ BreaksEntry (pointer_to page (page + 1)) block 0 broken at seen

-- the fault's offset is that of a number of two bytes, and within a block from there
abbrev pub IsNear : BlockFault → Type 0
IsNear OutOfMemory = Unit {0}
IsNear (Broken broken) = broken.at ≤ 131072

-- a search between two of a block's entries: those below it have terms below the one sought, as far as the neighbours tell
pub record IsSearched (block : Bytes) (count : ℕ) (sought : Bytes) (low high : ℕ) : Type 0 where
  pub ordered : low ≤ high
  pub within : high ≤ count
  pub last : (index : ℕ) → low ≡ index + 1 → (t : Bytes) × HasEntry term block index t × (is_below t sought ≡ true)
  pub next : high < count → (t : Bytes) × HasEntry term block high t × (is_below t sought ≡ false)

-- the fault's offset lies within a block
abbrev pub IsPlaced : FormatFault → Type 0
IsPlaced (fault.Broken broken) = broken.at ≤ 4096
IsPlaced _ = Unit {0}

-- the fault is a broken rule at this offset, with these bytes
abbrev pub IsBrokenAt : FormatRule → ℕ → Bytes → BlockFault → Type 0
IsBrokenAt rule_is at bytes OutOfMemory = ⊥
IsBrokenAt rule_is at bytes (Broken broken) = (broken.rule ≡ rule_is) × (broken.at ≡ at) × (seen_bytes broken.seen ≡ bytes)

-- the fault of an entry, by its offset in the block
abbrev pub IsMoved : Bytes → ℕ → FormatFault → BlockFault → Type 0
IsMoved block index fault.OutOfMemory now = now ≡ OutOfMemory
IsMoved block index fault.Short now = IsBrokenAt rule.Number (2 + 2 * index) (take 2 (drop (2 + 2 * index) block)) now
IsMoved block index fault.Long now = IsBrokenAt rule.Number (2 + 2 * index) (take 2 (drop (2 + 2 * index) block)) now
IsMoved block index (fault.Broken broken) now = IsBrokenAt broken.rule (offset_in block index + broken.at) (seen_bytes broken.seen) now
