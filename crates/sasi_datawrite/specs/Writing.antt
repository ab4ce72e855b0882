-- Writers of data files.
use Rattle.std.specs.Prelude.{◌≡◌, ℕ, ◌-◌, ◌^◌, ◌<◌, ◌≤◌, Bool, List, length}
use Rattle.sasi_types.specs.declared.partitioner.Partitioner.{Partitioner}
use Rattle.sasi_types.specs.declared.tree.Pair.{Pair}
use Rattle.sasi_host.specs.declared.name.FileName.{FileName}
use Rattle.sasi_host.specs.View.{View, Holds}
use Rattle.sasi_tokentree.specs.Format.{pair_at, IsRising}
use Rattle.sasi_datawrite.specs.Format.{Content, front, content_max_timestamp, key_pairs}

-- the view of a writer
pub record Writer : Type 0 where
  pub file : FileName
  pub partitioner : Partitioner
  -- the pairs of the key tree so far
  pub pairs : List Pair
  -- the offset of the next partition
  pub offset : ℕ
  -- the largest timestamp so far
  pub max_timestamp : ℕ
  -- no call on it has failed
  pub usable : Bool

-- the last pair; that of 0 and 0 where there is none
abbrev pub last_pair : List Pair → Pair
last_pair pairs = pair_at pairs (length pairs - 1)

-- the pairs rise, and their offsets are below this one
pub record RiseBelow (pairs : List Pair) (offset : ℕ) : Type 0 where
  pub rising : IsRising pairs
  pub below : (last_pair pairs).place < offset
  pub fits : offset ≤ 2 ^ 62

-- the writer has written this content to its file
pub record IsWriting (v : View) (writer : Writer) (content : Content) : Type 0 where
  pub pairs : writer.pairs ≡ key_pairs writer.partitioner content
  pub offset_is : writer.offset ≡ length (front content)
  pub max_timestamp : writer.max_timestamp ≡ content_max_timestamp content
  pub holds : Holds v writer.file (front content)
