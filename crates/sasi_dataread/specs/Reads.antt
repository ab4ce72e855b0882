-- What a reader of a data file gives, by the host's view.
use Rattle.std.specs.Prelude.{◌≡◌, ℕ, List, ◌+◌, ◌*◌, ◌≤◌, length, Some}
use Rattle.sasi_types.specs.declared.column.ColumnType.{ColumnType}
use Rattle.sasi_types.specs.declared.partitioner.Partitioner.{Partitioner}
use Rattle.sasi_types.specs.declared.tree.Pair.{Pair}
use Rattle.sasi_model.specs.Cells.{Partition}
use Rattle.sasi_host.specs.declared.name.FileName.{FileName}
use Rattle.sasi_host.specs.declared.fault.ReadFault.{ReadFault}
use Rattle.sasi_host.specs.Names.{Bytes}
use Rattle.sasi_host.specs.Damages.{HasAt, OnDamage}
use Rattle.sasi_host.specs.View.{View, contents}
use Rattle.sasi_body.specs.Body.{body, IsBodyOf}
use Rattle.sasi_tokentree.specs.Scans.{HasEntry, HasLeafHeader}
use Rattle.sasi_datawrite.specs.Format.{Content}
use Rattle.sasi_datawrite.specs.Files.{IsDataFile}
use Rattle.sasi_dataread.specs.Opened.{OpenDataFile, IsOpenedAs, StandsAt}
use Rattle.sasi_dataread.specs.Bodies.{length_prefixed, IsLength, IsPartitionOffset}
use Rattle.sasi_host.specs.Disk.{Changes, Same}

-- the folder is unchanged, no call failed, and at most so many reads were made
pub record ReadsWithin (most : ℕ) (old new : View) : Type 0 where
  pub changes : Changes Same old new
  pub disk : new.disk_faults ≡ old.disk_faults
  pub out : new.out_faults ≡ old.out_faults
  pub reads : new.reads ≤ old.reads + most

-- ---- data files

-- the file reads as the data file of a content, and was opened as that
pub record IsOpenOn (v : View) (opened : OpenDataFile) (partitioner : Partitioner) (content : Content) : Type 0 where
  pub bytes : Bytes
  pub reads : contents v opened.file ≡ Some bytes
  pub data_file : IsDataFile partitioner opened.types bytes content
  pub of : IsOpenedAs opened partitioner content

-- damage is reported only where the file isn't a data file
abbrev pub NoFalseDataDamage : View → FileName → ReadFault → Type 0
NoFalseDataDamage v file = OnDamage (λ _. (bytes : Bytes) (partitioner : Partitioner) (types : List ColumnType) (content : Content) → contents v file ≡ Some
    bytes → IsDataFile partitioner types bytes content → ⊥)

-- the partition read is the one at the offset
abbrev pub ReadsPartition : View → OpenDataFile → ℕ → Bytes → Partition → Type 0
ReadsPartition v opened place key part = (partitioner : Partitioner) (content : Content) (k : Bytes) (p : Partition) → IsOpenOn v opened partitioner content →
    StandsAt content place k p → (key ≡ k) × (part ≡ p)

-- damage is reported only where no partition of a data file is at the offset
abbrev pub NoFalsePartitionDamage : View → OpenDataFile → ℕ → ReadFault → Type 0
NoFalsePartitionDamage v opened place = OnDamage (λ _. (partitioner : Partitioner) (content : Content) (key : Bytes) (part : Partition) → IsOpenOn v opened
    partitioner content → StandsAt content place key part → ⊥)

-- the key read is that of the one at the offset
abbrev pub ReadsKey : View → OpenDataFile → ℕ → Bytes → Type 0
ReadsKey v opened place key = (partitioner : Partitioner) (content : Content) (k : Bytes) (p : Partition) → IsOpenOn v opened partitioner content → StandsAt content place k p → key ≡ k

-- ---- in any file

-- the file has this partition of the table at the offset, which ends where the partitions do, or before
pub record IsStoredAt (v : View) (opened : OpenDataFile) (place : ℕ) (key : Bytes) (part : Partition) : Type 0 where
  pub in_table : IsBodyOf opened.types key part
  pub fits : IsLength opened.end place (length (body key part))
  pub stands : (bytes : Bytes) → contents v opened.file ≡ Some bytes → HasAt bytes place (length_prefixed (body key part))

-- the pair of the key tree with this index has the token, and leads to the partition; the first pair of a leaf stands behind the leaf's header
pub record LeadsToPartition (v : View) (opened : OpenDataFile) (index token : ℕ) (key : Bytes) (part : Partition) : Type 0 where
  pub pair : Pair
  pub token_is : pair.token ≡ token
  pub entry : (bytes : Bytes) → contents v opened.file ≡ Some bytes → HasEntry bytes opened.tree index pair
  pub header : (leaf : ℕ) → index ≡ 255 * leaf → (bytes : Bytes) → contents v opened.file ≡ Some bytes → HasLeafHeader bytes opened.tree leaf
  pub begins : IsPartitionOffset opened.end pair.place
  pub stored : IsStoredAt v opened pair.place key part
