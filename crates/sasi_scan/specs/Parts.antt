-- The parts of a table: its listed data files and then its maps in memory, the oldest first. What their merge is, and what is said of it in any file.
use Rattle.std.specs.Prelude.{◌≡◌, ◌++◌, ℕ, List, [], ◌∷◌, map, Option, Some, ⊤}
use Rattle.std.specs.FinMap as map_
use Rattle.std.specs.List.{AllByRecursion, Contains}
use Rattle.sasi_types.specs.declared.column.ColumnType.{ColumnType}
use Rattle.sasi_types.specs.declared.decorated_key.DecoratedKey.{DecoratedKey}
use Rattle.sasi_types.specs.declared.partitioner.Partitioner.{Partitioner}
use Rattle.sasi_model.specs.Abbreviations.{Partitions}
use Rattle.sasi_model.specs.Cells.{Partition, empty_partition, merge}
use Rattle.sasi_model.specs.State.{decorated}
use Rattle.sasi_model.specs.Stored.{IsBodyOf}
use Rattle.sasi_cells.specs.Maps.{merged}
use Rattle.sasi_host.specs.declared.damage.Damage.{Damage}
use Rattle.sasi_host.specs.Names.{Bytes, Folder, data_name}
use Rattle.sasi_host.specs.View.{contents_in}
use Rattle.sasi_memtable.specs.MemtableView.{MemtableView}
use Rattle.sasi_datawrite.specs.Files.{IsDataFile}
use Rattle.sasi_datawrite.specs.Format.{Content}
use Rattle.sasi_dataread.specs.Damages.{ShowsDataFile}
use Rattle.sasi_dataread.specs.Scans.{KeysAreBytes}
use Rattle.sasi_manifest.specs.declared.files.ListedFile.{ListedFile}
use Rattle.sasi_merge.specs.Streams.{Entries, maps_of}

-- ---- data files

-- the listed file reads as the data file of a content
pub record HasContent (seen : Option Folder) (partitioner : Partitioner) (types : List ColumnType) (file : ListedFile) (content : Content) : Type 0 where
  pub bytes : Bytes
  pub reads : contents_in seen (data_name file.number) ≡ Some bytes
  pub data_file : IsDataFile partitioner types bytes content
  pub keys : KeysAreBytes content

-- and so do all files, each with a content of its own
abbrev pub AreContents : Option Folder → Partitioner → List ColumnType → List ListedFile → List Content → Type 0
AreContents seen partitioner types [] [] = ⊤
AreContents seen partitioner types [] (content ∷ contents) = ⊥
AreContents seen partitioner types (file ∷ files) [] = ⊥
AreContents seen partitioner types (file ∷ files) (content ∷ contents) = HasContent seen partitioner types file content × AreContents seen partitioner types files contents

-- ---- the merge

-- the partitions of a data file, with their decorated keys
abbrev pub entries_of : Partitioner → Content → Entries
entries_of partitioner content = map (λ one. (decorated partitioner one.0, one.1)) content

-- the partitions of each part, in the order of their decorated keys
abbrev pub part_entries : Partitioner → List Content → List MemtableView → List Entries
part_entries partitioner contents maps = map (entries_of partitioner) contents ++ map (λ (m : MemtableView). map_.entries m.partitions) maps

-- **The merge of the parts**
abbrev pub merged_parts : Partitioner → List Content → List MemtableView → Partitions
merged_parts partitioner contents maps = merged (maps_of (part_entries partitioner contents maps))

-- ---- in any file

-- A part has this partition of the key: a file one that has a body in a table with these types, a map the one that it has under the key.
pub data IsOfPart (types : List ColumnType) (maps : List MemtableView) (key : List ℕ) (part : Partition) : Type 0 where
  of_file : IsBodyOf types key part → IsOfPart types maps key part
  of_map : (m : MemtableView) (q : DecoratedKey) → Contains maps m → map_.get m.partitions q ≡ Some part → q.key ≡ key → IsOfPart types maps key part

-- the merge of partitions, the oldest first, onto what there is
abbrev pub merged_all : Partition → List Partition → Partition
merged_all base [] = base
merged_all base (part ∷ parts) = merged_all (merge base part) parts

-- what is given of a key is the merge of what one part or more have of it
pub record IsMergeOfParts (types : List ColumnType) (maps : List MemtableView) (key : List ℕ) (whole : Partition) : Type 0 where
  pub oldest : Partition
  pub others : List Partition
  pub oldest_of : IsOfPart types maps key oldest
  pub others_of : AllByRecursion (IsOfPart types maps key) others
  pub is : whole ≡ merged_all (merge empty_partition oldest) others

-- ---- damage

-- the damage is that of one of the listed data files of a table with these types
pub record ShowsListed (seen : Option Folder) (files : List ListedFile) (types : List ColumnType) (damage : Damage) : Type 0 where
  pub file : ListedFile
  pub listed : Contains files file
  pub shown : (bytes : Bytes) → contents_in seen (data_name file.number) ≡ Some bytes → ShowsDataFile types (data_name file.number) bytes damage
