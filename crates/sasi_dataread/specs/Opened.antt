-- A data file that was opened, and where its partitions stand.
use Rattle.std.specs.Prelude.{◌≡◌, ℕ, List, ◌∷◌, ◌++◌, length}
use Rattle.sasi_types.specs.declared.column.ColumnType.{ColumnType}
use Rattle.sasi_types.specs.declared.partitioner.Partitioner.{Partitioner}
use Rattle.sasi_types.specs.declared.tree.TreeRef.{TreeRef}
use Rattle.sasi_model.specs.Cells.{Partition}
use Rattle.sasi_host.specs.declared.name.FileName.{FileName}
use Rattle.sasi_host.specs.Names.{Bytes}
use Rattle.sasi_tokentree.specs.Format.{tree_ref}
use Rattle.sasi_datawrite.specs.Format.{Content, front, content_max_timestamp, key_pairs}

-- the view of an open data file
pub record OpenDataFile : Type 0 where
  pub file : FileName
  -- the types of its table's columns
  pub types : List ColumnType
  -- what refers to the key tree, which has a pair for each partition
  pub tree : TreeRef
  -- the largest timestamp of a deletion or a cell
  pub max_timestamp : ℕ
  -- where the partitions end
  pub end : ℕ

-- it was opened as the data file of this content
pub record IsOpenedAs (opened : OpenDataFile) (partitioner : Partitioner) (content : Content) : Type 0 where
  pub tree : opened.tree ≡ tree_ref (length (front content)) (key_pairs partitioner content)
  pub max_timestamp : opened.max_timestamp ≡ content_max_timestamp content
  pub end : opened.end ≡ length (front content)

-- in the data file of the content this partition begins at this offset
pub record StandsAt (content : Content) (place : ℕ) (key : Bytes) (part : Partition) : Type 0 where
  pub before : Content
  pub behind : Content
  pub is : content ≡ before ++ (key, part) ∷ behind
  pub begins : place ≡ length (front before)
