-- What is made before a compaction is listed: its file, with the index files.
use Rattle.std.specs.Prelude.{◌≡◌, ◌≤◌, ℕ, length}
use Rattle.std.specs.FinMap as map_
use Rattle.std.specs.List.{AllByRecursion}
use Rattle.sasi_types.specs.declared.partitioner.Partitioner.{Partitioner}
use Rattle.sasi_host.specs.Names.{Bytes, Folder}
use Rattle.sasi_datawrite.specs.Format.{data_bytes}
use Rattle.sasi_manifest.proofs.Replacing.{At}
use Rattle.sasi_layout.specs.Compacting.{Compaction, compact_parts, output_file}
use Rattle.sasi_layout.specs.Flushed.{contents_of}
use Rattle.sasi_layout.specs.Layout.{Layout, TableParts}
use Rattle.sasi_layout.specs.Shape.{HasFile, HasIndexFile}

-- the folder has the file of the merge of the sources
abbrev pub HasOutput : Compaction → Layout → Folder → Type 0
HasOutput c l folder = At 1 c.table (λ t. HasFile folder l.partitioner t.definition t.numbers (output_file l.used.part c t)) l.tables

-- these are the bytes of its data file
pub record IsMerge (partitioner : Partitioner) (used : ℕ) (c : Compaction) (bytes : Bytes) (t : TableParts) : Type 0 where
  pub some : 1 ≤ length (map_.entries (output_file used c t).holds)
  pub bytes_are : bytes ≡ data_bytes partitioner (contents_of (output_file used c t).holds)

-- and the index files of its content are there
abbrev pub HasOutputIndexes : Partitioner → ℕ → Compaction → TableParts → Folder → Type 0
HasOutputIndexes partitioner used c t folder = AllByRecursion (HasIndexFile folder partitioner t.definition t.numbers c.output (contents_of (output_file used c t).holds)) (compact_parts used c t.numbers)
