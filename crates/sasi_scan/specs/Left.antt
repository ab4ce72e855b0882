-- What sources have left, where their files are the data files of contents.
use Rattle.std.specs.Prelude.{◌≡◌, ◌++◌, ℕ, List, [], ◌∷◌, drop, slice_get, Option, Some}
use Rattle.std.specs.FinMap as map_
use Rattle.sasi_types.specs.declared.partitioner.Partitioner.{Partitioner}
use Rattle.sasi_host.specs.Names.{Folder}
use Rattle.sasi_datawrite.specs.Format.{Content}
use Rattle.sasi_dataread.specs.Scans.{DataScan}
use Rattle.sasi_dataread.specs.Tokens.{AgreesWith}
use Rattle.sasi_memtable.specs.MemtableView.{MemtableView}
use Rattle.sasi_merge.specs.Merging.{Head}
use Rattle.sasi_merge.specs.Streams.{Entries, behind, head_of}
use Rattle.sasi_scan.specs.Parts.{entries_of}
use Rattle.sasi_scan.specs.Sources.{IsOpenIn}
use Rattle.sasi_scan.specs.declared.source.Source.{Source}
use Rattle.sasi_scan.specs.declared.source.Source.TheVariants.{File, Map}

-- ---- one source

-- the scan has these partitions of the content of its file left, under the partitioner of its tokens
pub record HasLeftInFile (seen : Option Folder) (partitioner : Partitioner) (scan : DataScan) (left : Entries) : Type 0 where
  pub content : Content
  pub is : IsOpenIn seen scan.opened partitioner content
  pub agrees : AgreesWith scan.tokens partitioner
  pub left_is : left ≡ entries_of partitioner (drop scan.passed content)

-- of these partitions the first is the head, and the scan has the others left
pub record IsLeftInFile (seen : Option Folder) (partitioner : Partitioner) (head : Head) (scan : DataScan) (left : Entries) : Type 0 where
  pub head_is : head ≡ head_of left
  pub behind_it : HasLeftInFile seen partitioner scan (behind left)

-- these are the last entries of the map, and the first of them is the head
pub record IsLeftInMap (maps : List MemtableView) (position : ℕ) (head : Head) (left : Entries) : Type 0 where
  pub m : MemtableView
  pub there : slice_get maps position ≡ Some m
  pub before : Entries
  pub is : map_.entries m.partitions ≡ before ++ left
  pub head_is : head ≡ head_of left

-- ---- all sources

abbrev pub IsLeft : Option Folder → Partitioner → List MemtableView → Head → Source → Entries → Type 0
IsLeft seen partitioner maps head (File scan) left = IsLeftInFile seen partitioner head scan left
IsLeft seen partitioner maps head (Map position) left = IsLeftInMap maps position head left

abbrev pub AreLeft : Option Folder → Partitioner → List MemtableView → List Head → List Source → List Entries → Type 0
AreLeft seen partitioner maps [] sources lefts = (sources ≡ []) × (lefts ≡ [])
AreLeft seen partitioner maps (head ∷ heads) [] lefts = ⊥
AreLeft seen partitioner maps (head ∷ heads) (source ∷ sources) [] = ⊥
AreLeft seen partitioner maps (head ∷ heads) (source ∷ sources) (left ∷ lefts) = IsLeft seen partitioner maps head source left × AreLeft seen partitioner maps heads sources lefts
