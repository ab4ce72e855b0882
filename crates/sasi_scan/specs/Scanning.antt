-- Scans of a table's parts, and what they promise.
use Rattle.std.specs.Prelude.{◌≡◌, ◌≢◌, ◌+◌, ◌≤◌, ℕ, List, [], ◌∷◌, length, Option, None, Some, IfErr, OnOk}
use Rattle.std.specs.List.{AllByRecursion}
use Rattle.std.specs.declared.result.Result.{Result}
use Rattle.sasi_types.specs.declared.column.ColumnType.{ColumnType}
use Rattle.sasi_types.specs.declared.partitioner.Partitioner.{Partitioner}
use Rattle.sasi_host.specs.declared.fault.ReadFault.{ReadFault}
use Rattle.sasi_host.specs.declared.fault.ReadFault.TheVariants as read
use Rattle.sasi_host.specs.Names.{Folder}
use Rattle.sasi_host.specs.View.{FailedAtLast, View}
use Rattle.sasi_manifest.specs.declared.files.ListedFile.{ListedFile}
use Rattle.sasi_memtable.specs.MemtableView.{MemtableView}
use Rattle.sasi_model.specs.Cells.{Partition}
use Rattle.sasi_merge.specs.Merging.{Head, with_token}
use Rattle.sasi_merge.specs.Streams.{Entries, IsRising, merged_entries}
use Rattle.sasi_scan.specs.Left.{AreLeft}
use Rattle.sasi_scan.specs.Paging.{IsPaged, all_pages_left}
use Rattle.sasi_scan.specs.Sources.{AreGiven, CanStep, IsHeadOf, IsListedSource, IsSourceOf}
use Rattle.sasi_scan.specs.declared.source.Source.{Source}

-- what contracts see of a scan: the next partition of each part, and the parts behind them
pub record ScanView : Type 0 where
  pub heads : List Head
  pub sources : List Source

-- a scan with these heads and sources
abbrev pub scan_of : List Head → List Source → ScanView
scan_of heads sources = record { heads = heads; sources = sources }

-- the files of the scan are there, what is buffered of them is theirs, and it has no further maps; the next partition of each file is the one that
-- was read last
pub record CanScan (seen : Option Folder) (maps : List MemtableView) (scan : ScanView) : Type 0 where
  pub can : AllByRecursion (CanStep seen maps) scan.sources
  pub counted : length scan.heads ≡ length scan.sources
  pub given : AreGiven scan.heads scan.sources

-- in any file, it is a scan of these listed files, of a table with these types, and of these maps
pub record IsScanOf (seen : Option Folder) (files : List ListedFile) (types : List ColumnType) (maps : List MemtableView) (scan : ScanView) : Type 0 where
  pub listed : AllByRecursion (IsListedSource seen files types) scan.sources
  pub sources_of : AllByRecursion (IsSourceOf types) scan.sources
  pub heads_of : AllByRecursion (IsHeadOf types maps) scan.heads

-- ---- what is left

-- its files are the data files of contents under the partitioner, which is that of its tokens, if they are taken from the keys; and of the merge
-- these partitions are left
pub record IsScanning (seen : Option Folder) (partitioner : Partitioner) (maps : List MemtableView) (scan : ScanView) (left : Entries) : Type 0 where
  pub each : List Entries
  pub each_is : AreLeft seen partitioner maps scan.heads scan.sources each
  pub rising : AllByRecursion IsRising each
  pub is : left ≡ merged_entries each

-- the key and the partition are the first of those that were left, and the scan has the others left
pub record GivesEntry (seen : Option Folder) (partitioner : Partitioner) (maps : List MemtableView) (left : Entries) (scan : ScanView) (key : List ℕ) (part : Partition) : Type 0 where
  pub token : ℕ
  pub rest : Entries
  pub is : left ≡ (with_token token key, part) ∷ rest
  pub others : IsScanning seen partitioner maps scan rest

-- **A scan gives the first of what is left of the merge**, and nothing exactly where nothing is left.
abbrev pub GivesFirst : Option Folder → Partitioner → List MemtableView → Entries → ScanView → Option (List ℕ × Partition) → Type 0
GivesFirst seen partitioner maps left scan None = (left ≡ []) × IsScanning seen partitioner maps scan []
GivesFirst seen partitioner maps left scan (Some one) = GivesEntry seen partitioner maps left scan one.0 one.1

-- ---- reads

-- where its files are the data files of contents, so many reads at most are left to the scan
pub record MayRead (seen : Option Folder) (partitioner : Partitioner) (scan : ScanView) (most : ℕ) : Type 0 where
  pub paged : AllByRecursion (IsPaged seen partitioner) scan.sources
  pub within : all_pages_left seen scan.sources ≤ most

-- what was read, and what is left to the scan to read, are at most so many reads
pub record HasReadsLeft (seen : Option Folder) (partitioner : Partitioner) (scan : ScanView) (most now : ℕ) : Type 0 where
  pub left : ℕ
  pub may : MayRead seen partitioner scan left
  pub reads : now + left ≤ most

-- ---- causes

-- Where reads fail, the last file call did, and none before it; else none did. No reply is emitted.
pub record ScanCauses {T : Type 0} (old new : View) (result : Result T ReadFault) : Type 0 where
  pub disk : old.disk_faults ≤ new.disk_faults
  pub out : new.out_faults ≡ old.out_faults
  pub ok : OnOk result (new.disk_faults ≡ old.disk_faults)
  pub failed : IfErr result (λ f. f ≡ read.Failed → FailedAtLast old.disk_faults new.disk_faults new.failed_last)
  pub other : IfErr result (λ f. f ≢ read.Failed → new.disk_faults ≡ old.disk_faults)
