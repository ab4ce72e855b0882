-- The candidates where no relation narrows them: all keys of a table.
use Rattle.std.specs.Prelude.{◌≡◌, ℕ, ◌+◌, ◌≤◌, List, Option, None, Some}
use Rattle.std.specs.FinMap as map_
use Rattle.sasi_types.specs.declared.column.ColumnType.{ColumnType}
use Rattle.sasi_types.specs.declared.partitioner.Partitioner.{Partitioner}
use Rattle.sasi_host.specs.Names.{Folder}
use Rattle.sasi_datawrite.specs.Format.{Content}
use Rattle.sasi_manifest.specs.declared.files.ListedFile.{ListedFile}
use Rattle.sasi_memtable.specs.MemtableView.{MemtableView}
use Rattle.sasi_scan.specs.Paging.{table_reads}
use Rattle.sasi_scan.specs.Parts.{AreContents, merged_parts}
use Rattle.sasi_scan.specs.Scanning.{CanScan, IsScanOf, IsScanning, MayRead, ScanView}
use Rattle.sasi_recheck.specs.Sources.{Candidate, first_price}

-- before its first candidate the whole merge of the parts is left, and then what the scan has left of it
abbrev pub ScanLeaves : List ColumnType → List ListedFile → Option ScanView → Option Folder → List MemtableView → List Candidate → Type 0
ScanLeaves types files None seen maps left =
    (partitioner : Partitioner) × (contents : List Content) × AreContents seen partitioner types files contents × (left ≡ map_.entries (merged_parts partitioner contents maps))
ScanLeaves types files (Some scan) seen maps left = (partitioner : Partitioner) × IsScanOf seen files types maps scan × IsScanning seen partitioner maps scan left

-- the reads of a scan, some of which the first price may pay
abbrev pub ScanPays : List ColumnType → List ListedFile → Option ScanView → Option Folder → List MemtableView → ℕ → List ℕ → Type 0
ScanPays types files None seen maps most prices =
    (partitioner : Partitioner) × (contents : List Content) × AreContents seen partitioner types files contents × (table_reads seen files ≤ most + first_price prices)
ScanPays types files (Some scan) seen maps most prices = (partitioner : Partitioner) × IsScanOf seen files types maps scan × MayRead seen partitioner scan most

-- an open scan is one of these files and maps, whatever the files are
abbrev pub ScanReady : List ColumnType → List ListedFile → Option ScanView → Option Folder → List MemtableView → Type 0
ScanReady types files None seen maps = Unit {0}
ScanReady types files (Some scan) seen maps = CanScan seen maps scan × IsScanOf seen files types maps scan

-- what was read, and the reads that what is left may take, are together at most so many more
abbrev pub SpendsTo : (ℕ → Type 0) → ℕ → ℕ → ℕ → Type 0
SpendsTo Pays most before now = (rest : ℕ) × Pays rest × (now + rest ≤ before + most)
