-- How often a scan reads: each page of a data file at most twice, once for the key tree and once for the partitions, and three
-- pages at its opening.
use Rattle.std.specs.Prelude.{ℕ, ◌+◌, ◌-◌, ◌*◌, ◌≤◌, List, [], ◌∷◌, MatchResult, Option, ⊤}
use Rattle.std.specs.declared.result.Result.{Result}
use Rattle.std.specs.List.{AllByRecursion}
use Rattle.std.specs.Option.{option_map_or}
use Rattle.sasi_types.specs.declared.partitioner.Partitioner.{Partitioner}
use Rattle.sasi_host.specs.declared.fault.ReadFault.{ReadFault}
use Rattle.sasi_host.specs.declared.name.FileName.{FileName}
use Rattle.sasi_host.specs.Names.{Folder, data_name}
use Rattle.sasi_host.specs.View.{contents_in}
use Rattle.sasi_datawrite.specs.Format.{Content}
use Rattle.sasi_dataread.specs.ReadCosts.{IsSequential, file_pages, progress}
use Rattle.sasi_dataread.specs.Scans.{DataScan}
use Rattle.sasi_manifest.specs.declared.files.ListedFile.{ListedFile}
use Rattle.sasi_scan.specs.declared.source.Source.{Source}
use Rattle.sasi_scan.specs.declared.source.Source.TheVariants.{File, Map}
use Rattle.sasi_scan.specs.Sources.{IsOpenIn}

-- how many pages the file of this name has, none where it isn't told
abbrev pub pages_in : Option Folder → FileName → ℕ
pages_in seen name = option_map_or file_pages (contents_in seen name) 0

-- the reads of a scan of these data files
abbrev pub table_reads : Option Folder → List ListedFile → ℕ
table_reads seen [] = 0
table_reads seen (file ∷ files) = (3 + 2 * pages_in seen (data_name file.number)) + table_reads seen files

-- ---- sources

-- a sequential scan of the data file of a content
pub record IsPagedFile (seen : Option Folder) (partitioner : Partitioner) (scan : DataScan) : Type 0 where
  pub content : Content
  pub is : IsOpenIn seen scan.opened partitioner content
  pub sequential : IsSequential is.bytes content scan

abbrev pub IsPaged : Option Folder → Partitioner → Source → Type 0
IsPaged seen partitioner (File scan) = IsPagedFile seen partitioner scan
IsPaged seen partitioner (Map position) = ⊤

-- how many pages a source may still come to
abbrev pub pages_left : Option Folder → Source → ℕ
pages_left seen (File scan) = 2 * pages_in seen scan.opened.file - progress scan
pages_left seen (Map position) = 0

abbrev pub all_pages_left : Option Folder → List Source → ℕ
all_pages_left seen [] = 0
all_pages_left seen (source ∷ sources) = pages_left seen source + all_pages_left seen sources

-- a step of a source reads what it comes to
pub record PagesRead (seen : Option Folder) (partitioner : Partitioner) (old new : Source) (before now : ℕ) : Type 0 where
  pub paged : IsPaged seen partitioner new
  pub reads : now + pages_left seen new ≤ before + pages_left seen old

abbrev pub StepsReading : Option Folder → Partitioner → Source → Source → ℕ → ℕ → Type 0
StepsReading seen partitioner old new before now = IsPaged seen partitioner old → PagesRead seen partitioner old new before now

-- and so do steps of all sources
pub record AllPagesRead (seen : Option Folder) (partitioner : Partitioner) (old new : List Source) (before now : ℕ) : Type 0 where
  pub paged : AllByRecursion (IsPaged seen partitioner) new
  pub reads : now + all_pages_left seen new ≤ before + all_pages_left seen old

abbrev pub MovesReading : Option Folder → Partitioner → List Source → List Source → ℕ → ℕ → Type 0
MovesReading seen partitioner old new before now = AllByRecursion (IsPaged seen partitioner) old → AllPagesRead seen partitioner old new before now

-- the opening of sources takes so many more reads
pub record OpensReading (seen : Option Folder) (partitioner : Partitioner) (more : ℕ) (old new : List Source) (before now : ℕ) : Type 0 where
  pub paged : AllByRecursion (IsPaged seen partitioner) new
  pub reads : now + all_pages_left seen new ≤ before + more + all_pages_left seen old

-- ---- where a call may fail

-- a step that fails reads no more than the source may still come to
abbrev pub StepsWithin : {T : Type 0} → Option Folder → Partitioner → Source → Source → ℕ → ℕ → Result T ReadFault → Type 0
StepsWithin seen partitioner old new before now result = IsPaged seen partitioner old → MatchResult result (λ _. PagesRead seen partitioner old new before now) (λ _. now ≤ before + pages_left seen old)

-- and steps of which one fails no more than all of them may
abbrev pub MovesWithin : {T : Type 0} → Option Folder → Partitioner → List Source → List Source → ℕ → ℕ → Result T ReadFault → Type 0
MovesWithin seen partitioner old new before now result = AllByRecursion (IsPaged seen partitioner) old → MatchResult result (λ _. AllPagesRead seen partitioner old new before now) (λ _. now ≤ before + all_pages_left seen old)

-- an opening that fails takes no more than so many
abbrev pub OpensWithin : {T : Type 0} → Option Folder → Partitioner → ℕ → List Source → List Source → ℕ → ℕ → Result T ReadFault → Type 0
OpensWithin seen partitioner more old new before now result = MatchResult result (λ _. OpensReading seen partitioner more old new before now) (λ _. now ≤ before + more)
