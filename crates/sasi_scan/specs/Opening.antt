-- The opening of the sources of listed data files, each with its first head.
use Rattle.std.specs.Prelude.{◌≡◌, ◌<◌, ℕ, List, [], ◌∷◌, ◌++◌, map, Option, None, Some, suc, zero}
use Rattle.std.specs.FinMap as map_
use Rattle.sasi_types.specs.declared.column.ColumnType.{ColumnType}
use Rattle.sasi_types.specs.declared.partitioner.Partitioner.{Partitioner}
use Rattle.sasi_host.specs.Names.{Bytes, Folder, data_name}
use Rattle.sasi_host.specs.View.{contents_in}
use Rattle.sasi_datawrite.specs.Format.{Content}
use Rattle.sasi_dataread.specs.HeaderAndFooter.{HasHeaderAndFooter}
use Rattle.sasi_dataread.specs.Scans.{DataScan}
use Rattle.sasi_manifest.specs.declared.files.ListedFile.{ListedFile}
use Rattle.sasi_memtable.specs.MemtableView.{MemtableView}
use Rattle.sasi_merge.specs.Merging.{Head}
use Rattle.sasi_merge.specs.Streams.{head_of}
use Rattle.sasi_scan.specs.Parts.{HasContent}
use Rattle.sasi_scan.specs.Sources.{CanWalk, IsOpenIn, StepsInFile, numbers_of}
use Rattle.sasi_scan.specs.declared.source.Source.{Source}
use Rattle.sasi_scan.specs.declared.source.Source.TheVariants.{File, Map}

-- the scan of the listed file with these tokens, before its first partition; it has one
pub record IsOpenedFile (seen : Option Folder) (types : List ColumnType) (tokens : Option Partitioner) (file : ListedFile) (scan : DataScan) : Type 0 where
  pub named : scan.opened.file ≡ data_name file.number
  pub types_are : scan.opened.types ≡ types
  pub tokens_are : scan.tokens ≡ tokens
  pub some : 0 < scan.opened.tree.pairs
  pub begins : scan.passed ≡ zero
  pub no_pairs_buffered : scan.pairs_buffered.page ≡ None
  pub nothing_buffered : scan.buffered.page ≡ None
  pub can : CanWalk seen scan
  pub footer : (bytes : Bytes) → contents_in seen scan.opened.file ≡ Some bytes → HasHeaderAndFooter bytes (numbers_of scan.opened)
  pub opened : (partitioner : Partitioner) (content : Content) → HasContent seen partitioner types file content → IsOpenIn seen scan.opened partitioner content

-- the listed file was opened, and its first head was read
pub record IsOpened (seen : Option Folder) (types : List ColumnType) (tokens : Option Partitioner) (file : ListedFile) (head : Head) (source : Source) : Type 0 where
  pub scan : DataScan
  pub next : DataScan
  pub is : IsOpenedFile seen types tokens file scan
  pub steps : StepsInFile seen scan head next
  pub source_is : source ≡ File next

abbrev pub AreOpened : Option Folder → List ColumnType → Option Partitioner → List ListedFile → List Head → List Source → Type 0
AreOpened seen types tokens [] heads sources = (heads ≡ []) × (sources ≡ [])
AreOpened seen types tokens (file ∷ files) [] sources = ⊥
AreOpened seen types tokens (file ∷ files) (head ∷ heads) [] = ⊥
AreOpened seen types tokens (file ∷ files) (head ∷ heads) (source ∷ sources) = IsOpened seen types tokens file head source × AreOpened seen types tokens files heads sources

-- a source with its head was added, of which P is true
pub record IsAdded (P : Head → Source → Type 0) (heads : List Head) (sources : List Source) (heads_new : List Head) (sources_new : List Source) : Type 0 where
  pub head : Head
  pub source : Source
  pub is : P head source
  pub heads_are : heads_new ≡ heads ++ head ∷ []
  pub sources_are : sources_new ≡ sources ++ source ∷ []

-- the sources of maps, by their positions, from this one on
abbrev pub map_sources : ℕ → List MemtableView → List Source
map_sources position [] = []
map_sources position (m ∷ ms) = Map position ∷ map_sources (suc position) ms

-- and their first heads
abbrev pub map_heads : List MemtableView → List Head
map_heads = map (λ (m : MemtableView). head_of (map_.entries m.partitions))
