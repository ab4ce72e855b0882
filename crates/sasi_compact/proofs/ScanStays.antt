-- What is known of a scan of data files stays, while these are as they were.
use Rattle.std.proofs.Common.{◌≡◌, ◌≤◌, ◌+◌, ◌-◌, ◌*◌, ℕ, List, [], ◌∷◌, Option, None, Some, IsSome, refl, sym, ap, subst, ◌∙◌}
use Rattle.std.specs.List.{AllByRecursion, Contains}
use Rattle.std.specs.Option.{option_map_or}
use Rattle.sasi_types.specs.declared.column.ColumnType.{ColumnType}
use Rattle.sasi_types.specs.declared.partitioner.Partitioner.{Partitioner}
use Rattle.sasi_host.specs.declared.name.FileName.{FileName}
use Rattle.sasi_host.specs.Buffered.{Buffered, IsBuffered}
use Rattle.sasi_host.proofs.BufferedLaws.{buffered_same}
use Rattle.sasi_host.specs.Names.{Bytes, Folder, data_name}
use Rattle.sasi_host.specs.View.{contents_in}
use Rattle.sasi_dataread.specs.Opened.{OpenDataFile}
use Rattle.sasi_dataread.specs.ReadCosts.{file_pages, progress}
use Rattle.sasi_dataread.specs.Scans.{DataScan, pairs_of}
use Rattle.sasi_tokentree.specs.Scans.{IsAtLast}
use Rattle.sasi_datawrite.specs.Format.{Content}
use Rattle.sasi_manifest.specs.declared.files.ListedFile.{ListedFile}
use Rattle.sasi_memtable.specs.MemtableView.{MemtableView}
use Rattle.sasi_merge.specs.Merging.{Head}
use Rattle.sasi_merge.specs.Streams.{Entries}
use Rattle.sasi_model.specs.Cells.{Partition}
use Rattle.sasi_scan.specs.Left.{AreLeft}
use Rattle.sasi_scan.specs.Paging.{IsPaged, all_pages_left, pages_left, table_reads, pages_in}
use Rattle.sasi_scan.specs.Parts.{AreContents}
use Rattle.sasi_scan.specs.Scanning.{CanScan, GivesFirst, IsScanOf, IsScanning, MayRead, ScanView}
use Rattle.sasi_scan.specs.Sources.{CanStep, IsListedFile, IsListedSource, IsOpenIn}
use Rattle.sasi_scan.specs.declared.source.Source.{Source}
use Rattle.sasi_scan.specs.declared.source.Source.TheVariants.{File, Map}

module _ (old new : Option Folder) (told : IsSome new → IsSome old) (files : List ListedFile) (types : List ColumnType) (same : (file : ListedFile) → Contains files file → contents_in new (data_name file.number) ≡ contents_in old (data_name file.number)) where
  -- ---- one source

  same_of : (opened : OpenDataFile) → IsListedFile old files types opened → contents_in new opened.file ≡ contents_in old opened.file
  same_of opened is = ap (contents_in new) is.named ∙ same is.file is.listed ∙ sym (ap (contents_in old) is.named)

  buffered_stays : (file : FileName) (b : Buffered) → contents_in new file ≡ contents_in old file → b.file ≡ file → IsBuffered b old → IsBuffered b new
  buffered_stays file b stays named is = buffered_same b old new is (subst (λ (name : FileName). contents_in new name ≡ contents_in old name) (sym named) stays)

  last_stays : (scan : DataScan) → contents_in new scan.opened.file ≡ contents_in old scan.opened.file → scan.pairs_buffered.file ≡ scan.opened.file → IsAtLast (pairs_of scan) old → IsAtLast (pairs_of scan) new
  last_stays scan stays named is =
      let here : contents_in new scan.pairs_buffered.file ≡ contents_in old scan.pairs_buffered.file = subst (λ (name : FileName). contents_in new name ≡ contents_in old name) (sym named) stays in
      λ bytes reads. is bytes (sym here ∙ reads)

  step_stays : (maps : List MemtableView) (source : Source) → IsListedSource old files types source → CanStep old maps source → CanStep new maps source
  step_stays maps (Map position) listed can = can
  step_stays maps (File scan) listed can = record {
    there = λ seen. subst IsSome (sym (same_of scan.opened listed)) (can.there (told seen));
    pairs_named = can.pairs_named;
    named = can.named;
    pairs_buffered = buffered_stays scan.opened.file scan.pairs_buffered (same_of scan.opened listed) can.pairs_named can.pairs_buffered;
    buffered = buffered_stays scan.opened.file scan.buffered (same_of scan.opened listed) can.named can.buffered;
    at_last = last_stays scan (same_of scan.opened listed) can.pairs_named can.at_last;
    last_key = record {
      holds = λ bytes reads. can.last_key.holds bytes (sym (same_of scan.opened listed) ∙ reads);
      content = λ bytes p content agrees reads data_file of keys. can.last_key.content bytes p content agrees (sym (same_of scan.opened listed) ∙ reads) data_file of keys;
    };
  }

  listed_stays : (source : Source) → IsListedSource old files types source → IsListedSource new files types source
  listed_stays (Map position) is = is
  listed_stays (File scan) is = record { file = is.file; listed = is.listed; named = is.named; types_are = is.types_are; footer = λ bytes reads. is.footer bytes (sym (same_of scan.opened is) ∙ reads) }

  abbrev opened_stays : (opened : OpenDataFile) (p : Partitioner) (content : Content) → IsListedFile old files types opened → IsOpenIn old opened p content → IsOpenIn new opened p content
  opened_stays opened p content listed is = record { bytes = is.bytes; reads = same_of opened listed ∙ is.reads; data_file = is.data_file; of = is.of; keys = is.keys }

  paged_stays : (p : Partitioner) (source : Source) → IsListedSource old files types source → IsPaged old p source → IsPaged new p source
  paged_stays p (Map position) listed is = is
  paged_stays p (File scan) listed is = record { content = is.content; is = opened_stays scan.opened p is.content listed is.is; sequential = is.sequential }

  left_stays : (source : Source) → IsListedSource old files types source → pages_left new source ≡ pages_left old source
  left_stays (Map position) listed = refl
  left_stays (File scan) listed = ap (λ (bytes : Option Bytes). 2 * option_map_or file_pages bytes 0 - progress scan) (same_of scan.opened listed)

  -- ---- all sources

  steps_stay : (maps : List MemtableView) (sources : List Source) → AllByRecursion (IsListedSource old files types) sources → AllByRecursion (CanStep old maps) sources → AllByRecursion (CanStep new maps) sources
  steps_stay maps [] listed can = tt
  steps_stay maps (source ∷ sources) listed can = (step_stays maps source listed.0 can.0, steps_stay maps sources listed.1 can.1)

  all_listed : (sources : List Source) → AllByRecursion (IsListedSource old files types) sources → AllByRecursion (IsListedSource new files types) sources
  all_listed [] listed = tt
  all_listed (source ∷ sources) listed = (listed_stays source listed.0, all_listed sources listed.1)

  all_paged : (p : Partitioner) (sources : List Source) → AllByRecursion (IsListedSource old files types) sources → AllByRecursion (IsPaged old p) sources → AllByRecursion (IsPaged new p) sources
  all_paged p [] listed paged = tt
  all_paged p (source ∷ sources) listed paged = (paged_stays p source listed.0 paged.0, all_paged p sources listed.1 paged.1)

  pages_stay : (sources : List Source) → AllByRecursion (IsListedSource old files types) sources → all_pages_left new sources ≡ all_pages_left old sources
  pages_stay [] listed = refl
  pages_stay (source ∷ sources) listed =
      ap (λ (n : ℕ). n + all_pages_left new sources) (left_stays source listed.0) ∙ ap (λ (n : ℕ). pages_left old source + n) (pages_stay sources listed.1)

  lefts_stay : (p : Partitioner) (maps : List MemtableView) (heads : List Head) (sources : List Source) (each : List Entries) → AllByRecursion (IsListedSource old files types) sources
      → AreLeft old p maps heads sources each → AreLeft new p maps heads sources each
  lefts_stay p maps [] sources each listed are = are
  lefts_stay p maps (head ∷ heads) [] each listed are = are
  lefts_stay p maps (head ∷ heads) (source ∷ sources) [] listed are = are
  lefts_stay p maps (head ∷ heads) (Map position ∷ sources) (left ∷ each) listed are = (are.0, lefts_stay p maps heads sources each listed.1 are.1)
  lefts_stay p maps (head ∷ heads) (File scan ∷ sources) (left ∷ each) listed are =
      let is = are.0.behind_it in (
        record { head_is = are.0.head_is; behind_it = record { content = is.content; is = opened_stays scan.opened p is.content listed.0 is.is; agrees = is.agrees; left_is = is.left_is } },
        lefts_stay p maps heads sources each listed.1 are.1,
      )

  -- ---- a scan

  pub can_stays : (maps : List MemtableView) (scan : ScanView) → IsScanOf old files types maps scan → CanScan old maps scan → CanScan new maps scan
  can_stays maps scan of can = record { can = steps_stay maps scan.sources of.listed can.can; counted = can.counted; given = can.given }

  pub scan_stays : (maps : List MemtableView) (scan : ScanView) → IsScanOf old files types maps scan → IsScanOf new files types maps scan
  scan_stays maps scan of = record { listed = all_listed scan.sources of.listed; sources_of = of.sources_of; heads_of = of.heads_of }

  pub scanning_stays : (p : Partitioner) (maps : List MemtableView) (scan : ScanView) (left : Entries) → IsScanOf old files types maps scan → IsScanning old p maps scan left → IsScanning new p maps scan left
  scanning_stays p maps scan left of on = record { each = on.each; each_is = lefts_stay p maps scan.heads scan.sources on.each of.listed on.each_is; rising = on.rising; is = on.is }

  pub first_stays : (p : Partitioner) (maps : List MemtableView) (scan : ScanView) (left : Entries) (found : Option (List ℕ × Partition)) → IsScanOf old files types maps scan → GivesFirst old p maps left scan found → GivesFirst new p maps left scan found
  first_stays p maps scan left None of gives = (gives.0, scanning_stays p maps scan [] of gives.1)
  first_stays p maps scan left (Some one) of gives = record { token = gives.token; rest = gives.rest; is = gives.is; others = scanning_stays p maps scan gives.rest of gives.others }

  pub may_stays : (p : Partitioner) (maps : List MemtableView) (scan : ScanView) (most : ℕ) → IsScanOf old files types maps scan → MayRead old p scan most → MayRead new p scan most
  may_stays p maps scan most of may = record { paged = all_paged p scan.sources of.listed may.paged; within = subst (λ (n : ℕ). n ≤ most) (sym (pages_stay scan.sources of.listed)) may.within }

-- ---- before a scan is opened

module _ (old new : Option Folder) where
  pub contents_stay : (p : Partitioner) (types : List ColumnType) (files : List ListedFile) (contents : List Content) → AllByRecursion (λ (f : ListedFile). contents_in new (data_name f.number) ≡ contents_in old (data_name f.number)) files
      → AreContents old p types files contents → AreContents new p types files contents
  contents_stay p types [] [] same are = tt
  contents_stay p types [] (content ∷ contents) same are = are
  contents_stay p types (file ∷ files) [] same are = are
  contents_stay p types (file ∷ files) (content ∷ contents) same are =
      (record { bytes = are.0.bytes; reads = same.0 ∙ are.0.reads; data_file = are.0.data_file; keys = are.0.keys }, contents_stay p types files contents same.1 are.1)

  pub reads_stay : (files : List ListedFile) → AllByRecursion (λ (f : ListedFile). contents_in new (data_name f.number) ≡ contents_in old (data_name f.number)) files → table_reads new files ≡ table_reads old files
  reads_stay [] same = refl
  reads_stay (file ∷ files) same =
      ap (λ (bytes : Option Bytes). (3 + 2 * option_map_or file_pages bytes 0) + table_reads new files) same.0
      ∙ ap (λ (n : ℕ). (3 + 2 * pages_in old (data_name file.number)) + n) (reads_stay files same.1)
