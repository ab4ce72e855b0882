-- What is known of a scan stays while its files are unchanged, and its maps but for indexes that were added.
use Rattle.std.proofs.Common.{◌≡◌, ◌≤◌, ◌+◌, ◌-◌, ◌*◌, ℕ, List, [], ◌∷◌, Option, None, Some, IsSome, refl, sym, ap, subst, ◌∙◌, inl, inr}
use Rattle.std.proofs.lemmas.List.Elements.{All-from_recursion}
use Rattle.std.specs.FinMap.{get}
use Rattle.std.specs.List.{AllByRecursion, Contains}
use Rattle.std.specs.Option.{option_map_or}
use Rattle.sasi_types.specs.declared.column.ColumnType.{ColumnType}
use Rattle.sasi_types.specs.declared.partitioner.Partitioner.{Partitioner}
use Rattle.sasi_host.specs.declared.name.FileName.{FileName}
use Rattle.sasi_host.specs.Buffered.{Buffered, IsBuffered}
use Rattle.sasi_host.specs.Names.{Bytes, Folder, data_name}
use Rattle.sasi_host.specs.View.{contents_in}
use Rattle.sasi_dataread.specs.Opened.{OpenDataFile}
use Rattle.sasi_dataread.specs.ReadCosts.{file_pages, progress}
use Rattle.sasi_dataread.specs.Scans.{DataScan, pairs_of}
use Rattle.sasi_tokentree.specs.Scans.{IsAtLast}
use Rattle.sasi_datawrite.specs.Format.{Content}
use Rattle.sasi_manifest.specs.declared.files.ListedFile.{ListedFile}
use Rattle.sasi_memindex.specs.Book.{Book}
use Rattle.sasi_memtable.specs.MemtableView.{MemtableView}
use Rattle.sasi_merge.specs.Merging.{Head}
use Rattle.sasi_merge.specs.Streams.{Entries}
use Rattle.sasi_scan.specs.Left.{AreLeft}
use Rattle.sasi_scan.specs.Numbered.{views_numbered}
use Rattle.sasi_scan.specs.Paging.{IsPaged, all_pages_left, pages_in, pages_left, table_reads}
use Rattle.sasi_scan.specs.Scanning.{IsScanOf, ScanView}
use Rattle.sasi_scan.specs.Sources.{CanStep, IsListedFile, IsListedSource, IsOpenIn}
use Rattle.sasi_scan.specs.declared.source.Source.{Source}
use Rattle.sasi_scan.specs.declared.source.Source.TheVariants.{File, Map}
use Rattle.sasi_memindex.specs.Growth.{IsGrown}
use Rattle.sasi_recheck.specs.Sources.{Candidate, first_price}
use Rattle.sasi_sources.specs.KeyCandidates.{HasKeyType, IsListed}
use Rattle.sasi_sources.specs.Maps.{IsOneOf}
use Rattle.sasi_sources.specs.ScanCandidates.{ScanLeaves, ScanPays, ScanReady}
use Rattle.sasi_sources.specs.inside.KeyLaws.{contents_stay, views_stay}

-- a listed file is one that may be read
each_listed : (all some : List ListedFile) → ((name : FileName) → IsListed some name → IsListed all name) → AllByRecursion (λ (file : ListedFile). IsListed all (data_name file.number)) some
each_listed all [] among = tt
each_listed all (file ∷ some) among = (among (data_name file.number) (inl refl), each_listed all some (λ name later. among name (inr later)))

listed_named : (files : List ListedFile) (file : ListedFile) → Contains files file → IsListed files (data_name file.number)
listed_named files file is =
    subst (λ (f : ListedFile). IsListed files (data_name f.number)) is.2
    (All-from_recursion (λ (f : ListedFile). IsListed files (data_name f.number)) files (each_listed files files (λ name listed. listed)) is.0 file is.1)

module _ (old new : Option Folder) (told : IsSome new → IsSome old) (files : List ListedFile) (types : List ColumnType) (same : (name : FileName) → IsListed files name → contents_in new name ≡ contents_in old name) where
  -- ---- one source

  same_of : (opened : OpenDataFile) → IsListedFile old files types opened → contents_in new opened.file ≡ contents_in old opened.file
  same_of opened is = same opened.file (subst (IsListed files) (sym is.named) (listed_named files is.file is.listed))

  buffered_stays : (file : FileName) (b : Buffered) → contents_in new file ≡ contents_in old file → b.file ≡ file → IsBuffered b old → IsBuffered b new
  buffered_stays file b stays named is =
      let here : contents_in new b.file ≡ contents_in old b.file = subst (λ (name : FileName). contents_in new name ≡ contents_in old name) (sym named) stays in
      λ page bytes at reads. is page bytes at (sym here ∙ reads)

  last_stays : (scan : DataScan) → contents_in new scan.opened.file ≡ contents_in old scan.opened.file → scan.pairs_buffered.file ≡ scan.opened.file → IsAtLast (pairs_of scan) old → IsAtLast (pairs_of scan) new
  last_stays scan stays named is =
      let here : contents_in new scan.pairs_buffered.file ≡ contents_in old scan.pairs_buffered.file = subst (λ (name : FileName). contents_in new name ≡ contents_in old name) (sym named) stays in
      λ bytes reads. is bytes (sym here ∙ reads)

  step_stays : (maps : List MemtableView) (source : Source) → IsListedSource old files types source → CanStep old maps source → CanStep new maps source
  step_stays maps (Map position) listed can = can
  step_stays maps (File scan) listed can = record {
    there = λ seen. subst IsSome (sym (same_of scan.opened listed)) (can.there (told seen));
    pairs_named = can.pairs_named;
    named = can.named;
    pairs_buffered = buffered_stays scan.opened.file scan.pairs_buffered (same_of scan.opened listed) can.pairs_named can.pairs_buffered;
    buffered = buffered_stays scan.opened.file scan.buffered (same_of scan.opened listed) can.named can.buffered;
    at_last = last_stays scan (same_of scan.opened listed) can.pairs_named can.at_last;
    last_key = record {
      holds = λ bytes reads. can.last_key.holds bytes (sym (same_of scan.opened listed) ∙ reads);
      content = λ bytes p content agrees reads data_file of keys. can.last_key.content bytes p content agrees (sym (same_of scan.opened listed) ∙ reads) data_file of keys;
    };
  }

  listed_stays : (source : Source) → IsListedSource old files types source → IsListedSource new files types source
  listed_stays (Map position) is = is
  listed_stays (File scan) is = record { file = is.file; listed = is.listed; named = is.named; types_are = is.types_are; footer = λ bytes reads. is.footer bytes (sym (same_of scan.opened is) ∙ reads) }

  abbrev opened_stays : (opened : OpenDataFile) (p : Partitioner) (content : Content) → IsListedFile old files types opened → IsOpenIn old opened p content → IsOpenIn new opened p content
  opened_stays opened p content listed is = record { bytes = is.bytes; reads = same_of opened listed ∙ is.reads; data_file = is.data_file; of = is.of; keys = is.keys }

  paged_stays : (p : Partitioner) (source : Source) → IsListedSource old files types source → IsPaged old p source → IsPaged new p source
  paged_stays p (Map position) listed is = is
  paged_stays p (File scan) listed is = record { content = is.content; is = opened_stays scan.opened p is.content listed is.is; sequential = is.sequential }

  left_stays : (source : Source) → IsListedSource old files types source → pages_left new source ≡ pages_left old source
  left_stays (Map position) listed = refl
  left_stays (File scan) listed = ap (λ (bytes : Option Bytes). 2 * option_map_or file_pages bytes 0 - progress scan) (same_of scan.opened listed)

  -- ---- all sources

  steps_stay : (maps : List MemtableView) (sources : List Source) → AllByRecursion (IsListedSource old files types) sources → AllByRecursion (CanStep old maps) sources → AllByRecursion (CanStep new maps) sources
  steps_stay maps [] listed can = tt
  steps_stay maps (source ∷ sources) listed can = (step_stays maps source listed.0 can.0, steps_stay maps sources listed.1 can.1)

  all_listed : (sources : List Source) → AllByRecursion (IsListedSource old files types) sources → AllByRecursion (IsListedSource new files types) sources
  all_listed [] listed = tt
  all_listed (source ∷ sources) listed = (listed_stays source listed.0, all_listed sources listed.1)

  all_paged : (p : Partitioner) (sources : List Source) → AllByRecursion (IsListedSource old files types) sources → AllByRecursion (IsPaged old p) sources → AllByRecursion (IsPaged new p) sources
  all_paged p [] listed paged = tt
  all_paged p (source ∷ sources) listed paged = (paged_stays p source listed.0 paged.0, all_paged p sources listed.1 paged.1)

  pages_stay : (sources : List Source) → AllByRecursion (IsListedSource old files types) sources → all_pages_left new sources ≡ all_pages_left old sources
  pages_stay [] listed = refl
  pages_stay (source ∷ sources) listed =
      ap (λ (n : ℕ). n + all_pages_left new sources) (left_stays source listed.0) ∙ ap (λ (n : ℕ). pages_left old source + n) (pages_stay sources listed.1)

  lefts_stay : (p : Partitioner) (maps : List MemtableView) (heads : List Head) (sources : List Source) (each : List Entries) → AllByRecursion (IsListedSource old files types) sources
      → AreLeft old p maps heads sources each → AreLeft new p maps heads sources each
  lefts_stay p maps [] sources each listed are = are
  lefts_stay p maps (head ∷ heads) [] each listed are = are
  lefts_stay p maps (head ∷ heads) (source ∷ sources) [] listed are = are
  lefts_stay p maps (head ∷ heads) (Map position ∷ sources) (left ∷ each) listed are = (are.0, lefts_stay p maps heads sources each listed.1 are.1)
  lefts_stay p maps (head ∷ heads) (File scan ∷ sources) (left ∷ each) listed are =
      let is = are.0.behind_it in (
        record { head_is = are.0.head_is; behind_it = record { content = is.content; is = opened_stays scan.opened p is.content listed.0 is.is; agrees = is.agrees; left_is = is.left_is } },
        lefts_stay p maps heads sources each listed.1 are.1,
      )

  -- ---- a scan

  scan_stays : (maps : List MemtableView) (scan : ScanView) → IsScanOf old files types maps scan → IsScanOf new files types maps scan
  scan_stays maps scan of = record { listed = all_listed scan.sources of.listed; sources_of = of.sources_of; heads_of = of.heads_of }

  ready_stays : (scan : Option ScanView) (maps : List MemtableView) → ScanReady types files scan old maps → ScanReady types files scan new maps
  ready_stays None maps ready = ready
  ready_stays (Some scan) maps ready =
      let can = ready.0 in
      let of = ready.1 in (
        record { can = steps_stay maps scan.sources of.listed can.can; counted = can.counted; given = can.given },
        scan_stays maps scan of,
      )

  leaves_stay : (scan : Option ScanView) (maps : List MemtableView) (left : List Candidate) → ScanLeaves types files scan old maps left → ScanLeaves types files scan new maps left
  leaves_stay None maps left is = (is.0, is.1, contents_stay old new is.0 types files is.1 same is.2, is.3)
  leaves_stay (Some scan) maps left is =
      let p = is.0 in
      let of = is.1 in
      let on = is.2 in (
        p,
        scan_stays maps scan of,
        record { each = on.each; each_is = lefts_stay p maps scan.heads scan.sources on.each of.listed on.each_is; rising = on.rising; is = on.is },
      )

  table_stays : (some : List ListedFile) → ((name : FileName) → IsListed some name → contents_in new name ≡ contents_in old name) → table_reads new some ≡ table_reads old some
  table_stays [] stay = refl
  table_stays (file ∷ some) stay =
      ap (λ (bytes : Option Bytes). (3 + 2 * option_map_or file_pages bytes 0) + table_reads new some) (stay (data_name file.number) (inl refl))
      ∙ ap (λ (n : ℕ). (3 + 2 * pages_in old (data_name file.number)) + n) (table_stays some (λ name later. stay name (inr later)))

  pays_stay : (scan : Option ScanView) (maps : List MemtableView) (most : ℕ) (prices : List ℕ) → ScanPays types files scan old maps most prices → ScanPays types files scan new maps most prices
  pays_stay None maps most prices is = (is.0, is.1, contents_stay old new is.0 types files is.1 same is.2, subst (λ (n : ℕ). n ≤ most + first_price prices) (sym (table_stays files same)) is.3)
  pays_stay (Some scan) maps most prices is =
      let p = is.0 in
      let of = is.1 in
      let may = is.2 in (
        p,
        scan_stays maps scan of,
        record { paged = all_paged p scan.sources of.listed may.paged; within = subst (λ (n : ℕ). n ≤ most) (sym (pages_stay scan.sources of.listed)) may.within },
      )

pub scan_keeps : (types : List ColumnType) (files : List ListedFile) (scan : Option ScanView) (numbers : List ℕ) (old new : Option Folder) (was now : Book) → (IsSome new → IsSome old) → ((name : FileName) → IsListed files name → contents_in new name ≡ contents_in old name)
    → ((number : ℕ) → IsOneOf numbers number → IsGrown (get was number) (get now number))
    → (ScanReady types files scan old (views_numbered was numbers) → ScanReady types files scan new (views_numbered now numbers)) × ((left : List Candidate) → ScanLeaves types files scan old (views_numbered was numbers) left → ScanLeaves types files scan new (views_numbered now numbers) left)
    × ((most : ℕ) (prices : List ℕ) → ScanPays types files scan old (views_numbered was numbers) most prices → ScanPays types files scan new (views_numbered now numbers) most prices)
    × ((kind : ColumnType) → HasKeyType types (views_numbered was numbers) kind → HasKeyType types (views_numbered now numbers) kind)
scan_keeps types files scan numbers old new was now told same maps =
    let stay = sym (views_stay was now numbers maps) in
    let before = views_numbered was numbers in (
      (λ ready. subst (λ (ms : List MemtableView). ScanReady types files scan new ms) stay (ready_stays old new told files types same scan before ready)),
      (λ left is. subst (λ (ms : List MemtableView). ScanLeaves types files scan new ms left) stay (leaves_stay old new told files types same scan before left is)),
      (λ most prices is. subst (λ (ms : List MemtableView). ScanPays types files scan new ms most prices) stay (pays_stay old new told files types same scan before most prices is)),
      (λ kind is. subst (λ (ms : List MemtableView). HasKeyType types ms kind) stay is),
    )
