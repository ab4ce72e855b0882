-- The reads of scans, one after another.
use Rattle.std.proofs.Common.{◌≡◌, ◌+◌, ◌*◌, ◌<◌, ◌≤◌, ℕ, suc, zero, List, [], ◌∷◌, ◌++◌, get_or, length, set, take, slice_get, MatchResult, Option, None, Some, Result, Ok, Err, refl, sym, ap, subst, ◌∙◌, arith}
use Rattle.std.specs.List.{AllByRecursion}
use Rattle.std.specs.Option.{option_map_or}
use Rattle.sasi_types.specs.declared.column.ColumnType.{ColumnType}
use Rattle.sasi_types.specs.declared.partitioner.Partitioner.{Partitioner}
use Rattle.sasi_host.specs.declared.fault.ReadFault.{ReadFault}
use Rattle.sasi_host.specs.declared.name.FileName.{FileName}
use Rattle.sasi_host.specs.Disk.{Changes, Same}
use Rattle.sasi_host.specs.Names.{Bytes, Folder, data_name}
use Rattle.sasi_host.specs.View.{View, contents_in}
use Rattle.sasi_datawrite.specs.Files.{IsDataFile}
use Rattle.sasi_datawrite.specs.Format.{Content}
use Rattle.sasi_dataread.specs.Opened.{IsOpenedAs, OpenDataFile}
use Rattle.sasi_dataread.specs.ReadCosts.{ReadsEachPageOnce, ScansPagesOnce, always_within, begins_sequential, file_pages, progress, progress_within}
use Rattle.sasi_dataread.specs.Scans.{DataScan}
use Rattle.sasi_manifest.specs.declared.files.ListedFile.{ListedFile}
use Rattle.sasi_memtable.specs.MemtableView.{MemtableView}
use Rattle.sasi_merge.specs.Merging.{Head}
use Rattle.sasi_scan.specs.declared.source.Source.{Source}
use Rattle.sasi_scan.specs.declared.source.Source.TheVariants.{File}
use Rattle.sasi_scan.specs.Sources.{IsOpenIn}
use Rattle.sasi_scan.specs.Paging.{AllPagesRead, IsPaged, MovesReading, MovesWithin, OpensReading, PagesRead, StepsReading, StepsWithin, all_pages_left, pages_in, pages_left, table_reads}
use Rattle.sasi_scan.specs.Parts.{AreContents, HasContent}
use Rattle.sasi_scan.specs.Opening.{IsOpenedFile, map_sources}
use Rattle.sasi_scan.specs.Scanning.{HasReadsLeft, MayRead, ScanView, scan_of}
use Rattle.sasi_scan.proofs.Costs.{reads_same}
use Rattle.sasi_scan.proofs.Moves.{got}
use Rattle.sasi_scan.proofs.Openings.{content_at}

-- ---- one source

pages_are : (seen : Option Folder) (name : FileName) (bytes : Bytes) → contents_in seen name ≡ Some bytes → pages_in seen name ≡ file_pages bytes
pages_are seen name bytes is = ap (λ (o : Option Bytes). option_map_or file_pages o 0) is

file_reads : (seen : Option Folder) (p : Partitioner) (old new : DataScan) (before now : ℕ) (content : Content) (is : IsOpenIn seen old.opened p content) → new.opened ≡ old.opened → ReadsEachPageOnce is.bytes content before now old new → PagesRead seen p (File old) (File new) before now
file_reads seen p old new before now content is same once =
    let open_now : IsOpenIn seen new.opened p content = record {
      bytes = is.bytes;
      reads = ap (λ (o : OpenDataFile). contents_in seen o.file) same ∙ is.reads;
      data_file = subst (λ (o : OpenDataFile). IsDataFile p o.types is.bytes content) (sym same) is.data_file;
      of = subst (λ (o : OpenDataFile). IsOpenedAs o p content) (sym same) is.of;
      keys = is.keys;
    } in
    let pages = pages_are seen old.opened.file is.bytes is.reads in
    let pages_now : pages_in seen new.opened.file ≡ pages_in seen old.opened.file = ap (λ (o : OpenDataFile). pages_in seen o.file) same in
    let within = progress_within is.bytes content new once.sequential in
    record {
      paged = record { content = content; is = open_now; sequential = once.sequential };
      reads = omega (arith, once.pages, within, pages, pages_now);
    }

scan_stops : (seen : Option Folder) (old : DataScan) (before now : ℕ) (bytes : Bytes) → contents_in seen old.opened.file ≡ Some bytes → now + progress old ≤ before + 2 * file_pages bytes → now ≤ before + pages_left seen (File old)
scan_stops seen old before now bytes is within = omega (arith, within, pages_are seen old.opened.file bytes is)

pub scan_reads : (v w : View) (old new : DataScan) (result : Result Head ReadFault) → new.opened ≡ old.opened → ScansPagesOnce v w old new result → (p : Partitioner) → StepsWithin v.files p (File old) (File new) v.reads w.reads result
scan_reads v w old new result same once p paged =
    by result (once p paged.content (record { bytes = paged.is.bytes; reads = paged.is.reads; data_file = paged.is.data_file; of = paged.is.of }) paged.is.keys paged.sequential)
  where
    by : (r : Result Head ReadFault) → MatchResult r (λ _. ReadsEachPageOnce paged.is.bytes paged.content v.reads w.reads old new) (λ _. w.reads + progress old ≤ v.reads + 2 * file_pages paged.is.bytes)
        → MatchResult r (λ _. PagesRead v.files p (File old) (File new) v.reads w.reads) (λ _. w.reads ≤ v.reads + pages_left v.files (File old))
    by (Ok head) advances = file_reads v.files p old new v.reads w.reads paged.content paged.is same advances
    by (Err f) within = scan_stops v.files old v.reads w.reads paged.is.bytes paged.is.reads within

-- whether it failed or not
step_within : {T : Type 0} (seen : Option Folder) (p : Partitioner) (old new : Source) (before now : ℕ) (result : Result T ReadFault) → StepsWithin seen p old new before now result → IsPaged seen p old → now ≤ before + pages_left seen old
step_within seen p old new before now result step paged = always_within (PagesRead seen p old new before now) now (before + pages_left seen old) result (λ advances. omega (arith, advances.reads)) (step paged)

-- ---- all sources

pub none_read : (seen : Option Folder) (p : Partitioner) (sources : List Source) (count : ℕ) → MovesReading seen p sources sources count count
none_read seen p sources count paged = record { paged = paged; reads = omega arith }

pub reads_joined : (seen : Option Folder) (p : Partitioner) (first second third : List Source) (a b c : ℕ) → MovesReading seen p first second a b → MovesReading seen p second third b c → MovesReading seen p first third a c
reads_joined seen p first second third a b c one two paged =
    let before = one paged in
    let after = two before.paged in
    record { paged = after.paged; reads = omega (arith, before.reads, after.reads) }

-- whether one of their steps failed or not
gone_within : {T : Type 0} (seen : Option Folder) (p : Partitioner) (old new : List Source) (before now : ℕ) (result : Result T ReadFault) → MovesWithin seen p old new before now result → AllByRecursion (IsPaged seen p) old → now ≤ before + all_pages_left seen old
gone_within seen p old new before now result advances paged = always_within (AllPagesRead seen p old new before now) now (before + all_pages_left seen old) result (λ all. omega (arith, all.reads)) (advances paged)

-- they went on, and then one may have failed
pub stops_on : {T : Type 0} (seen : Option Folder) (p : Partitioner) (first second third : List Source) (a b c : ℕ) (result : Result T ReadFault) → MovesReading seen p first second a b → MovesWithin seen p second third b c result → AllByRecursion (IsPaged seen p) first → c ≤ a + all_pages_left seen first
stops_on seen p first second third a b c result one two paged = let before = one paged in omega (arith, before.reads, gone_within seen p second third b c result two before.paged)

-- a step of the source at a position
pub set_reads : (seen : Option Folder) (p : Partitioner) (sources : List Source) (at : ℕ) (source after : Source) (before now : ℕ) → slice_get sources at ≡ Some source → StepsReading seen p source after before now → MovesReading seen p sources (set sources at after) before now
set_reads seen p [] at source after before now is step paged = absurd (let no : None ≡ Some source = is in cc)
set_reads seen p (s ∷ sources) zero source after before now is step paged =
    let same : source ≡ s = cc in
    let one = step (subst (IsPaged seen p) (sym same) paged.0) in
    let pages = ap (pages_left seen) same in
    record { paged = (one.paged, paged.1); reads = omega (arith, one.reads, pages) }
set_reads seen p (s ∷ sources) (suc at) source after before now is step paged =
    let rest = set_reads seen p sources at source after before now is step paged.1 in
    record { paged = (paged.0, rest.paged); reads = omega (arith, rest.reads) }

-- and one that failed
pub set_stops : (seen : Option Folder) (p : Partitioner) (sources : List Source) (at : ℕ) (source : Source) (before now : ℕ) → slice_get sources at ≡ Some source → (IsPaged seen p source → now ≤ before + pages_left seen source) → AllByRecursion (IsPaged seen p) sources → now ≤ before + all_pages_left seen sources
set_stops seen p [] at source before now is step paged = absurd (let no : None ≡ Some source = is in cc)
set_stops seen p (s ∷ sources) zero source before now is step paged =
    let same : source ≡ s = cc in
    omega (arith, step (subst (IsPaged seen p) (sym same) paged.0), ap (pages_left seen) same)
set_stops seen p (s ∷ sources) (suc at) source before now is step paged = omega (arith, set_stops seen p sources at source before now is step paged.1)

-- ---- the opening of sources

paged_push : (seen : Option Folder) (p : Partitioner) (sources : List Source) (source : Source) → AllByRecursion (IsPaged seen p) sources → IsPaged seen p source → AllByRecursion (IsPaged seen p) (sources ++ source ∷ [])
paged_push seen p [] source all one = (one, tt)
paged_push seen p (s ∷ sources) source all one = (all.0, paged_push seen p sources source all.1 one)

pages_push : (seen : Option Folder) (sources : List Source) (source : Source) → all_pages_left seen (sources ++ source ∷ []) ≡ all_pages_left seen sources + pages_left seen source
pages_push seen [] source = omega arith
pages_push seen (s ∷ sources) source = omega (arith, pages_push seen sources source)

-- an opened file is scanned from its start
opened_paged : (v : View) (p : Partitioner) (types : List ColumnType) (tokens : Option Partitioner) (file : ListedFile) (content : Content) (scan : DataScan) → IsOpenedFile v.files types tokens file scan → HasContent v.files p types file content → IsPaged v.files p (File scan)
opened_paged v p types tokens file content scan is has =
    let open_in = is.opened p content has in
    record { content = content; is = open_in; sequential = begins_sequential open_in.bytes content scan is.no_pairs_buffered is.nothing_buffered }

-- its first step may fail, or what follows it
pub open_stops : {T : Type 0} (v w u : View) (p : Partitioner) (types : List ColumnType) (tokens : Option Partitioner) (file : ListedFile) (content : Content) (scan : DataScan) (after : Source) (result : Result T ReadFault) → Changes Same v w → IsOpenedFile v.files types tokens file scan → HasContent v.files p types file content → w.reads ≤ v.reads + 3 → StepsWithin w.files p (File scan) after w.reads u.reads result → u.reads ≤ v.reads + (3 + 2 * pages_in v.files (data_name file.number))
open_stops v w u p types tokens file content scan after result change is has three steps =
    let step = subst (λ (o : Option Folder). StepsWithin o p (File scan) after w.reads u.reads result) (reads_same v w change) steps in
    let within = step_within v.files p (File scan) after w.reads u.reads result step (opened_paged v p types tokens file content scan is has) in
    omega (arith, three, within, ap (pages_in v.files) is.named)

pub open_reads : (v w u : View) (p : Partitioner) (types : List ColumnType) (tokens : Option Partitioner) (file : ListedFile) (content : Content) (scan : DataScan) (after : Source) (olds news : List Source) → Changes Same v w → IsOpenedFile v.files types tokens file scan → HasContent v.files p types file content → w.reads ≤ v.reads + 3 → StepsReading w.files p (File scan) after w.reads u.reads → news ≡ olds ++ after ∷ [] → AllByRecursion (IsPaged v.files p) olds → OpensReading v.files p (3 + 2 * pages_in v.files (data_name file.number)) olds news v.reads u.reads
open_reads v w u p types tokens file content scan after olds news change is has three steps news_are paged =
    let step = subst (λ (o : Option Folder). StepsReading o p (File scan) after w.reads u.reads) (reads_same v w change) steps (opened_paged v p types tokens file content scan is has) in
    let named = ap (pages_in v.files) is.named in
    let pages = pages_push v.files olds after in
    record {
      paged = subst (AllByRecursion (IsPaged v.files p)) (sym news_are) (paged_push v.files p olds after paged step.paged);
      reads = subst (λ (ss : List Source). u.reads + all_pages_left v.files ss ≤ v.reads + (3 + 2 * pages_in v.files (data_name file.number)) + all_pages_left v.files olds) (sym news_are)
          (omega (arith, three, step.reads, named, pages));
    }

reads_push : (seen : Option Folder) (files : List ListedFile) (file : ListedFile) → table_reads seen (files ++ file ∷ []) ≡ table_reads seen files + (3 + 2 * pages_in seen (data_name file.number))
reads_push seen [] file = omega arith
reads_push seen (f ∷ files) file = omega (arith, reads_push seen files file)

take_next : (xs : List ListedFile) (n : ℕ) (x : ListedFile) → n < length xs → x ≡ get_or xs n x → take (n + 1) xs ≡ take n xs ++ x ∷ []
take_next [] n x short same = absurd (omega arith)
take_next (y ∷ ys) zero x short same = ap (λ (z : ListedFile). z ∷ []) (sym same)
take_next (y ∷ ys) (suc n) x short same =
    let later : suc n + 1 ≡ suc (n + 1) = omega arith in
    ap (λ (k : ℕ). take k (y ∷ ys)) later ∙ ap (λ (zs : List ListedFile). y ∷ zs) (take_next ys n x (omega arith) same)

-- what was read for the files so far, and for one more
pub next_reads : (v w u : View) (p : Partitioner) (types : List ColumnType) (files : List ListedFile) (contents : List Content) (at : ℕ) (file : ListedFile) (olds news : List Source) → Changes Same v w → at < length files → file ≡ get_or files at file → AreContents v.files p types files contents → OpensReading v.files p (table_reads v.files (take at files)) [] olds v.reads w.reads
    → ((q : Partitioner) (content : Content) → HasContent w.files q types file content → AllByRecursion (IsPaged w.files q) olds → OpensReading w.files q (3 + 2 * pages_in w.files (data_name file.number)) olds news w.reads u.reads)
    → OpensReading v.files p (table_reads v.files (take (at + 1) files)) [] news v.reads u.reads
next_reads v w u p types files contents at file olds news change inside is have so_far next =
    let same = reads_same v w change in
    let one = content_at v.files p types files contents at file have (got files at file inside is) in
    let more = subst (λ (o : Option Folder). HasContent o p types file one.0 → AllByRecursion (IsPaged o p) olds → OpensReading o p (3 + 2 * pages_in o (data_name file.number)) olds news w.reads u.reads) same (next p one.0) one.1 so_far.paged in
    let sum = ap (table_reads v.files) (take_next files at file inside is) ∙ reads_push v.files (take at files) file in
    record { paged = more.paged; reads = omega (arith, so_far.reads, more.reads, sum) }

-- fewer files take fewer reads
fewer_reads : (seen : Option Folder) (files : List ListedFile) (n : ℕ) → table_reads seen (take n files) ≤ table_reads seen files
fewer_reads seen files zero = omega arith
fewer_reads seen [] (suc n) = omega arith
fewer_reads seen (f ∷ files) (suc n) = omega (arith, fewer_reads seen files n)

-- the next file couldn't be opened
pub next_stops : (v w u : View) (p : Partitioner) (types : List ColumnType) (files : List ListedFile) (contents : List Content) (at : ℕ) (file : ListedFile) (olds : List Source) → Changes Same v w → at < length files → file ≡ get_or files at file → AreContents v.files p types files contents → OpensReading v.files p (table_reads v.files (take at files)) [] olds v.reads w.reads
    → ((q : Partitioner) (content : Content) → HasContent w.files q types file content → AllByRecursion (IsPaged w.files q) olds → u.reads ≤ w.reads + (3 + 2 * pages_in w.files (data_name file.number)))
    → u.reads ≤ v.reads + table_reads v.files files
next_stops v w u p types files contents at file olds change inside is have so_far next =
    let one = content_at v.files p types files contents at file have (got files at file inside is) in
    let more = subst (λ (o : Option Folder). HasContent o p types file one.0 → AllByRecursion (IsPaged o p) olds → u.reads ≤ w.reads + (3 + 2 * pages_in o (data_name file.number))) (reads_same v w change) (next p one.0) one.1 so_far.paged in
    let sum = ap (table_reads v.files) (take_next files at file inside is) ∙ reads_push v.files (take at files) file in
    omega (arith, so_far.reads, more, sum, fewer_reads v.files files (at + 1))

pub opening_begins : (v : View) (p : Partitioner) (sources : List Source) → sources ≡ [] → OpensReading v.files p 0 [] sources v.reads v.reads
opening_begins v p sources none = subst (λ (ss : List Source). OpensReading v.files p 0 [] ss v.reads v.reads) (sym none) (record { paged = tt; reads = omega arith })

pub opening_ends : (v w : View) (p : Partitioner) (files : List ListedFile) (at : ℕ) (sources : List Source) → length files ≤ at → OpensReading v.files p (table_reads v.files (take at files)) [] sources v.reads w.reads → OpensReading v.files p (table_reads v.files files) [] sources v.reads w.reads
opening_ends v w p files at sources most reads = subst (λ (fs : List ListedFile). OpensReading v.files p (table_reads v.files fs) [] sources v.reads w.reads) (whole files at most) reads
  where
    whole : (xs : List ListedFile) (n : ℕ) → length xs ≤ n → take n xs ≡ xs
    whole [] zero most = refl
    whole [] (suc n) most = refl
    whole (x ∷ xs) zero most = absurd (omega (arith, most))
    whole (x ∷ xs) (suc n) most = ap (λ (ys : List ListedFile). x ∷ ys) (whole xs n (omega (arith, most)))

-- ---- the whole

maps_paged : (seen : Option Folder) (p : Partitioner) (sources : List Source) (n : ℕ) (ms : List MemtableView) → AllByRecursion (IsPaged seen p) sources → AllByRecursion (IsPaged seen p) (sources ++ map_sources n ms)
maps_paged seen p [] n [] all = tt
maps_paged seen p [] n (m ∷ ms) all = (tt, maps_paged seen p [] (suc n) ms tt)
maps_paged seen p (s ∷ sources) n ms all = (all.0, maps_paged seen p sources n ms all.1)

maps_pages : (seen : Option Folder) (sources : List Source) (n : ℕ) (ms : List MemtableView) → all_pages_left seen (sources ++ map_sources n ms) ≡ all_pages_left seen sources
maps_pages seen [] n [] = refl
maps_pages seen [] n (m ∷ ms) = omega (arith, maps_pages seen [] (suc n) ms)
maps_pages seen (s ∷ sources) n ms = omega (arith, maps_pages seen sources n ms)

-- what opened files and maps have left to read
pub opened_may : (seen : Option Folder) (p : Partitioner) (files : List ListedFile) (ms : List MemtableView) (heads : List Head) (sources all : List Source) (before now : ℕ) → all ≡ sources ++ map_sources 0 ms → OpensReading seen p (table_reads seen files) [] sources before now
    → HasReadsLeft seen p (scan_of heads all) (before + table_reads seen files) now
opened_may seen p files ms heads sources all before now all_are opened = record {
  left = all_pages_left seen all;
  may = record { paged = subst (AllByRecursion (IsPaged seen p)) (sym all_are) (maps_paged seen p sources 0 ms opened.paged); within = omega arith };
  reads = omega (arith, opened.reads, ap (all_pages_left seen) all_are ∙ maps_pages seen sources 0 ms);
}

-- a scan that goes on, and one that reads nothing
pub moves_may : (seen : Option Folder) (p : Partitioner) (heads nexts : List Head) (old new : List Source) (most before now : ℕ) → MovesReading seen p old new before now → MayRead seen p (scan_of heads old) most → HasReadsLeft seen p (scan_of nexts new) (before + most) now
moves_may seen p heads nexts old new most before now moves may =
    let all = moves may.paged in
    record { left = all_pages_left seen new; may = record { paged = all.paged; within = omega arith }; reads = omega (arith, all.reads, may.within) }

pub stays_may : (seen : Option Folder) (p : Partitioner) (scan : ScanView) (most count : ℕ) → MayRead seen p scan most → HasReadsLeft seen p scan (count + most) count
stays_may seen p scan most count may = record { left = most; may = may; reads = omega arith }
