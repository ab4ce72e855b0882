-- Opened sources: they can go on, their files are listed, and they have what their files and maps have.
use Rattle.std.proofs.Common.{◌≡◌, ◌+◌, ◌<◌, ◌≤◌, ◌&&◌, ℕ, suc, zero, Bool, true, false, T, List, [], ◌∷◌, ◌++◌, drop, length, map, take, get_or, slice_get, Option, None, Some, IsSome, refl, sym, ap, subst, ◌∙◌, arith, append_assoc}
use Rattle.std.proofs.lemmas.List.{append-nil}
use Rattle.std.specs.List.{AllByRecursion, Contains}
use Rattle.std.specs.FinMap as map_
use Rattle.std.specs.FinMap.Entries.{below_all}
use Rattle.std.specs.List.Sorted.{IsStrictlySortedBy}
use Rattle.std.specs.Ordering.{is_lt}
use Rattle.std.specs.declared.cmp.Ordering.TheVariants.{Less}
use Rattle.sasi_types.specs.declared.column.ColumnType.{ColumnType}
use Rattle.sasi_types.specs.declared.decorated_key.DecoratedKey.{DecoratedKey}
use Rattle.sasi_types.specs.declared.partitioner.Partitioner.{Partitioner}
use Rattle.sasi_types.specs.DecoratedKey.{decorated_cmp}
use Rattle.sasi_model.specs.State.{decorated}
use Rattle.sasi_host.specs.declared.fault.ReadFault.{ReadFault}
use Rattle.sasi_host.specs.declared.fault.ReadFault.TheVariants as fault
use Rattle.sasi_host.specs.Damages.{OnDamage}
use Rattle.sasi_host.specs.Names.{Bytes, Folder, data_name}
use Rattle.sasi_host.specs.Disk.{Changes, Same}
use Rattle.sasi_host.specs.View.{IsThere, View, contents_in}
use Rattle.sasi_dataread.specs.Tokens.{AgreesWith}
use Rattle.sasi_datawrite.specs.Format.{Content, decorated_key}
use Rattle.sasi_dataread.specs.Damages.{ShowsDataFile}
use Rattle.sasi_dataread.specs.Opened.{OpenDataFile}
use Rattle.sasi_dataread.specs.Scans.{DataScan}
use Rattle.sasi_manifest.specs.declared.files.ListedFile.{ListedFile}
use Rattle.sasi_memtable.specs.MemtableView.{MemtableView}
use Rattle.sasi_merge.specs.Merging.{Head}
use Rattle.sasi_merge.specs.Streams.{Entries, IsRising, head_of}
use Rattle.sasi_scan.specs.declared.source.Source.{Source}
use Rattle.sasi_scan.specs.declared.source.Source.TheVariants.{File, Map}
use Rattle.sasi_scan.specs.Parts.{AreContents, HasContent, ShowsListed, entries_of, merged_parts, part_entries}
use Rattle.sasi_scan.specs.Sources.{CanStep, IsHeadOf, IsListedFile, IsListedSource, IsSourceOf, StepsInFile}
use Rattle.sasi_scan.specs.Left.{AreLeft, IsLeft}
use Rattle.sasi_scan.specs.Opening.{AreOpened, IsAdded, IsOpened, IsOpenedFile, map_heads, map_sources}
use Rattle.sasi_scan.specs.Scanning.{CanScan, IsScanOf, IsScanning, scan_of}
use Rattle.sasi_scan.proofs.Costs.{damage_as, reads_same}
use Rattle.sasi_scan.proofs.Moves.{all_at, got}
use Rattle.sasi_scan.proofs.KeyOrder.{both_given, maps_given, opened_given}
use Rattle.sasi_scan.proofs.Steps.{file_left, file_of, map_head}

-- ---- one file more

opened_push : (seen : Option Folder) (types : List ColumnType) (tokens : Option Partitioner) (files : List ListedFile) (file : ListedFile) (heads : List Head) (sources : List Source) (head : Head) (source : Source) → AreOpened seen types tokens files heads sources → IsOpened seen types tokens file head source → AreOpened seen types tokens (files ++ file ∷ []) (heads ++ head ∷ []) (sources ++ source ∷ [])
opened_push seen types tokens [] file heads sources head source are is =
    subst (λ (hs : List Head). AreOpened seen types tokens (file ∷ []) (hs ++ head ∷ []) (sources ++ source ∷ [])) (sym are.0)
    (subst (λ (ss : List Source). AreOpened seen types tokens (file ∷ []) (head ∷ []) (ss ++ source ∷ [])) (sym are.1) (is, (refl, refl)))
opened_push seen types tokens (f ∷ files) file (h ∷ heads) (s ∷ sources) head source are is = (are.0, opened_push seen types tokens files file heads sources head source are.1 is)
opened_push seen types tokens (f ∷ files) file [] sources head source are is = absurd are
opened_push seen types tokens (f ∷ files) file (h ∷ heads) [] head source are is = absurd are

opened_more : (seen : Option Folder) (types : List ColumnType) (tokens : Option Partitioner) (files : List ListedFile) (file : ListedFile) (heads : List Head) (sources : List Source) (heads_new : List Head) (sources_new : List Source) → AreOpened seen types tokens files heads sources → IsAdded (IsOpened seen types tokens file) heads sources heads_new sources_new → AreOpened seen types tokens (files ++ file ∷ []) heads_new sources_new
opened_more seen types tokens files file heads sources heads_new sources_new are added =
    subst (λ (hs : List Head). AreOpened seen types tokens (files ++ file ∷ []) hs sources_new) (sym added.heads_are)
    (subst (λ (ss : List Source). AreOpened seen types tokens (files ++ file ∷ []) (heads ++ added.head ∷ []) ss) (sym added.sources_are)
    (opened_push seen types tokens files file heads sources added.head added.source are added.is))

-- ---- opened files

opened_can : (seen : Option Folder) (ms : List MemtableView) (types : List ColumnType) (tokens : Option Partitioner) (files : List ListedFile) (heads : List Head) (sources : List Source) → AreOpened seen types tokens files heads sources → CanScan seen ms (scan_of heads sources)
opened_can seen ms types tokens [] heads sources are =
    subst (λ (hs : List Head). CanScan seen ms (scan_of hs sources)) (sym are.0) (subst (λ (ss : List Source). CanScan seen ms (scan_of [] ss)) (sym are.1) (record { can = tt; counted = refl; given = tt }))
opened_can seen ms types tokens (f ∷ files) (h ∷ heads) (s ∷ sources) are =
    let rest = opened_can seen ms types tokens files heads sources are.1 in
    record { can = (subst (CanStep seen ms) (sym are.0.source_is) are.0.steps.can, rest.can); counted = ap (λ n. suc n) rest.counted; given = opened_given seen types tokens (f ∷ files) (h ∷ heads) (s ∷ sources) are }
opened_can seen ms types tokens (f ∷ files) [] sources are = absurd are
opened_can seen ms types tokens (f ∷ files) (h ∷ heads) [] are = absurd are

-- in any file, what they have left is of the parts
record AllOf (types : List ColumnType) (maps : List MemtableView) (heads : List Head) (sources : List Source) : Type 0 where
  pub sources_of : AllByRecursion (IsSourceOf types) sources
  pub heads_of : AllByRecursion (IsHeadOf types maps) heads

opened_of : (seen : Option Folder) (types : List ColumnType) (tokens : Option Partitioner) (maps : List MemtableView) (files : List ListedFile) (heads : List Head) (sources : List Source) → AreOpened seen types tokens files heads sources → AllOf types maps heads sources
opened_of seen types tokens maps [] heads sources are =
    subst (λ (hs : List Head). AllOf types maps hs sources) (sym are.0) (subst (λ (ss : List Source). AllOf types maps [] ss) (sym are.1) (record { sources_of = tt; heads_of = tt }))
opened_of seen types tokens maps (f ∷ files) (h ∷ heads) (s ∷ sources) are =
    let rest = opened_of seen types tokens maps files heads sources are.1 in
    let one = are.0 in
    record {
      sources_of = (subst (IsSourceOf types) (sym one.source_is) (ap (λ (o : OpenDataFile). o.types) one.steps.opened ∙ one.is.types_are), rest.sources_of);
      heads_of = (file_of seen types maps one.scan h one.next one.steps one.is.types_are, rest.heads_of);
    }
opened_of seen types tokens maps (f ∷ files) [] sources are = absurd are
opened_of seen types tokens maps (f ∷ files) (h ∷ heads) [] are = absurd are

opened_listed : (seen : Option Folder) (types : List ColumnType) (tokens : Option Partitioner) (all files : List ListedFile) (heads : List Head) (sources : List Source) → AllByRecursion (λ f. Contains all f) files → AreOpened seen types tokens files heads sources → AllByRecursion (IsListedSource seen all types) sources
opened_listed seen types tokens all [] heads sources among are = subst (AllByRecursion (IsListedSource seen all types)) (sym are.1) tt
opened_listed seen types tokens all (f ∷ files) (h ∷ heads) (s ∷ sources) among are =
    let one = are.0 in (
      subst (IsListedSource seen all types) (sym one.source_is)
          (subst (λ (o : OpenDataFile). IsListedFile seen all types o) (sym one.steps.opened) (record { file = f; listed = among.0; named = one.is.named; types_are = one.is.types_are; footer = one.is.footer })),
      opened_listed seen types tokens all files heads sources among.1 are.1,
    )
opened_listed seen types tokens all (f ∷ files) [] sources among are = absurd are
opened_listed seen types tokens all (f ∷ files) (h ∷ heads) [] among are = absurd are

opened_left : (seen : Option Folder) (ms : List MemtableView) (types : List ColumnType) (tokens : Option Partitioner) (p : Partitioner) (files : List ListedFile) (contents : List Content) (heads : List Head) (sources : List Source) → AgreesWith tokens p → AreContents seen p types files contents → AreOpened seen types tokens files heads sources → AreLeft seen p ms heads sources (map (entries_of p) contents)
opened_left seen ms types tokens p [] [] heads sources agrees have are =
    subst (λ (hs : List Head). AreLeft seen p ms hs sources []) (sym are.0) (are.1, refl)
opened_left seen ms types tokens p (f ∷ files) (content ∷ contents) (h ∷ heads) (s ∷ sources) agrees have are =
    let one = are.0 in
    let open_in = one.is.opened p content have.0 in
    let gives = file_left seen p one.scan one.next (entries_of p content) h (record { content = content; is = open_in; agrees = subst (λ (t : Option Partitioner). AgreesWith t p) (sym one.is.tokens_are) agrees; left_is = sym (ap (λ n. entries_of p (drop n content)) one.is.begins) }) one.steps in
    (subst (λ (x : Source). IsLeft seen p ms h x (entries_of p content)) (sym one.source_is) gives, opened_left seen ms types tokens p files contents heads sources agrees have.1 are.1)
opened_left seen ms types tokens p (f ∷ files) (content ∷ contents) [] sources agrees have are = absurd are
opened_left seen ms types tokens p (f ∷ files) (content ∷ contents) (h ∷ heads) [] agrees have are = absurd are
opened_left seen ms types tokens p [] (content ∷ contents) heads sources agrees have are = absurd have
opened_left seen ms types tokens p (f ∷ files) [] heads sources agrees have are = absurd have

-- each file is one of all
contains_first : {X : Type 0} (x : X) (xs : List X) → Contains (x ∷ xs) x
contains_first x xs = (zero, omega arith, refl)

contains_behind : {X : Type 0} (y : X) (xs : List X) (x : X) → Contains xs x → Contains (y ∷ xs) x
contains_behind y xs x there = (suc there.0, omega (arith, there.1), there.2)

pub each_among : {X : Type 0} (xs : List X) → AllByRecursion (λ x. Contains xs x) xs
each_among [] = tt
each_among (x ∷ xs) = (contains_first x xs, further xs (each_among xs))
  where
    further : (ys : _) → AllByRecursion (λ y. Contains xs y) ys → AllByRecursion (λ y. Contains (x ∷ xs) y) ys
    further [] all = tt
    further (y ∷ ys) all = (contains_behind x xs y all.0, further ys all.1)

-- ---- maps

abbrev map_entries : List MemtableView → List Entries
map_entries = map (λ (m : MemtableView). map_.entries m.partitions)

-- what stands behind the first so many stands at that position
first_there : {X : Type 0} (xs : List X) (n : ℕ) (x : X) (rest : List X) → drop n xs ≡ x ∷ rest → (slice_get xs n ≡ Some x) × (drop (suc n) xs ≡ rest)
first_there [] zero x rest is = absurd (let no : [] ≡ x ∷ rest = is in cc)
first_there [] (suc n) x rest is = absurd (let no : [] ≡ x ∷ rest = is in cc)
first_there (y ∷ xs) zero x rest is = let same : y ≡ x = cc in let others : xs ≡ rest = cc in (ap Some same, others)
first_there (y ∷ xs) (suc n) x rest is = first_there xs n x rest is

there_inside : {X : Type 0} (xs : List X) (n : ℕ) (x : X) → slice_get xs n ≡ Some x → n < length xs
there_inside [] n x is = absurd (let no : None ≡ Some x = is in cc)
there_inside (y ∷ xs) zero x is = omega arith
there_inside (y ∷ xs) (suc n) x is = omega (arith, there_inside xs n x is)

maps_can : (seen : Option Folder) (all : List MemtableView) (n : ℕ) (ms : List MemtableView) → drop n all ≡ ms → CanScan seen all (scan_of (map_heads ms) (map_sources n ms))
maps_can seen all n [] is = record { can = tt; counted = refl; given = tt }
maps_can seen all n (m ∷ ms) is =
    let here = first_there all n m ms is in
    let rest = maps_can seen all (suc n) ms here.1 in
    record { can = (there_inside all n m here.0, rest.can); counted = ap (λ k. suc k) rest.counted; given = maps_given n (m ∷ ms) }

maps_of_parts : (types : List ColumnType) (all : List MemtableView) (n : ℕ) (ms : List MemtableView) → AllByRecursion (λ m. Contains all m) ms → AllOf types all (map_heads ms) (map_sources n ms)
maps_of_parts types all n [] among = record { sources_of = tt; heads_of = tt }
maps_of_parts types all n (m ∷ ms) among =
    let rest = maps_of_parts types all (suc n) ms among.1 in
    record { sources_of = (tt, rest.sources_of); heads_of = (map_head types all m among.0, rest.heads_of) }

maps_listed : (seen : Option Folder) (files : List ListedFile) (types : List ColumnType) (n : ℕ) (ms : List MemtableView) → AllByRecursion (IsListedSource seen files types) (map_sources n ms)
maps_listed seen files types n [] = tt
maps_listed seen files types n (m ∷ ms) = (tt, maps_listed seen files types (suc n) ms)

maps_left : (seen : Option Folder) (p : Partitioner) (all : List MemtableView) (n : ℕ) (ms : List MemtableView) → drop n all ≡ ms → AreLeft seen p all (map_heads ms) (map_sources n ms) (map_entries ms)
maps_left seen p all n [] is = (refl, refl)
maps_left seen p all n (m ∷ ms) is =
    let here = first_there all n m ms is in
    (record { m = m; there = here.0; before = []; is = refl; head_is = refl }, maps_left seen p all (suc n) ms here.1)

-- ---- both

all_both : {X : Type 0} (P : X → Type 0) (xs ys : List X) → AllByRecursion P xs → AllByRecursion P ys → AllByRecursion P (xs ++ ys)
all_both P [] ys first second = second
all_both P (x ∷ xs) ys first second = (first.0, all_both P xs ys first.1 second)

length_both : {X Y : Type 0} (xs ys : List X) (us vs : List Y) → length xs ≡ length us → length ys ≡ length vs → length (xs ++ ys) ≡ length (us ++ vs)
length_both [] ys [] vs first second = second
length_both [] ys (u ∷ us) vs first second = absurd (omega (arith, first))
length_both (x ∷ xs) ys [] vs first second = absurd (omega (arith, first))
length_both (x ∷ xs) ys (u ∷ us) vs first second = ap (λ n. suc n) (length_both xs ys us vs (omega (arith, first)) second)

can_both : (seen : Option Folder) (ms : List MemtableView) (heads : List Head) (sources : List Source) (heads_more : List Head) (sources_more : List Source) → CanScan seen ms (scan_of heads sources) → CanScan seen ms (scan_of heads_more sources_more) → CanScan seen ms (scan_of (heads ++ heads_more) (sources ++ sources_more))
can_both seen ms heads sources heads_more sources_more first second = record {
  can = all_both (CanStep seen ms) sources sources_more first.can second.can;
  counted = length_both heads heads_more sources sources_more first.counted second.counted;
  given = both_given heads sources heads_more sources_more first.given second.given;
}

left_both : (seen : Option Folder) (p : Partitioner) (ms : List MemtableView) (heads : List Head) (sources : List Source) (lefts : List Entries) (heads_more : List Head) (sources_more : List Source) (lefts_more : List Entries) → AreLeft seen p ms heads sources lefts → AreLeft seen p ms heads_more sources_more lefts_more → AreLeft seen p ms (heads ++ heads_more) (sources ++ sources_more) (lefts ++ lefts_more)
left_both seen p ms [] sources lefts heads_more sources_more lefts_more first second =
    subst (λ (ss : List Source). AreLeft seen p ms heads_more (ss ++ sources_more) (lefts ++ lefts_more)) (sym first.0)
    (subst (λ (ls : List Entries). AreLeft seen p ms heads_more sources_more (ls ++ lefts_more)) (sym first.1) second)
left_both seen p ms (h ∷ heads) (s ∷ sources) (left ∷ lefts) heads_more sources_more lefts_more first second = (first.0, left_both seen p ms heads sources lefts heads_more sources_more lefts_more first.1 second)
left_both seen p ms (h ∷ heads) [] lefts heads_more sources_more lefts_more first second = absurd first
left_both seen p ms (h ∷ heads) (s ∷ sources) [] heads_more sources_more lefts_more first second = absurd first

-- ---- they rise

less_true : (k q : DecoratedKey) → decorated_cmp k q ≡ Less → T (is_lt (decorated_cmp k q))
less_true k q less = subst (λ r. T (is_lt r)) (sym less) tt

pair_true : (a b : Bool) → T a → T b → T (a && b)
pair_true true b first second = second
pair_true false b first second = first

content_below : (p : Partitioner) (k : DecoratedKey) (content : Content) → AllByRecursion (λ q. decorated_cmp k q ≡ Less) (map (decorated_key p) content) → T (below_all decorated_cmp k (entries_of p content))
content_below p k [] below = tt
content_below p k (one ∷ content) below = pair_true _ _ (less_true k (decorated p one.0) below.0) (content_below p k content below.1)

pub content_rises : (p : Partitioner) (content : Content) → IsStrictlySortedBy decorated_cmp (map (decorated_key p) content) → IsRising (entries_of p content)
unfolding IsStrictlySortedBy
content_rises p [] rising = tt
content_rises p (one ∷ content) rising = pair_true _ _ (content_below p (decorated p one.0) content rising.0) (content_rises p content rising.1)

contents_rise : (seen : Option Folder) (p : Partitioner) (types : List ColumnType) (files : List ListedFile) (contents : List Content) → AreContents seen p types files contents → AllByRecursion IsRising (map (entries_of p) contents)
contents_rise seen p types [] [] have = tt
contents_rise seen p types (f ∷ files) (content ∷ contents) have = (content_rises p content have.0.data_file.content_is.rising, contents_rise seen p types files contents have.1)
contents_rise seen p types [] (content ∷ contents) have = absurd have
contents_rise seen p types (f ∷ files) [] have = absurd have

maps_rise : (maps : List MemtableView) → AllByRecursion IsRising (map_entries maps)
maps_rise [] = tt
maps_rise (m ∷ maps) = (map_.entries_sorted m.partitions, maps_rise maps)

-- ---- the sources of a scan, once all are opened

module _ (seen : Option Folder) (types : List ColumnType) (tokens : Option Partitioner) (files : List ListedFile) (ms : List MemtableView) (heads : List Head) (sources : List Source) (heads_all : List Head) (sources_all : List Source) (opened : AreOpened seen types tokens files heads sources) (heads_are : heads_all ≡ heads ++ map_heads ms) (sources_are : sources_all ≡ sources ++ map_sources 0 ms) where
  -- what is true of both is true of all
  both_are : (P : List Head → List Source → Type 0) → P (heads ++ map_heads ms) (sources ++ map_sources 0 ms) → P heads_all sources_all
  both_are P is = subst (λ (hs : List Head). P hs sources_all) (sym heads_are) (subst (λ (ss : List Source). P (heads ++ map_heads ms) ss) (sym sources_are) is)

  pub scan_can : CanScan seen ms (scan_of heads_all sources_all)
  scan_can = both_are (λ hs ss. CanScan seen ms (scan_of hs ss)) (can_both seen ms heads sources (map_heads ms) (map_sources 0 ms) (opened_can seen ms types tokens files heads sources opened) (maps_can seen ms 0 ms refl))

  pub scan_is_of : IsScanOf seen files types ms (scan_of heads_all sources_all)
  scan_is_of =
      let first = opened_of seen types tokens ms files heads sources opened in
      let second = maps_of_parts types ms 0 ms (each_among ms) in
      both_are (λ hs ss. IsScanOf seen files types ms (scan_of hs ss)) (record {
        listed = all_both (IsListedSource seen files types) sources (map_sources 0 ms) (opened_listed seen types tokens files files heads sources (each_among files) opened) (maps_listed seen files types 0 ms);
        sources_of = all_both (IsSourceOf types) sources (map_sources 0 ms) first.sources_of second.sources_of;
        heads_of = all_both (IsHeadOf types ms) heads (map_heads ms) first.heads_of second.heads_of;
      })

  -- the whole merge is left
  pub scan_begins : (p : Partitioner) (contents : List Content) → AgreesWith tokens p → AreContents seen p types files contents → IsScanning seen p ms (scan_of heads_all sources_all) (map_.entries (merged_parts p contents ms))
  scan_begins p contents agrees have = record {
    each = part_entries p contents ms;
    each_is = both_are (λ hs ss. AreLeft seen p ms hs ss (part_entries p contents ms)) (
        left_both seen p ms heads sources (map (entries_of p) contents) (map_heads ms) (map_sources 0 ms) (map_entries ms) (opened_left seen ms types tokens p files contents heads sources agrees have opened) (maps_left seen p ms 0 ms refl));
    rising = all_both IsRising (map (entries_of p) contents) (map_entries ms) (contents_rise seen p types files contents have) (maps_rise ms);
    is = refl;
  }

-- ---- damage

-- what one of the listed files shows
file_shown : (seen : Option Folder) (files : List ListedFile) (types : List ColumnType) (file : ListedFile) (f : ReadFault) → Contains files file → OnDamage (λ damage. (bytes : Bytes) → contents_in seen (data_name file.number) ≡ Some bytes → ShowsDataFile types (data_name file.number) bytes damage) f → OnDamage (ShowsListed seen files types) f
file_shown seen files types file fault.Failed among shown = tt
file_shown seen files types file fault.OutOfMemory among shown = tt
file_shown seen files types file (fault.Damaged damage) among shown = record { file = file; listed = among; shown = shown }

-- a listed file at a position has a content
pub content_at : (seen : Option Folder) (p : Partitioner) (types : List ColumnType) (files : List ListedFile) (contents : List Content) (at : ℕ) (file : ListedFile) → AreContents seen p types files contents → slice_get files at ≡ Some file → (content : Content) × HasContent seen p types file content
content_at seen p types [] contents at file have is = absurd (let no : None ≡ Some file = is in cc)
content_at seen p types (f ∷ files) (content ∷ contents) zero file have is = (content, (let same : f ≡ file = cc in subst (λ (x : ListedFile). HasContent seen p types x content) same have.0))
content_at seen p types (f ∷ files) (content ∷ contents) (suc at) file have is = content_at seen p types files contents at file have.1 is
content_at seen p types (f ∷ files) [] at file have is = absurd have

-- ---- an opened file with its first step, and reads between

pub added_file : (v w : View) (types : List ColumnType) (tokens : Option Partitioner) (file : ListedFile) (scan : DataScan) (head : Head) (next : DataScan) (heads : List Head) (sources : List Source) (heads_new : List Head) (sources_new : List Source) → Changes Same v w → IsOpenedFile v.files types tokens file scan → StepsInFile w.files scan head next → heads_new ≡ heads ++ head ∷ [] → sources_new ≡ sources ++ File next ∷ [] → IsAdded (IsOpened v.files types tokens file) heads sources heads_new sources_new
added_file v w types tokens file scan head next heads sources heads_new sources_new change is steps heads_are sources_are = record {
  head = head;
  source = File next;
  is = record { scan = scan; next = next; is = is; steps = subst (λ (o : Option Folder). StepsInFile o scan head next) (reads_same v w change) steps; source_is = refl };
  heads_are = heads_are;
  sources_are = sources_are;
}

-- the next file was added, behind reads
pub added_next : (v w : View) (types : List ColumnType) (tokens : Option Partitioner) (files : List ListedFile) (at : ℕ) (file : ListedFile) (heads : List Head) (sources : List Source) (heads_new : List Head) (sources_new : List Source) → Changes Same v w → at < length files → file ≡ get_or files at file → AreOpened v.files types tokens (take at files) heads sources → IsAdded (IsOpened w.files types tokens file) heads sources heads_new sources_new → AreOpened v.files types tokens (take (at + 1) files) heads_new sources_new
added_next v w types tokens files at file heads sources heads_new sources_new change inside is are added =
    subst (λ (fs : List ListedFile). AreOpened v.files types tokens fs heads_new sources_new) (sym (take_next files at file inside is))
    (opened_more v.files types tokens (take at files) file heads sources heads_new sources_new are
    (subst (λ (o : Option Folder). IsAdded (IsOpened o types tokens file) heads sources heads_new sources_new) (reads_same v w change) added))
  where
    take_next : (xs : List ListedFile) (n : ℕ) (x : ListedFile) → n < length xs → x ≡ get_or xs n x → take (n + 1) xs ≡ take n xs ++ x ∷ []
    take_next [] n x short same = absurd (omega arith)
    take_next (y ∷ ys) zero x short same = ap (λ (z : ListedFile). z ∷ []) (sym same)
    take_next (y ∷ ys) (suc n) x short same =
        let later : suc n + 1 ≡ suc (n + 1) = omega arith in
        ap (λ (k : ℕ). take k (y ∷ ys)) later ∙ ap (λ (zs : List ListedFile). y ∷ zs) (take_next ys n x (omega arith) same)

-- ---- damage of the next file, behind reads

pub next_shown : (v w : View) (types : List ColumnType) (files : List ListedFile) (at : ℕ) (file : ListedFile) (f : ReadFault) → Changes Same v w → at < length files → file ≡ get_or files at file → OnDamage (λ damage. (bytes : Bytes) → contents_in w.files (data_name file.number) ≡ Some bytes → ShowsDataFile types (data_name file.number) bytes damage) f → OnDamage (ShowsListed v.files files types) f
next_shown v w types files at file f change inside is shown =
    file_shown v.files files types file f (at, inside, sym is)
    (subst (λ (o : Option Folder). OnDamage (λ damage. (bytes : Bytes) → contents_in o (data_name file.number) ≡ Some bytes → ShowsDataFile types (data_name file.number) bytes damage) f) (reads_same v w change) shown)

pub no_false_next : (v w : View) (types : List ColumnType) (tokens : Option Partitioner) (files : List ListedFile) (at : ℕ) (file : ListedFile) (f : ReadFault) → Changes Same v w → at < length files → file ≡ get_or files at file → OnDamage (λ _. (p : Partitioner) (content : Content) → AgreesWith tokens p → HasContent w.files p types file content → ⊥) f → OnDamage (λ _. (p : Partitioner) (contents : List Content) → AgreesWith tokens p → AreContents v.files p types files contents → ⊥) f
no_false_next v w types tokens files at file f change inside is no_false =
    damage_as (λ _. (p : Partitioner) (content : Content) → AgreesWith tokens p → HasContent w.files p types file content → ⊥) (λ _. (p : Partitioner) (contents : List Content) → AgreesWith tokens p → AreContents v.files p types files contents → ⊥) f
    (λ damage none p contents agrees have.
    let one = content_at v.files p types files contents at file have (got files at file inside is) in
    none p one.0 agrees (subst (λ (o : Option Folder). HasContent o p types file one.0) (sym (reads_same v w change)) one.1))
    no_false

-- the same of a file in which one key is looked up, by the tokens of its key tree
pub no_false_find : (v w : View) (types : List ColumnType) (files : List ListedFile) (at : ℕ) (file : ListedFile) (f : ReadFault) → Changes Same v w → at < length files → file ≡ get_or files at file → OnDamage (λ _. (p : Partitioner) (content : Content) → HasContent w.files p types file content → ⊥) f → OnDamage (λ _. (p : Partitioner) (contents : List Content) → AreContents v.files p types files contents → ⊥) f
no_false_find v w types files at file f change inside is no_false =
    damage_as (λ _. (p : Partitioner) (contents : List Content) → AgreesWith None p → AreContents v.files p types files contents → ⊥) (λ _. (p : Partitioner) (contents : List Content) → AreContents v.files p types files contents → ⊥) f
    (λ damage none p contents have. none p contents tt have)
    (no_false_next v w types None files at file f change inside is
    (damage_as (λ _. (p : Partitioner) (content : Content) → HasContent w.files p types file content → ⊥) (λ _. (p : Partitioner) (content : Content) → AgreesWith None p → HasContent w.files p types file content → ⊥) f
    (λ damage none p content agrees have. none p content have) no_false))

-- the listed file is there, behind reads
pub still_there : (v w : View) (files : List ListedFile) (at : ℕ) (file : ListedFile) → Changes Same v w → at < length files → file ≡ get_or files at file → AllByRecursion (λ (f : ListedFile). IsThere v (data_name f.number)) files → IsThere w (data_name file.number)
still_there v w files at file change inside is there =
    subst (λ (o : Option Folder). IsSome o → IsSome (contents_in o (data_name file.number))) (sym (reads_same v w change))
    (all_at (λ (f : ListedFile). IsThere v (data_name f.number)) files at file there (got files at file inside is))

-- all files were opened
pub opened_all : (seen : Option Folder) (types : List ColumnType) (tokens : Option Partitioner) (files : List ListedFile) (at : ℕ) (heads : List Head) (sources : List Source) → length files ≤ at → AreOpened seen types tokens (take at files) heads sources → AreOpened seen types tokens files heads sources
opened_all seen types tokens files at heads sources most are = subst (λ (fs : List ListedFile). AreOpened seen types tokens fs heads sources) (whole files at most) are
  where
    whole : (xs : List ListedFile) (n : ℕ) → length xs ≤ n → take n xs ≡ xs
    whole [] zero most = refl
    whole [] (suc n) most = refl
    whole (x ∷ xs) zero most = absurd (omega (arith, most))
    whole (x ∷ xs) (suc n) most = ap (λ ys. x ∷ ys) (whole xs n (omega (arith, most)))

-- ---- maps, one after another

module _ (ms : List MemtableView) (at : ℕ) (inside : at < length ms) where
  -- the map at a position
  at_position : (m : MemtableView) × (drop at ms ≡ m ∷ drop (at + 1) ms) × (slice_get ms at ≡ Some m)
  at_position = by ms at inside
    where
      by : (xs : List MemtableView) (n : ℕ) → n < length xs → (m : MemtableView) × (drop n xs ≡ m ∷ drop (n + 1) xs) × (slice_get xs n ≡ Some m)
      by [] n short = absurd (omega (arith, short))
      by (x ∷ xs) zero short = (x, refl, refl)
      by (x ∷ xs) (suc n) short =
          let rest = by xs n (omega (arith, short)) in
          let later : suc n + 1 ≡ suc (n + 1) = omega arith in
          (rest.0, rest.1 ∙ ap (λ (k : ℕ). rest.0 ∷ drop k (x ∷ xs)) (sym later), rest.2)

  pub map_next_head : (head : Head) (heads new all : List Head) → ((m : MemtableView) → slice_get ms at ≡ Some m → head ≡ head_of (map_.entries m.partitions)) → new ≡ heads ++ head ∷ [] → heads ++ map_heads (drop at ms) ≡ all → new ++ map_heads (drop (at + 1) ms) ≡ all
  map_next_head head heads new all head_is pushed so_far =
      let here = at_position in
      ap (λ (l : List Head). l ++ map_heads (drop (at + 1) ms)) (pushed ∙ ap (λ (h : Head). heads ++ h ∷ []) (head_is here.0 here.2))
      ∙ append_assoc heads (head_of (map_.entries here.0.partitions) ∷ []) (map_heads (drop (at + 1) ms))
      ∙ ap (λ (l : List MemtableView). heads ++ map_heads l) (sym here.1)
      ∙ so_far

  pub map_next_source : (sources new all : List Source) → new ≡ sources ++ Map at ∷ [] → sources ++ map_sources at (drop at ms) ≡ all → new ++ map_sources (at + 1) (drop (at + 1) ms) ≡ all
  map_next_source sources new all pushed so_far =
      let here = at_position in
      let later : at + 1 ≡ suc at = omega arith in
      ap (λ (l : List Source). l ++ map_sources (at + 1) (drop (at + 1) ms)) pushed
      ∙ append_assoc sources (Map at ∷ []) (map_sources (at + 1) (drop (at + 1) ms))
      ∙ ap (λ (n : ℕ). sources ++ Map at ∷ map_sources n (drop (at + 1) ms)) later
      ∙ ap (λ (l : List MemtableView). sources ++ map_sources at l) (sym here.1)
      ∙ so_far

-- all of them
none_behind : {X : Type 0} (xs : List X) (at : ℕ) → length xs ≤ at → drop at xs ≡ []
none_behind [] zero most = refl
none_behind [] (suc at) most = refl
none_behind (x ∷ xs) zero most = absurd (omega (arith, most))
none_behind (x ∷ xs) (suc at) most = none_behind xs at (omega (arith, most))

pub maps_end_heads : (ms : List MemtableView) (at : ℕ) (heads all : List Head) → length ms ≤ at → heads ++ map_heads (drop at ms) ≡ all → heads ≡ all
maps_end_heads ms at heads all most so_far = sym (append-nil heads) ∙ ap (λ (l : List MemtableView). heads ++ map_heads l) (sym (none_behind ms at most)) ∙ so_far

pub maps_end_sources : (ms : List MemtableView) (at : ℕ) (sources all : List Source) → length ms ≤ at → sources ++ map_sources at (drop at ms) ≡ all → sources ≡ all
maps_end_sources ms at sources all most so_far = sym (append-nil sources) ∙ ap (λ (l : List MemtableView). sources ++ map_sources at l) (sym (none_behind ms at most)) ∙ so_far
