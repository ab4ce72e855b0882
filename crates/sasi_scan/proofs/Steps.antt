-- Steps of a source: what it has left afterwards, and what stays true of it.
use Rattle.std.proofs.Common.{◌≡◌, ◌<◌, ◌&&◌, ℕ, suc, zero, Bool, true, false, cond, if◌then◌else◌, T, List, [], ◌∷◌, ◌++◌, drop, length, slice_get, Option, None, Some, IfErr, IfOk, IfSome, IsSome, OnOk, Result, Ok, Err, refl, sym, ap, subst, ◌∙◌, arith}
use Rattle.std.proofs.lemmas.Cmp.{tied_itself}
use Rattle.std.specs.BTreeMap.Range.{range_contains}
use Rattle.std.specs.FinMap as map_
use Rattle.std.specs.FinMap.Entries.{below_all}
use Rattle.std.specs.List.{Contains}
use Rattle.std.specs.Option.{option_map, option_or}
use Rattle.std.specs.Ordering.{is_lt, ordering_reverse}
use Rattle.std.specs.declared.cmp.Ordering.{Ordering}
use Rattle.std.specs.declared.cmp.Ordering.TheVariants.{Less, Equal, Greater}
use Rattle.std.specs.declared.ops.Bound.TheVariants.{Excluded, Unbounded}
use Rattle.sasi_types.specs.declared.column.ColumnType.{ColumnType}
use Rattle.sasi_types.specs.declared.partitioner.Partitioner.{Partitioner}
use Rattle.sasi_types.specs.declared.decorated_key.DecoratedKey.{DecoratedKey}
use Rattle.sasi_types.specs.DecoratedKey.{decorated_cmp, decorated_total}
use Rattle.sasi_cells.proofs.Laws.Decorated.{entries_have}
use Rattle.sasi_model.specs.Cells.{Partition}
use Rattle.sasi_model.specs.State.{decorated}
use Rattle.sasi_body.specs.Body.{IsBodyOf}
use Rattle.sasi_host.specs.declared.fault.ReadFault.{ReadFault}
use Rattle.sasi_host.specs.declared.fault.ReadFault.TheVariants as fault
use Rattle.sasi_host.specs.declared.name.FileName.{FileName}
use Rattle.sasi_host.specs.Names.{Bytes, Folder, data_name}
use Rattle.sasi_host.specs.Buffered.{IsBuffered}
use Rattle.sasi_host.proofs.BufferedLaws.{nothing_buffered}
use Rattle.sasi_host.specs.Damages.{DamageShown, OnDamage}
use Rattle.sasi_host.specs.Disk.{Changes, Same}
use Rattle.sasi_host.specs.View.{IsThere, View, contents, contents_in}
use Rattle.sasi_datawrite.specs.Files.{IsDataFile}
use Rattle.sasi_datawrite.specs.Format.{Content}
use Rattle.sasi_dataread.specs.Damages.{ShowsDataFile, ShowsHeaderOrFooter, inside, outside}
use Rattle.sasi_dataread.specs.HeaderAndFooter.{HasHeaderAndFooter}
use Rattle.sasi_dataread.specs.Opened.{IsOpenedAs, OpenDataFile}
use Rattle.sasi_dataread.specs.Reads.{IsOpenOn, NoFalseDataDamage}
use Rattle.sasi_tokentree.specs.Scans.{IsAtLast}
use Rattle.sasi_dataread.specs.KeyOrder.{IsLastKey, KeyRises, key_of}
use Rattle.sasi_dataread.specs.Tokens.{AgreesWith, token_by}
use Rattle.sasi_dataread.specs.Scans.{DataScan, NoFalseScanDamage, PassesPartition, ReadsNextPartition, StepsToPartition, pairs_of}
use Rattle.sasi_manifest.specs.declared.files.ListedFile.{ListedFile}
use Rattle.sasi_memtable.specs.MemtableView.{MemtableView, entries_after}
use Rattle.sasi_merge.specs.Merging.{Head}
use Rattle.sasi_merge.specs.Streams.{Entries, IsRising, behind, head_of}
use Rattle.sasi_scan.specs.declared.source.Source.{Source}
use Rattle.sasi_scan.specs.declared.source.Source.TheVariants.{File, Map}
use Rattle.sasi_scan.specs.Parts.{HasContent, IsOfPart, ShowsListed, entries_of, of_file, of_map}
use Rattle.sasi_scan.specs.Sources.{AreOfPart, CanStep, CanWalk, HasTokenOf, IsHeadOf, IsListedFile, IsListedSource, IsOpenIn, IsSourceOf, NoFalseSourceDamage, ShowsSource, StepsInFile, StepsTo, numbers_of}
use Rattle.sasi_scan.specs.Left.{HasLeftInFile, IsLeft, IsLeftInFile}
use Rattle.sasi_scan.specs.Opening.{IsOpenedFile}
use Rattle.sasi_scan.proofs.Costs.{reads_same}

-- ---- what is left

-- a scan of a data file that had these left gives the first of them, and has the others left
in_file : (seen : Option Folder) (p : Partitioner) (old new : DataScan) (left : Entries) (head : Head) (content : Content) → IsOpenIn seen old.opened p content → AgreesWith new.tokens p → new.opened ≡ old.opened → left ≡ entries_of p (drop old.passed content) → StepsToPartition p content old.passed new.passed head → IsLeftInFile seen p head new left
in_file seen p old new left None content is agrees same left_is steps =
    let none : left ≡ [] = left_is ∙ ap (entries_of p) steps.0 in
    record {
      head_is = sym (ap head_of none);
      behind_it = record {
        content = content;
        is = subst (λ (o : OpenDataFile). IsOpenIn seen o p content) (sym same) is;
        agrees = agrees;
        left_is = ap behind none ∙ sym (ap (entries_of p) (ap (λ n. drop n content) steps.1 ∙ steps.0));
      };
    }
in_file seen p old new left (Some one) content is agrees same left_is steps =
    let some : left ≡ (decorated p one.1, one.2) ∷ entries_of p (drop new.passed content) = left_is ∙ ap (entries_of p) steps.0 in
    record {
      head_is = ap (λ t. Some (t, one.1, one.2)) steps.1 ∙ sym (ap head_of some);
      behind_it = record {
        content = content;
        is = subst (λ (o : OpenDataFile). IsOpenIn seen o p content) (sym same) is;
        agrees = agrees;
        left_is = ap behind some;
      };
    }

pub file_left : (seen : Option Folder) (p : Partitioner) (old new : DataScan) (left : Entries) (head : Head) → HasLeftInFile seen p old left → StepsInFile seen old head new → IsLeftInFile seen p head new left
file_left seen p old new left head has steps =
    in_file seen p old new left head has.content has.is (subst (λ (tokens : Option Partitioner). AgreesWith tokens p) (sym steps.tokens) has.agrees) steps.opened has.left_is (steps.next p has.content has.agrees has.is)

-- ---- behind a key

both_true : (a b : Bool) → T (a && b) → T a × T b
both_true true b h = (tt, h)
both_true false b h = absurd h

is_less : (r : Ordering) → T (is_lt r) → r ≡ Less
is_less Less h = refl
is_less Equal h = absurd h
is_less Greater h = absurd h

-- entries that are above a key are behind it
above_after : (key : DecoratedKey) (es : Entries) → T (below_all decorated_cmp key es) → entries_after (Some key) es ≡ es
above_after key [] below = refl
above_after key (e ∷ es) below =
    let parts = both_true _ _ below in
    let less : decorated_cmp key e.0 ≡ Less = is_less _ parts.0 in
    let rest = above_after key es parts.1 in
    ap (λ (r : Ordering). cond (is_lt r && true) (e ∷ entries_after (Some key) es) (entries_after (Some key) es)) less ∙ ap (λ (x : Entries). e ∷ x) rest

-- behind the first of what is left are the others
pub after_first : (before : Entries) (e : DecoratedKey × Partition) (rest : Entries) → IsRising (before ++ e ∷ rest) → entries_after (Some e.0) (before ++ e ∷ rest) ≡ rest
after_first [] e rest rising =
    let parts = both_true _ _ rising in
    let same : decorated_cmp e.0 e.0 ≡ Equal = tied_itself decorated_total e.0 in
    let others = above_after e.0 rest parts.0 in
    ap (λ (r : Ordering). cond (is_lt r && true) (e ∷ entries_after (Some e.0) rest) (entries_after (Some e.0) rest)) same ∙ others
after_first (b ∷ before) e rest rising =
    let parts = both_true _ _ rising in
    let less : decorated_cmp b.0 e.0 ≡ Less = first_below before parts.0 in
    let more : decorated_cmp e.0 b.0 ≡ Greater = decorated_total.antisymm e.0 b.0 ∙ ap ordering_reverse less in
    let others = after_first before e rest parts.1 in
    ap (λ (r : Ordering). cond (is_lt r && true) (b ∷ entries_after (Some e.0) (before ++ e ∷ rest)) (entries_after (Some e.0) (before ++ e ∷ rest))) more ∙ others
  where
    first_below : (xs : Entries) → T (below_all decorated_cmp b.0 (xs ++ e ∷ rest)) → decorated_cmp b.0 e.0 ≡ Less
    first_below [] below = is_less _ (both_true _ _ below).0
    first_below (x ∷ xs) below = first_below xs (both_true _ _ below).1

-- ---- what stays

pub steps_can : (seen : Option Folder) (ms : List MemtableView) (key : DecoratedKey) (source : Source) (head : Head) (after : Source) → StepsTo seen ms key source head after → CanStep seen ms source → CanStep seen ms after
steps_can seen ms key (File old) head (File new) steps can = steps.can
steps_can seen ms key (Map old) head (Map new) steps can = subst (λ (n : ℕ). n < length ms) (sym steps.0) can
steps_can seen ms key (File old) head (Map new) steps can = absurd steps
steps_can seen ms key (Map old) head (File new) steps can = absurd steps

pub steps_listed : (seen : Option Folder) (ms : List MemtableView) (key : DecoratedKey) (files : List ListedFile) (types : List ColumnType) (source : Source) (head : Head) (after : Source) → StepsTo seen ms key source head after → IsListedSource seen files types source → IsListedSource seen files types after
steps_listed seen ms key files types (File old) head (File new) steps listed = subst (λ (o : OpenDataFile). IsListedFile seen files types o) (sym steps.opened) listed
steps_listed seen ms key files types (Map old) head (Map new) steps listed = tt
steps_listed seen ms key files types (File old) head (Map new) steps listed = absurd steps
steps_listed seen ms key files types (Map old) head (File new) steps listed = absurd steps

-- ---- in any file

body_of : (types : List ColumnType) (maps : List MemtableView) (head : Head) → IfSome head (λ one. IsBodyOf types one.1 one.2) → IsHeadOf types maps head
body_of types maps None is = tt
body_of types maps (Some one) is = of_file is

pub file_of : (seen : Option Folder) (types : List ColumnType) (maps : List MemtableView) (old : DataScan) (head : Head) (new : DataScan) → StepsInFile seen old head new → old.opened.types ≡ types → IsHeadOf types maps head
file_of seen types maps old head new steps of = body_of types maps head (subst (λ (ts : List ColumnType). IfSome head (λ one. IsBodyOf ts one.1 one.2)) of steps.in_table)

first_of : (types : List ColumnType) (maps : List MemtableView) (es : Entries) → AreOfPart types maps es → IsHeadOf types maps (head_of es)
first_of types maps [] all = tt
first_of types maps (e ∷ es) all = all.0

after_of : (types : List ColumnType) (maps : List MemtableView) (key : DecoratedKey) (es : Entries) → AreOfPart types maps es → AreOfPart types maps (entries_after (Some key) es)
after_of types maps key [] all = tt
after_of types maps key (e ∷ es) all = by (range_contains decorated_cmp (Excluded key) Unbounded e.0) (after_of types maps key es all.1)
  where
    by : (b : Bool) → AreOfPart types maps (entries_after (Some key) es) → AreOfPart types maps (if b then e ∷ entries_after (Some key) es else entries_after (Some key) es)
    by true rest = (all.0, rest)
    by false rest = rest

-- the entries of a map are of it
map_of_part : (types : List ColumnType) (all : List MemtableView) (m : MemtableView) → Contains all m → AreOfPart types all (map_.entries m.partitions)
map_of_part types all m among = entries_have (λ entry. IsOfPart types all entry.0.key entry.1) m.partitions (λ q part is. of_map m q among is refl)

pub map_head : (types : List ColumnType) (all : List MemtableView) (m : MemtableView) → Contains all m → IsHeadOf types all (head_of (map_.entries m.partitions))
map_head types all m among = first_of types all (map_.entries m.partitions) (map_of_part types all m among)

there : (ms : List MemtableView) (n : ℕ) → n < length ms → (m : MemtableView) × (slice_get ms n ≡ Some m) × Contains ms m
there [] n short = absurd (omega (arith, short))
there (m ∷ ms) zero short = (m, refl, (zero, omega arith, refl))
there (m ∷ ms) (suc n) short =
    let rest = there ms n (omega (arith, short)) in
    (rest.0, rest.1, (suc rest.2.0, omega (arith, rest.2.1), rest.2.2))

pub steps_head : (seen : Option Folder) (ms : List MemtableView) (key : DecoratedKey) (types : List ColumnType) (source : Source) (head : Head) (after : Source) → StepsTo seen ms key source head after → CanStep seen ms source → IsSourceOf types source → IsHeadOf types ms head
steps_head seen ms key types (File old) head (File new) steps can of = file_of seen types ms old head new steps of
steps_head seen ms key types (Map old) head (Map new) steps can of =
    let one = there ms old can in
    subst (IsHeadOf types ms) (sym (steps.1 one.0 one.1)) (first_of types ms (entries_after (Some key) (map_.entries one.0.partitions)) (after_of types ms key (map_.entries one.0.partitions) (map_of_part types ms one.0 one.2)))
steps_head seen ms key types (File old) head (Map new) steps can of = absurd steps
steps_head seen ms key types (Map old) head (File new) steps can of = absurd steps

pub steps_of : (seen : Option Folder) (ms : List MemtableView) (key : DecoratedKey) (types : List ColumnType) (source : Source) (head : Head) (after : Source) → StepsTo seen ms key source head after → IsSourceOf types source → IsSourceOf types after
steps_of seen ms key types (File old) head (File new) steps of = ap (λ (o : OpenDataFile). o.types) steps.opened ∙ of
steps_of seen ms key types (Map old) head (Map new) steps of = tt
steps_of seen ms key types (File old) head (Map new) steps of = absurd steps
steps_of seen ms key types (Map old) head (File new) steps of = absurd steps

-- ---- damage

-- what a listed source shows is shown by a listed file
pub source_shown : (seen : Option Folder) (files : List ListedFile) (types : List ColumnType) (source : Source) (f : ReadFault) → IsListedSource seen files types source → ShowsSource seen source f → OnDamage (ShowsListed seen files types) f
source_shown seen files types (File scan) fault.Failed listed shown = tt
source_shown seen files types (File scan) fault.OutOfMemory listed shown = tt
source_shown seen files types (File scan) (fault.Damaged damage) listed shown = record {
  file = listed.file;
  listed = listed.listed;
  shown = λ bytes is.
      let there : contents_in seen scan.opened.file ≡ Some bytes = ap (contents_in seen) listed.named ∙ is in
      subst (λ (n : FileName). ShowsDataFile types n bytes damage) listed.named
      (subst (λ (k : List ColumnType). ShowsDataFile k scan.opened.file bytes damage) listed.types_are
      (inside _ (listed.footer bytes there) (shown bytes there)));
}
source_shown seen files types (Map position) fault.Failed listed shown = tt
source_shown seen files types (Map position) fault.OutOfMemory listed shown = tt
source_shown seen files types (Map position) (fault.Damaged damage) listed shown = absurd shown

-- and none of a source that has partitions left
pub no_false_source : (seen : Option Folder) (p : Partitioner) (ms : List MemtableView) (head : Head) (source : Source) (left : Entries) (f : ReadFault) → IsLeft seen p ms head source left → NoFalseSourceDamage seen source f → OnDamage (λ _. ⊥) f
no_false_source seen p ms head (File scan) left fault.Failed has no_false = tt
no_false_source seen p ms head (File scan) left fault.OutOfMemory has no_false = tt
no_false_source seen p ms head (File scan) left (fault.Damaged damage) has no_false = no_false p has.behind_it.content has.behind_it.agrees has.behind_it.is
no_false_source seen p ms head (Map position) left fault.Failed has no_false = tt
no_false_source seen p ms head (Map position) left fault.OutOfMemory has no_false = tt
no_false_source seen p ms head (Map position) left (fault.Damaged damage) has no_false = no_false

-- ---- a step in a file, by what its scan promises

open_on : (v : View) (opened : OpenDataFile) (p : Partitioner) (content : Content) → IsOpenIn v.files opened p content → IsOpenOn v opened p content
open_on v opened p content is = record { bytes = is.bytes; reads = is.reads; data_file = is.data_file; of = is.of }

-- the scan can go on after reads
pub scan_on : (v w : View) (old new : DataScan) → Changes Same v w → CanWalk v.files old → new.opened ≡ old.opened → new.pairs_buffered.file ≡ new.opened.file → new.buffered.file ≡ new.opened.file → IsBuffered new.pairs_buffered w.files → IsBuffered new.buffered w.files → IsAtLast (pairs_of new) w.files → IsLastKey w.files new.opened new.tokens new.passed new.last → CanWalk v.files new
scan_on v w old new change can same pairs_named named pairs part last key = record {
  there = subst (λ (o : OpenDataFile). IsSome v.files → IsSome (contents_in v.files o.file)) (sym same) can.there;
  pairs_named = pairs_named;
  named = named;
  pairs_buffered = subst (IsBuffered new.pairs_buffered) (reads_same v w change) pairs;
  buffered = subst (IsBuffered new.buffered) (reads_same v w change) part;
  at_last = subst (IsAtLast (pairs_of new)) (reads_same v w change) last;
  last_key = subst (λ (o : Option Folder). IsLastKey o new.opened new.tokens new.passed new.last) (reads_same v w change) key;
}

-- the token of what is given is that of its key under the scan's partitioner
token_under : (v : View) (opened : OpenDataFile) (tokens : Option Partitioner) (before after : ℕ) (p : Partitioner) (head : Head) → tokens ≡ Some p → PassesPartition v opened tokens before after head → HasTokenOf p head
token_under v opened tokens before after p None is passes = tt
token_under v opened tokens before after p (Some one) is passes = passes.3 ∙ ap (λ (t : Option Partitioner). token_by t passes.2 one.1) is

pub scan_steps : (v w : View) (old new : DataScan) (result : Result Head ReadFault) → Changes Same v w → CanWalk v.files old → new.opened ≡ old.opened → new.pairs_buffered.file ≡ new.opened.file → new.buffered.file ≡ new.opened.file → IsBuffered new.pairs_buffered w.files → IsBuffered new.buffered w.files → IsAtLast (pairs_of new) w.files → OnOk result (IsLastKey w.files new.opened new.tokens new.passed new.last)
    → new.tokens ≡ old.tokens → IfOk result (KeyRises old.last) → IfOk result (λ found. new.last ≡ option_or (option_map key_of found) old.last) → IfOk result (PassesPartition v old.opened old.tokens old.passed new.passed)
    → IfOk result (λ found. ReadsNextPartition v old.opened old.tokens old.passed new.passed found) → IfOk result (λ found. IfSome found (λ one. IsBodyOf old.opened.types one.1 one.2)) → IfOk result (λ head. StepsInFile v.files old head new)
scan_steps v w old new (Ok head) change can same pairs_named named pairs part last key tokens_are rises last_is passes next in_table = record {
  can = scan_on v w old new change can same pairs_named named pairs part last key;
  opened = same;
  tokens = tokens_are;
  in_table = in_table;
  rises = rises;
  last_is = last_is;
  token_is = λ p is. token_under v old.opened old.tokens old.passed new.passed p head is passes;
  ends = λ none. (subst (PassesPartition v old.opened old.tokens old.passed new.passed) none passes).0;
  next = λ p content agrees is. next p content agrees (open_on v old.opened p content is) is.keys;
}
scan_steps v w old new (Err f) change can same pairs_named named pairs part last key tokens_are rises last_is passes next in_table = tt

pub no_false_scan : (v : View) (scan : DataScan) (result : Result Head ReadFault) → IfErr result (NoFalseScanDamage v scan.opened scan.tokens) → IfErr result (NoFalseSourceDamage v.files (File scan))
no_false_scan v scan (Ok head) no_false = tt
no_false_scan v scan (Err fault.Failed) no_false = tt
no_false_scan v scan (Err fault.OutOfMemory) no_false = tt
no_false_scan v scan (Err (fault.Damaged damage)) no_false = λ p content agrees is. no_false p content agrees (open_on v scan.opened p content is) is.keys

-- ---- the opening of a file, by what it promises

opened_in : (v : View) (types : List ColumnType) (file : ListedFile) (opened : OpenDataFile) → opened.file ≡ data_name file.number → opened.types ≡ types
    → ((bytes : Bytes) (p : Partitioner) (content : Content) → contents v (data_name file.number) ≡ Some bytes → IsDataFile p types bytes content → IsOpenedAs opened p content)
    → (p : Partitioner) (content : Content) → HasContent v.files p types file content → IsOpenIn v.files opened p content
opened_in v types file opened named types_are opens p content has = record {
  bytes = has.bytes;
  reads = ap (contents_in v.files) named ∙ has.reads;
  data_file = subst (λ (ts : List ColumnType). IsDataFile p ts has.bytes content) (sym types_are) has.data_file;
  of = opens has.bytes p content has.reads has.data_file;
  keys = has.keys;
}

-- a scan before the first partition
pub opened_file : (v : View) (types : List ColumnType) (tokens : Option Partitioner) (file : ListedFile) (opened : OpenDataFile) (scan : DataScan) → 0 < opened.tree.pairs → IsThere v (data_name file.number) → opened.file ≡ data_name file.number → opened.types ≡ types
    → ((bytes : Bytes) (p : Partitioner) (content : Content) → contents v (data_name file.number) ≡ Some bytes → IsDataFile p types bytes content → IsOpenedAs opened p content)
    → ((bytes : Bytes) → contents v (data_name file.number) ≡ Some bytes → HasHeaderAndFooter bytes (numbers_of opened))
    → scan ≡ record { opened = opened; tokens = tokens; passed = 0; pairs_buffered = record { file = opened.file; page = None; bytes = [] }; buffered = record { file = opened.file; page = None; bytes = [] }; last_pair = None; last = None } → IsOpenedFile v.files types tokens file scan
opened_file v types tokens file opened scan some there named types_are opens footer is = subst (IsOpenedFile v.files types tokens file) (sym is) (record {
  named = named;
  types_are = types_are;
  tokens_are = refl;
  some = some;
  begins = refl;
  no_pairs_buffered = refl;
  nothing_buffered = refl;
  can = record {
    there = subst (λ (n : FileName). IsSome v.files → IsSome (contents_in v.files n)) (sym named) there;
    pairs_named = refl;
    named = refl;
    pairs_buffered = nothing_buffered _ v.files refl;
    buffered = nothing_buffered _ v.files refl;
    at_last = λ bytes reads. tt;
    last_key = record { holds = λ bytes reads. tt; content = λ bytes p content agrees reads data_file of keys. tt };
  };
  footer = λ bytes reads. footer bytes (sym (ap (contents_in v.files) named) ∙ reads);
  opened = opened_in v types file opened named types_are opens;
})

-- damage at the opening is that of the file, and of no file with a content
pub opening_shown : (v : View) (types : List ColumnType) (file : ListedFile) (f : ReadFault) → DamageShown v (data_name file.number) (ShowsHeaderOrFooter (data_name file.number)) f → OnDamage (λ damage. (bytes : Bytes) → contents_in v.files (data_name file.number) ≡ Some bytes → ShowsDataFile types (data_name file.number) bytes damage) f
opening_shown v types file fault.Failed shown = tt
opening_shown v types file fault.OutOfMemory shown = tt
opening_shown v types file (fault.Damaged damage) shown = λ bytes is. outside (shown bytes is)

pub no_false_opening : (v : View) (types : List ColumnType) (file : ListedFile) (f : ReadFault) → NoFalseDataDamage v (data_name file.number) f → OnDamage (λ _. (p : Partitioner) (content : Content) → HasContent v.files p types file content → ⊥) f
no_false_opening v types file fault.Failed no_false = tt
no_false_opening v types file fault.OutOfMemory no_false = tt
no_false_opening v types file (fault.Damaged damage) no_false = λ p content has. no_false has.bytes p types content has.reads has.data_file

-- ---- the first step of an opened file

-- what the first step shows is that of the file
pub first_shown : (v : View) (types : List ColumnType) (tokens : Option Partitioner) (file : ListedFile) (scan : DataScan) (f : ReadFault) → IsOpenedFile v.files types tokens file scan → ShowsSource v.files (File scan) f → OnDamage (λ damage. (bytes : Bytes) → contents_in v.files (data_name file.number) ≡ Some bytes → ShowsDataFile types (data_name file.number) bytes damage) f
first_shown v types tokens file scan fault.Failed is shown = tt
first_shown v types tokens file scan fault.OutOfMemory is shown = tt
first_shown v types tokens file scan (fault.Damaged damage) is shown = λ bytes reads.
    let there : contents_in v.files scan.opened.file ≡ Some bytes = ap (contents_in v.files) is.named ∙ reads in
    subst (λ (n : FileName). ShowsDataFile types n bytes damage) is.named
    (subst (λ (k : List ColumnType). ShowsDataFile k scan.opened.file bytes damage) is.types_are
    (inside (numbers_of scan.opened) (is.footer bytes there) (shown bytes there)))

pub no_false_first : (v : View) (types : List ColumnType) (tokens : Option Partitioner) (file : ListedFile) (scan : DataScan) (f : ReadFault) → IsOpenedFile v.files types tokens file scan → NoFalseSourceDamage v.files (File scan) f → OnDamage (λ _. (p : Partitioner) (content : Content) → AgreesWith tokens p → HasContent v.files p types file content → ⊥) f
no_false_first v types tokens file scan fault.Failed is no_false = tt
no_false_first v types tokens file scan fault.OutOfMemory is no_false = tt
no_false_first v types tokens file scan (fault.Damaged damage) is no_false = λ p content agrees has. no_false p content (subst (λ (t : Option Partitioner). AgreesWith t p) (sym is.tokens_are) agrees) (is.opened p content has)
