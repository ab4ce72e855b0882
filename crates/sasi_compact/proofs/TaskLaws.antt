-- **A task stays as it is while the folder goes on**, but for files that are neither its sources nor its output: so it can be kept between statements.
use Rattle.std.proofs.Common.{◌≡◌, ◌≤◌, ◌||◌, ◌∙◌, Bool, true, false, ℕ, List, [], ◌∷◌, Option, None, Some, IfSome, IsSome, nat_eq, sym, ap, subst, arith}
use Rattle.std.proofs.lemmas.Bool.Decides.{nat_tests}
use Rattle.std.proofs.lemmas.List.Elements.{All-contains, All-from_recursion}
use Rattle.std.specs.List.{AllByRecursion, Contains}
use Rattle.sasi_host.specs.declared.damage.Damage.{Damage}
use Rattle.sasi_host.specs.declared.name.FileName.{FileName}
use Rattle.sasi_host.specs.Names.{Bytes, data_name}
use Rattle.sasi_host.specs.View.{IsThere, View, contents}
use Rattle.sasi_host.specs.Disk.{Changes, FileChange, Same}
use Rattle.sasi_host.proofs.ContentLaws.{contents_other, contents_same, told_before}
use Rattle.sasi_datawrite.specs.Format.{Content}
use Rattle.sasi_manifest.specs.ListedFiles.{is_among}
use Rattle.sasi_manifest.specs.declared.files.ListedFile.{ListedFile}
use Rattle.sasi_merge.specs.Streams.{Entries}
use Rattle.sasi_pairs.specs.PairViews.{IsPairing}
use Rattle.sasi_scan.specs.Parts.{ShowsListed}
use Rattle.sasi_compact.specs.Tasks.{CanBegin, CanCompact, CanGiveUp, CanGoOn, CanGoOnTo, CanWriteOn, HasAllLeft, HasOutput, HasWritten, IsCompacting, IsCompactingTo, MayReadMore, MayReadTo, StaysForTask, content_of, files_numbered, sources_of}
use Rattle.sasi_compact.specs.declared.compaction.Compaction.{Compaction}
use Rattle.sasi_compact.specs.declared.output.Output.{Output}
use Rattle.sasi_compact.specs.declared.task.CompactTask.{CompactTask}
use Rattle.sasi_compact.proofs.ScanStays.{can_stays, contents_stay, first_stays, may_stays, reads_stay, scan_stays}

-- ---- sources

pub each_source : (P : ListedFile → Type 0) (files : List ListedFile) → AllByRecursion P files → (file : ListedFile) → Contains files file → P file
each_source P files all file listed = All-contains P files file (All-from_recursion P files all) listed

-- a change of the output alone leaves them
pub sources_kept : (a b : View) (R : Option Bytes → Option Bytes → Type 0) (number : ℕ) (sources : List ℕ) → is_among sources number ≡ false → Changes (FileChange (data_name number) R) a b
    → AllByRecursion (λ (f : ListedFile). contents b (data_name f.number) ≡ contents a (data_name f.number)) (files_numbered sources)
sources_kept a b R number [] apart change = tt
sources_kept a b R number (n ∷ sources) apart change = (
  contents_other a b (data_name number) (data_name n) R (λ same. by (nat_eq number n) (is_among sources number) apart (let numbers : n ≡ number = ap (λ (f : FileName). f.number) same in grind (arith, nat_tests, numbers))) change,
  sources_kept a b R number sources (later (nat_eq number n) (is_among sources number) apart) change,
)
  where
    by : (x y : Bool) → (x || y) ≡ false → x ≡ true → ⊥
    by true y none is = absurd cc
    by false y none is = absurd cc

    later : (x y : Bool) → (x || y) ≡ false → y ≡ false
    later true y none = absurd cc
    later false y none = none

-- so what they show afterwards they showed before
pub shown_before : (a b : View) (R : Option Bytes → Option Bytes → Type 0) (c : Compaction) → CanCompact c → Changes (FileChange (data_name c.number) R) a b → (damage : Damage) → ShowsListed b.files (sources_of c) c.types damage
    → ShowsListed a.files (sources_of c) c.types damage
shown_before a b R c compact change damage shows =
    let same = each_source (λ (f : ListedFile). contents b (data_name f.number) ≡ contents a (data_name f.number)) (sources_of c) (sources_kept a b R c.number c.sources compact.apart change) shows.file shows.listed in
    record { file = shows.file; listed = shows.listed; shown = λ bytes is. shows.shown bytes (same ∙ is) }

-- ---- a folder that goes on

module _ (a b : View) (c : Compaction) (stays : StaysForTask c a b) where
  same_source : (file : ListedFile) → Contains (sources_of c) file → contents b (data_name file.number) ≡ contents a (data_name file.number)
  same_source = each_source (λ (f : ListedFile). contents b (data_name f.number) ≡ contents a (data_name f.number)) (sources_of c) stays.sources

  same_output : (o : Output) → o.pairs.writer.file ≡ data_name c.number → contents b o.pairs.writer.file ≡ contents a o.pairs.writer.file
  same_output o is = subst (λ (name : FileName). contents b name ≡ contents a name) (sym is) stays.output

  still_pairing : (o : Output) → o.pairs.writer.file ≡ data_name c.number → (content : Content) → IsPairing a o.pairs content → IsPairing b o.pairs content
  still_pairing o file content is =
      let writing = is.writing in
      record {
        writing = record { pairs = writing.pairs; offset_is = writing.offset_is; max_timestamp = writing.max_timestamp; holds = λ told. same_output o file ∙ writing.holds (stays.told told) };
        indexes = is.indexes;
      }

  pub still_written : (o : Output) (passed left : Entries) → CanWriteOn a c o → HasWritten a c o passed left → HasWritten b c o passed left
  still_written o passed left can is =
      record {
        written = still_pairing o can.file (content_of passed) is.written;
        ahead = first_stays a.files b.files stays.told (sources_of c) c.types same_source c.partitioner [] o.scan left o.next can.of_sources is.ahead;
      }

  pub still_can : (o : Output) → CanWriteOn a c o → CanWriteOn b c o
  still_can o can = record {
    file = can.file;
    partitioner = can.partitioner;
    indexes = can.indexes;
    usable = can.usable;
    room = λ told. let was = can.room (stays.told told) in (was.0, same_output o can.file ∙ was.1, was.2);
    scan = can_stays a.files b.files stays.told (sources_of c) c.types same_source [] o.scan can.of_sources can.scan;
    of_sources = scan_stays a.files b.files stays.told (sources_of c) c.types same_source [] o.scan can.of_sources;
    in_order = can.in_order;
    body = can.body;
    rising = can.rising;
    written = (can.written.0, still_pairing o can.file can.written.0 can.written.1);
    some = can.some;
  }

  all_there : (files : List ListedFile) → AllByRecursion (λ (f : ListedFile). contents b (data_name f.number) ≡ contents a (data_name f.number)) files → AllByRecursion (λ (f : ListedFile). IsThere a (data_name f.number)) files → AllByRecursion (λ (f : ListedFile). IsThere b (data_name f.number)) files
  all_there [] same there = tt
  all_there (file ∷ files) same there = ((λ told. subst IsSome (sym same.0) (there.0 (stays.told told))), all_there files same.1 there.1)

  pub still_begins : CanBegin a c → CanBegin b c
  still_begins can = record { there = all_there (sources_of c) stays.sources can.there; absent = stays.output ∙ can.absent }

  still_all_left : (passed left : Entries) → HasAllLeft a.files c passed left → HasAllLeft b.files c passed left
  still_all_left passed left all = record { contents = all.contents; are = contents_stay a.files b.files c.partitioner c.types (sources_of c) all.contents stays.sources all.are; none_passed = all.none_passed; all_left = all.all_left }

  compacting_to : (output : Option Output) (passed left : Entries) → CanGoOnTo a c output → IsCompactingTo a c output passed left → IsCompactingTo b c output passed left
  compacting_to None passed left can is = still_all_left passed left is
  compacting_to (Some o) passed left can is = still_written o passed left can is

  can_to : (output : Option Output) → CanGoOnTo a c output → CanGoOnTo b c output
  can_to None can = still_begins can
  can_to (Some o) can = still_can o can

  reads_to : (output : Option Output) (most : ℕ) → CanGoOnTo a c output → MayReadTo a.files c output most → MayReadTo b.files c output most
  reads_to None most can may = (may.0, contents_stay a.files b.files c.partitioner c.types (sources_of c) may.0 stays.sources may.1, subst (λ (n : ℕ). n ≤ most) (sym (reads_stay a.files b.files (sources_of c) stays.sources)) may.2)
  reads_to (Some o) most can may = may_stays a.files b.files stays.told (sources_of c) c.types same_source c.partitioner [] o.scan most can.of_sources may

  gives_up_to : (output : Option Output) → IfSome output (HasOutput a c.number) → IfSome output (HasOutput b c.number)
  gives_up_to None can = tt
  gives_up_to (Some o) can = record { file = can.file; there = λ told. subst IsSome (sym (same_output o can.file)) (can.there (stays.told told)) }

module _ (a b : View) (task : CompactTask) (stays : StaysForTask task.compaction a b) where
  -- **It has passed the same partitions, and has the same left,**
  pub still_compacting : (passed left : Entries) → CanGoOn a task → IsCompacting a task passed left → IsCompacting b task passed left
  still_compacting passed left can = compacting_to a b task.compaction stays task.output passed left can.files

  -- **it can go on,**
  pub still_goes_on : CanGoOn a task → CanGoOn b task
  still_goes_on can = record { can = can.can; usable = can.usable; files = can_to a b task.compaction stays task.output can.files }

  -- **it reads no more than before,**
  pub still_reads : (most : ℕ) → CanGoOn a task → MayReadMore a.files task most → MayReadMore b.files task most
  still_reads most can = reads_to a b task.compaction stays task.output most can.files

  -- **and it can be given up.**
  pub still_gives_up : CanGiveUp a task → CanGiveUp b task
  still_gives_up = gives_up_to a b task.compaction stays task.output

-- ---- calls that leave the folder as it is

pub stays_same : (a b : View) (c : Compaction) → Changes Same a b → StaysForTask c a b
stays_same a b c change = record {
  told = told_before Same a b change;
  sources = by (sources_of c);
  output = contents_same a b (data_name c.number) change;
}
  where
    by : (files : List ListedFile) → AllByRecursion (λ (f : ListedFile). contents b (data_name f.number) ≡ contents a (data_name f.number)) files
    by [] = tt
    by (f ∷ files) = (contents_same a b (data_name f.number) change, by files)
