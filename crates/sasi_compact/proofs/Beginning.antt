-- The first unit begins the output: it opens the sources, looks the first partition ahead, and makes the data file.
use Rattle.std.proofs.Common.{◌≡◌, ◌≤◌, ◌+◌, ◌∙◌, true, false, ℕ, List, [], ◌∷◌, Option, None, Some, IfSome, IsSome, inl, sym, ap, subst, arith}
use Rattle.std.specs.Prelude.{IsTrue}
use Rattle.std.specs.List.{AllByRecursion}
use Rattle.std.specs.FinMap as map_
use Rattle.std.specs.FinMap.{get}
use Rattle.sasi_types.specs.declared.column.ColumnType.{ColumnType}
use Rattle.sasi_types.specs.declared.index_def.IndexDef.{IndexDef}
use Rattle.sasi_types.specs.declared.tree.Pair.{Pair}
use Rattle.sasi_types.specs.Token.{token_of}
use Rattle.sasi_host.specs.declared.name.FileName.{FileName}
use Rattle.sasi_host.specs.Names.{Bytes, Folder, data_name}
use Rattle.sasi_host.specs.View.{Reaches, View}
use Rattle.sasi_host.specs.Disk.{AnyChange, Changes, FileChange, MaybeDeleted, Same}
use Rattle.sasi_host.proofs.ChangeLaws.{changes_as, changes_on, stays}
use Rattle.sasi_body.specs.Body.{IsBodyOf}
use Rattle.sasi_datawrite.specs.Format.{Content}
use Rattle.sasi_datawrite.specs.Writing.{last_pair}
use Rattle.sasi_merge.specs.Streams.{Entries}
use Rattle.sasi_model.specs.Cells.{Partition}
use Rattle.sasi_pairs.specs.Gathered.{IsBuilt, defs_of}
use Rattle.sasi_pairs.specs.PairViews.{IsPairing, PairView}
use Rattle.sasi_scan.specs.Parts.{AreContents, merged_parts}
use Rattle.sasi_scan.specs.Paging.{table_reads}
use Rattle.sasi_scan.specs.Scanning.{CanScan, GivesFirst, HasReadsLeft, IsScanOf, IsScanning, MayRead, ScanView}
use Rattle.sasi_scan.proofs.Costs.{reads_same}
use Rattle.sasi_compact.specs.Tasks.{CanCompact, CanWriteOn, HasAllLeft, HasWritten, IsInOrder, IsOnColumn, MayReadTo, content_of, sources_of}
use Rattle.sasi_compact.specs.Tasks.{HasReadsLeft as MayReadOn}
use Rattle.sasi_compact.specs.declared.compaction.Compaction.{Compaction}
use Rattle.sasi_compact.proofs.Passing.{first_kept, may_kept, of_kept, scan_kept}

-- ---- changes

-- a call that leaves the folder as it is changes no more than one file
pub same_touches : (a b : View) (file : FileName) → Changes Same a b → Changes (FileChange file AnyChange) a b
same_touches a b file change = changes_as a b Same (FileChange file AnyChange) change (λ x y same. record { others = λ name other. ap (λ (f : Folder). get f name) same; this = tt })

-- and a change may come after it
pub then_touches : (a b d : View) (file : FileName) → Changes Same a b → Changes (FileChange file AnyChange) b d → Changes (FileChange file AnyChange) a d
then_touches a b d file first second =
    changes_on a b d Same (FileChange file AnyChange) (FileChange file AnyChange) first second (λ x y same. record { others = λ name other. ap (λ (f : Folder). get f name) same; this = tt })
    (λ x y z same step. record { others = λ name other. step.others name other ∙ ap (λ (f : Folder). get f name) same; this = tt })

pub same_on : (a b d : View) → Changes Same a b → Changes Same b d → Changes Same a d
same_on a b d first second = changes_on a b d Same Same Same first second (λ x y same. same) (λ x y z one two. two ∙ one)

-- nothing is deleted
pub none_deleted : (v : View) (file : FileName) → Changes (FileChange file MaybeDeleted) v v
none_deleted v file = changes_as v v Same (FileChange file MaybeDeleted) (stays v) (λ x y same. record { others = λ name other. ap (λ (f : Folder). get f name) same; this = inl (ap (λ (f : Folder). get f file) same) })

-- ---- indexes

pub all_built : (types : List ColumnType) (defs : List IndexDef) → AllByRecursion (IsOnColumn types) defs → AllByRecursion IsBuilt defs
all_built types [] all = tt
all_built types (def ∷ defs) all = (all.0.built, all_built types defs all.1)

-- ---- reads

module _ (v a b : View) (c : Compaction) (scan next : ScanView) (opened : Changes Same v a) where
  -- the first look ahead is within what the opening left
  pub opens_within : (most : ℕ) → MayReadTo v.files c None most → ((contents : List Content) → AreContents v.files c.partitioner c.types (sources_of c) contents → HasReadsLeft v.files c.partitioner scan (v.reads + table_reads v.files (sources_of c)) a.reads)
      → (left : ℕ) × MayRead a.files c.partitioner scan left × (a.reads + left ≤ v.reads + most)
  opens_within most may reads =
      let so_far = reads may.0 may.1 in
      (so_far.left, subst (λ (o : Option Folder). MayRead o c.partitioner scan so_far.left) (sym (reads_same v a opened)) so_far.may, omega (arith, so_far.reads, may.2))

  -- and so is what is left behind it, while the data file is made
  pub begins_within : CanCompact c → (d : View) (pairs : PairView) (first : Option (Bytes × Partition)) (most left : ℕ) → Changes Same a b → IsScanOf a.files (sources_of c) c.types [] next → HasReadsLeft a.files c.partitioner next (a.reads + left) b.reads → a.reads + left ≤ v.reads + most
      → Changes (FileChange (data_name c.number) AnyChange) b d → d.reads ≡ b.reads → MayReadOn d.files c (Some (record { scan = next; pairs = pairs; next = first })) (v.reads + most) d.reads
  begins_within compact d pairs first most left looked of has within made reads = record {
    left = has.left;
    may = may_kept b d c compact made next (subst (λ (o : Option Folder). IsScanOf o (sources_of c) c.types [] next) (sym (reads_same a b looked)) of) has.left (subst (λ (o : Option Folder). MayRead o c.partitioner next has.left) (sym (reads_same a b looked)) has.may);
    reads = omega (arith, has.reads, within, reads);
  }

-- ---- the output

module _ (v a b d : View) (c : Compaction) (compact : CanCompact c) (scan next : ScanView) (pairs : PairView) (first : Option (Bytes × Partition)) (opened : Changes Same v a) (looked : Changes Same a b) (made : Changes (FileChange (data_name c.number) AnyChange) b d)
    (of : IsScanOf a.files (sources_of c) c.types [] next) (begun : IsPairing d pairs []) where
  of_b : IsScanOf b.files (sources_of c) c.types [] next
  of_b = subst (λ (o : Option Folder). IsScanOf o (sources_of c) c.types [] next) (sym (reads_same a b looked)) of

  -- **All of the merge is left, and its first partition is looked ahead.**
  pub begins_written : ((contents : List Content) → AreContents v.files c.partitioner c.types (sources_of c) contents → IsScanning v.files c.partitioner [] scan (map_.entries (merged_parts c.partitioner contents [])))
      → ((left : Entries) → IsScanning a.files c.partitioner [] scan left → GivesFirst a.files c.partitioner [] left next first) → (passed left : Entries) → HasAllLeft v.files c passed left → HasWritten d c (record { scan = next; pairs = pairs; next = first }) passed left
  begins_written scanning gives passed left all =
      let on : IsScanning a.files c.partitioner [] scan left =
      subst (λ (o : Option Folder). IsScanning o c.partitioner [] scan left) (sym (reads_same v a opened)) (subst (λ (es : Entries). IsScanning v.files c.partitioner [] scan es) (sym all.all_left) (scanning all.contents all.are)) in
      record {
        written = subst (λ (es : Entries). IsPairing d pairs (content_of es)) (sym all.none_passed) begun;
        ahead = first_kept b d c compact made next of_b left first (subst (λ (o : Option Folder). GivesFirst o c.partitioner [] left next first) (sym (reads_same a b looked)) (gives left on));
      }

  -- **and it can be written on.**
  pub begins_can : pairs.writer.file ≡ data_name c.number → pairs.writer.partitioner ≡ c.partitioner → defs_of pairs.indexes ≡ c.indexes → IsTrue pairs.writer.usable → Reaches d pairs.writer.file pairs.writer.offset → CanScan b.files [] next → IfSome first (λ one. IsBodyOf c.types one.0 one.1)
      → IsInOrder c.partitioner next first → IsSome first → CanWriteOn d c (record { scan = next; pairs = pairs; next = first })
  begins_can file partitioner indexes usable room can body in_order some = record {
    file = file;
    partitioner = partitioner;
    indexes = indexes;
    usable = usable;
    room = room;
    scan = scan_kept b d c compact made next of_b can;
    of_sources = of_kept b d c compact made next of_b;
    in_order = in_order;
    body = body;
    rising = first_rises first;
    written = ([], begun);
    some = λ none. absurd (let no : false ≡ true = subst IsSome none some in cc);
  }
    where
      first_rises : (found : Option (Bytes × Partition)) → IfSome found (λ one. (last_pair pairs.writer.pairs).token ≤ token_of c.partitioner one.0)
      first_rises None = tt
      first_rises (Some one) = subst (λ (ps : List Pair). (last_pair ps).token ≤ token_of c.partitioner one.0) (sym begun.writing.pairs) (omega arith)
