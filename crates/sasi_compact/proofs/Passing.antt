-- One unit: a partition is written, and the next one is looked ahead.
use Rattle.std.proofs.Common.{◌≡◌, ◌≤◌, ◌+◌, ◌∙◌, true, false, ℕ, List, [], ◌∷◌, ◌++◌, length, map, Option, None, Some, IfSome, IsSome, refl, sym, ap, subst, arith, length-append}
use Rattle.std.specs.Prelude.{Contains, IsTrue}
use Rattle.std.proofs.lemmas.List.{map-append}
use Rattle.sasi_types.specs.declared.decorated_key.DecoratedKey.{DecoratedKey}
use Rattle.sasi_types.specs.declared.partitioner.Partitioner.{Partitioner}
use Rattle.sasi_types.specs.declared.tree.Pair.{Pair}
use Rattle.sasi_types.specs.Token.{token_of}
use Rattle.sasi_host.specs.declared.name.FileName.{FileName}
use Rattle.sasi_host.specs.Names.{Bytes, Folder, data_name}
use Rattle.sasi_host.specs.View.{Reaches, View, contents_in}
use Rattle.sasi_host.specs.Disk.{AnyChange, Changes, FileChange, Same}
use Rattle.sasi_host.proofs.ContentLaws.{contents_same, holds_same, reaches_where, told_before}
use Rattle.sasi_body.specs.Body.{IsBodyOf}
use Rattle.sasi_datawrite.specs.Format.{Content}
use Rattle.sasi_datawrite.specs.Writing.{last_pair}
use Rattle.sasi_manifest.specs.declared.files.ListedFile.{ListedFile}
use Rattle.sasi_merge.specs.Merging.{with_token}
use Rattle.sasi_merge.specs.Streams.{Entries}
use Rattle.sasi_model.specs.Cells.{Partition}
use Rattle.sasi_pairs.specs.Gathered.{defs_of}
use Rattle.sasi_pairs.specs.PairViews.{IsPairing, PairView}
use Rattle.sasi_scan.specs.Scanning.{CanScan, GivesFirst, IsScanOf, IsScanning, MayRead, ScanView}
use Rattle.sasi_scan.proofs.Costs.{reads_same}
use Rattle.sasi_compact.specs.Tasks.{CanCompact, CanWriteOn, HasOutput, HasWritten, IsInOrder, PassesNext, content_of, output_of, sources_of}
use Rattle.sasi_compact.specs.declared.compaction.Compaction.{Compaction}
use Rattle.sasi_compact.specs.declared.output.Output.{Output}
use Rattle.sasi_compact.proofs.ScanStays.{can_stays, first_stays, may_stays, scan_stays, scanning_stays}
use Rattle.sasi_compact.proofs.TaskLaws.{each_source, sources_kept}

pub pairing_same : (a b : View) (pairs : PairView) (content : Content) → Changes Same a b → IsPairing a pairs content → IsPairing b pairs content
pairing_same a b pairs content change is = record {
  writing = record { pairs = is.writing.pairs; offset_is = is.writing.offset_is; max_timestamp = is.writing.max_timestamp; holds = holds_same a b pairs.writer.file _ change is.writing.holds };
  indexes = is.indexes;
}

-- one more key with its partition
content_more : (es : Entries) (token : ℕ) (key : Bytes) (part : Partition) → content_of (es ++ (with_token token key, part) ∷ []) ≡ content_of es ++ (key, part) ∷ []
content_more es token key part = map-append (λ (e : DecoratedKey × Partition). (e.0.key, e.1)) es ((with_token token key, part) ∷ [])

-- ---- the sources are as they were, while the output is written

module _ (v w : View) (c : Compaction) (compact : CanCompact c) (wrote : Changes (FileChange (data_name c.number) AnyChange) v w) (scan : ScanView) (of : IsScanOf v.files (sources_of c) c.types [] scan) where
  source_same : (file : ListedFile) → Contains (sources_of c) file → contents_in w.files (data_name file.number) ≡ contents_in v.files (data_name file.number)
  source_same = each_source (λ (f : ListedFile). contents_in w.files (data_name f.number) ≡ contents_in v.files (data_name f.number)) (sources_of c) (sources_kept v w AnyChange c.number c.sources compact.apart wrote)

  pub scan_kept : CanScan v.files [] scan → CanScan w.files [] scan
  scan_kept = can_stays v.files w.files (told_before _ v w wrote) (sources_of c) c.types source_same [] scan of

  pub of_kept : IsScanOf w.files (sources_of c) c.types [] scan
  of_kept = scan_stays v.files w.files (told_before _ v w wrote) (sources_of c) c.types source_same [] scan of

  pub scanning_kept : (left : Entries) → IsScanning v.files c.partitioner [] scan left → IsScanning w.files c.partitioner [] scan left
  scanning_kept left = scanning_stays v.files w.files (told_before _ v w wrote) (sources_of c) c.types source_same c.partitioner [] scan left of

  pub first_kept : (left : Entries) (found : Option (Bytes × Partition)) → GivesFirst v.files c.partitioner [] left scan found → GivesFirst w.files c.partitioner [] left scan found
  first_kept left found = first_stays v.files w.files (told_before _ v w wrote) (sources_of c) c.types source_same c.partitioner [] scan left found of

  pub may_kept : (most : ℕ) → MayRead v.files c.partitioner scan most → MayRead w.files c.partitioner scan most
  may_kept most = may_stays v.files w.files (told_before _ v w wrote) (sources_of c) c.types source_same c.partitioner [] scan most of

-- ---- a partition is written, and then the next one is looked ahead

module _ (v w : View) (c : Compaction) (compact : CanCompact c) (o : Output) (can : CanWriteOn v c o) (pushed_to : Changes (FileChange o.pairs.writer.file AnyChange) v w) where
  pub wrote_output : Changes (FileChange (data_name c.number) AnyChange) v w
  wrote_output = subst (λ (file : FileName). Changes (FileChange file AnyChange) v w) can.file pushed_to

  module _ (u : View) (n : Output) (key : Bytes) (part : Partition) (next_is : o.next ≡ Some (key, part)) (looked : Changes Same w u) where
    passes_by : (passed left : Entries) (token : ℕ) (rest : Entries) → left ≡ (with_token token key, part) ∷ rest → IsPairing w n.pairs (content_of passed ++ (key, part) ∷ []) → GivesFirst w.files c.partitioner [] rest n.scan n.next → PassesNext u c n passed left true
    passes_by passed left token rest is written gives = (
      (with_token token key, part),
      rest,
      is,
      record {
        written = pairing_same w u n.pairs _ looked (subst (λ (content : Content). IsPairing w n.pairs content) (sym (content_more passed token key part)) written);
        ahead = subst (λ (o : Option Folder). GivesFirst o c.partitioner [] rest n.scan n.next) (sym (reads_same w u looked)) gives;
      },
    )

    -- **The partition that was looked ahead is passed.**
    pub passes_one : ((content : Content) → IsPairing v o.pairs content → IsPairing w n.pairs (content ++ (key, part) ∷ []))
        → ((p : Partitioner) (left : Entries) → IsScanning w.files p [] o.scan left → GivesFirst w.files p [] left n.scan n.next)
        → (passed left : Entries) → HasWritten v c o passed left → PassesNext u c n passed left true
    passes_one pushed found passed left is =
        let gives : GivesFirst v.files c.partitioner [] left o.scan (Some (key, part)) = subst (λ (f : Option (Bytes × Partition)). GivesFirst v.files c.partitioner [] left o.scan f) next_is is.ahead in
        passes_by passed left gives.token gives.rest gives.is (pushed (content_of passed) is.written) (found c.partitioner gives.rest (scanning_kept v w c compact wrote_output o.scan can.of_sources gives.rest gives.others))

    some_pairs : (pairs : List Pair) (one : Pair) (new : List Pair) → new ≡ pairs ++ one ∷ [] → 1 ≤ length new
    some_pairs pairs one new is = omega (arith, ap (λ (xs : List Pair). length xs) is, length-append pairs (one ∷ []))

    -- **and the output can be written on.**
    pub writes_on : ((content : Content) → IsPairing v o.pairs content → IsPairing w n.pairs (content ++ (key, part) ∷ [])) → n.pairs.writer.file ≡ o.pairs.writer.file → n.pairs.writer.partitioner ≡ o.pairs.writer.partitioner → defs_of n.pairs.indexes ≡ defs_of o.pairs.indexes
        → IsTrue n.pairs.writer.usable → Reaches w n.pairs.writer.file n.pairs.writer.offset → (one : Pair) → n.pairs.writer.pairs ≡ o.pairs.writer.pairs ++ one ∷ []
        → (last_pair n.pairs.writer.pairs).token ≡ token_of o.pairs.writer.partitioner key → CanScan u.files [] n.scan → IsScanOf w.files (sources_of c) c.types [] n.scan
        → IfSome n.next (λ next. IsBodyOf c.types next.0 next.1) → IsInOrder c.partitioner n.scan n.next → IfSome n.next (λ next. token_of c.partitioner key ≤ token_of c.partitioner next.0) → CanWriteOn u c n
    writes_on pushed file partitioner indexes usable room one pairs last scan of body in_order rising = record {
      file = file ∙ can.file;
      partitioner = partitioner ∙ can.partitioner;
      indexes = indexes ∙ can.indexes;
      usable = usable;
      room = reaches_where w u Same n.pairs.writer.file n.pairs.writer.offset looked (contents_same w u n.pairs.writer.file looked) room;
      scan = scan;
      of_sources = subst (λ (o : Option Folder). IsScanOf o (sources_of c) c.types [] n.scan) (sym (reads_same w u looked)) of;
      in_order = in_order;
      body = body;
      rising = by n.next rising;
      written = (can.written.0 ++ (key, part) ∷ [], pairing_same w u n.pairs _ looked (pushed can.written.0 can.written.1));
      some = λ is. some_pairs o.pairs.writer.pairs one n.pairs.writer.pairs pairs;
    }
      where
        last_is : (last_pair n.pairs.writer.pairs).token ≡ token_of c.partitioner key
        last_is = last ∙ ap (λ (p : Partitioner). token_of p key) can.partitioner

        by : (next : Option (Bytes × Partition)) → IfSome next (λ x. token_of c.partitioner key ≤ token_of c.partitioner x.0) → IfSome next (λ x. (last_pair n.pairs.writer.pairs).token ≤ token_of c.partitioner x.0)
        by None is = tt
        by (Some x) is = subst (λ (t : ℕ). t ≤ token_of c.partitioner x.0) (sym last_is) is

-- ---- the partition that is looked ahead is taken out

module _ (v : View) (c : Compaction) (o : Output) (n : Option (Bytes × Partition)) (same : o.next ≡ n) where
  pub can_as : CanWriteOn v c o → CanWriteOn v c (output_of o.scan o.pairs n)
  can_as can = subst (λ (f : Option (Bytes × Partition)). CanWriteOn v c (output_of o.scan o.pairs f)) same can

  pub written_as : (passed left : Entries) → HasWritten v c o passed left → HasWritten v c (output_of o.scan o.pairs n) passed left
  written_as passed left is = subst (λ (f : Option (Bytes × Partition)). HasWritten v c (output_of o.scan o.pairs f) passed left) same is

  -- where there is none, none is left
  pub passes_none : n ≡ None → (passed left : Entries) → HasWritten v c o passed left → PassesNext v c (output_of o.scan o.pairs n) passed left false
  passes_none none passed left is =
      let gives : GivesFirst v.files c.partitioner [] left o.scan None = subst (λ (f : Option (Bytes × Partition)). GivesFirst v.files c.partitioner [] left o.scan f) (same ∙ none) is.ahead in (
        gives.0,
        record {
          written = is.written;
          ahead = subst (λ (f : Option (Bytes × Partition)). GivesFirst v.files c.partitioner [] [] o.scan f) (sym none) (refl, gives.1);
        },
      )

-- an output that can be written on is there
pub output_there : (v : View) (c : Compaction) (o n : Output) → n.pairs ≡ o.pairs → CanWriteOn v c o → HasOutput v c.number n
output_there v c o n same can = subst (λ (pairs : PairView). HasOutput v c.number (output_of n.scan pairs n.next)) (sym same) (record {
  file = can.file;
  there = λ told. (let was = can.room told in subst (λ (bytes : Option Bytes). IsSome bytes) (sym was.1) refl);
})
