use Rattle.std.proofs.Common.{◌≤◌, ◌∙◌, List, Err, Option, Some, map, refl, subst, sym, arith}
use Rattle.std.specs.List.{AllByRecursion}
use Rattle.std.proofs.lemmas.Result.{err_from_is_err_and}
use Rattle.sasi_types.specs.declared.index_def.IndexDef.{IndexDef}
use Rattle.sasi_types.specs.declared.partitioner.Partitioner.{Partitioner}
use Rattle.sasi_types.specs.Token.{token_of}
use Rattle.sasi_host.specs.Disk.{AnyChange, FileChange, Same}
use Rattle.sasi_host.specs.Names.{Folder, data_name}
use Rattle.sasi_host.proofs.ChangeLaws.{then_same}
use Rattle.sasi_host.proofs.ContentLaws.{contents_same, there_where}
use Rattle.sasi_datawrite.specs.Writing.{last_pair}
use Rattle.sasi_pairs.specs.Gathered.{CanIndex, LacksClass}
use Rattle.sasi_scan.specs.Scanning.{MayRead}
use Rattle.sasi_scan.proofs.Costs.{reads_same}
use Rattle.sasi_compact.specs.Tasks.{CompactCauses, output_of, sources_of}
use Rattle.sasi_compact.proofs.Faults.{all_well, damage_as, handed_on, lacking_more, no_damage, of_push, well_before}
use Rattle.sasi_compact.proofs.IndexedCells.{column_cells}
use Rattle.sasi_compact.proofs.Passing.{may_kept, of_kept, passes_one, scan_kept, scanning_kept, writes_on, wrote_output}
use Rattle.sasi_compact.proofs.TaskLaws.{shown_before}
use Rattle.sasi_compact.proofs.output.pass_one.Goals as goal

pub push-requires-clause-body : goal.push-requires-clause-body
push-requires-clause-body g c = c.requires.can.body.has

pub push-requires-clause-rising : goal.push-requires-clause-rising
push-requires-clause-rising g c =
    subst (λ (p : Partitioner). (last_pair c.args.pairs.now.writer.pairs).token ≤ token_of p c.args.one.now.0) (sym c.requires.can.partitioner) c.requires.can.rising

pub push-requires-clause-typed : goal.push-requires-clause-typed
push-requires-clause-typed g c =
    subst (λ (defs : List IndexDef). AllByRecursion (CanIndex c.args.one.now.1) defs) (sym c.requires.can.indexes)
    (column_cells c.args.compaction.now.types c.args.one.now.0 c.args.one.now.1 c.requires.can.body c.args.compaction.now.indexes c.requires.compaction.indexes_on)

-- ---- a write that fails

pub returns-in_err-push-clause-file : goal.returns-in_err-push-clause-file
returns-in_err-push-clause-file g c = c.in_err-push.ensures.file ∙ c.requires.can.file

pub returns-in_err-push-clause-reads : goal.returns-in_err-push-clause-reads
returns-in_err-push-clause-reads g c most may =
    let q = err_from_is_err_and c.from_residual.result c.from_residual.ensures.1 in
    rw q.1 (omega (arith, c.in_err-push.ensures.causes.reads))

pub returns-in_err-push-clause-damaged : goal.returns-in_err-push-clause-damaged
returns-in_err-push-clause-damaged g c =
    let q = err_from_is_err_and c.from_residual.result c.from_residual.ensures.1 in
    rw (q.1, q.2) (no_damage _ c.in_err-push.field-0.0 c.in_err-push.ensures.causes.undamaged)

pub returns-in_err-push-clause-undamaged : goal.returns-in_err-push-clause-undamaged
returns-in_err-push-clause-undamaged g c passed left is =
    let q = err_from_is_err_and c.from_residual.result c.from_residual.ensures.1 in
    rw (q.1, q.2) (no_damage _ c.in_err-push.field-0.0 c.in_err-push.ensures.causes.undamaged)

pub returns-in_err-push-clause-changes : goal.returns-in_err-push-clause-changes
returns-in_err-push-clause-changes g c =
    let view = g.H.Host.view in
    wrote_output (view c.args.host.now) (view c.push.new.host) c.args.compaction.now c.requires.compaction (output_of c.args.scan.now c.args.pairs.now (Some c.args.one.now)) c.requires.can c.push.ensures.changes

pub returns-in_err-push-clause-causes : goal.returns-in_err-push-clause-causes
returns-in_err-push-clause-causes g c =
    let view = g.H.Host.view in
    let kinds = map (λ b. (goal.Analyzer-dyn g (b.vtable, b.value)).kind b.value) c.args.kit.now.objects.items in
    let q = err_from_is_err_and c.from_residual.result c.from_residual.ensures.1 in
    rw (q.1, q.2)
    (subst (λ (defs : List IndexDef). CompactCauses (LacksClass kinds defs) (view c.args.host.now) (view c.push.new.host) (Err c.in_err-push.field-0.0)) c.requires.can.indexes
    (of_push _ (view c.args.host.now) (view c.push.new.host) c.in_err-push.field-0.0 c.in_err-push.ensures.causes))

-- ---- a look ahead that fails

pub next_merged-requires : goal.next_merged-requires
next_merged-requires g c =
    let view = g.H.Host.view in
    let compaction = c.args.compaction.now in
    let wrote = wrote_output (view c.args.host.now) (view c.push.new.host) compaction c.requires.compaction (output_of c.args.scan.now c.args.pairs.now (Some c.args.one.now)) c.requires.can c.push.ensures.changes in
    scan_kept (view c.args.host.now) (view c.push.new.host) compaction c.requires.compaction wrote c.args.scan.now c.requires.can.of_sources c.requires.can.scan

pub returns-in_err-next-clause-file : goal.returns-in_err-next-clause-file
returns-in_err-next-clause-file g c = c.in_ok-push.ensures.file ∙ c.requires.can.file

pub returns-in_err-next-clause-there : goal.returns-in_err-next-clause-there
returns-in_err-next-clause-there g c =
    let view = g.H.Host.view in
    there_where (view c.push.new.host) (view c.next_merged.new.host) Same c.push.new.self.writer.file c.next_merged.ensures.changes (contents_same (view c.push.new.host) (view c.next_merged.new.host) c.push.new.self.writer.file c.next_merged.ensures.changes) c.in_ok-push.ensures.there

pub returns-in_err-next-clause-reads : goal.returns-in_err-next-clause-reads
returns-in_err-next-clause-reads g c most may =
    let view = g.H.Host.view in
    let compaction = c.args.compaction.now in
    let wrote = wrote_output (view c.args.host.now) (view c.push.new.host) compaction c.requires.compaction (output_of c.args.scan.now c.args.pairs.now (Some c.args.one.now)) c.requires.can c.push.ensures.changes in
    let kept = may_kept (view c.args.host.now) (view c.push.new.host) compaction c.requires.compaction wrote c.args.scan.now c.requires.can.of_sources most may in
    let q = err_from_is_err_and c.from_residual-in_err-next.result c.from_residual-in_err-next.ensures.1 in
    rw q.1 (omega (arith, c.in_err-next.ensures.reads compaction.partitioner most kept, c.in_ok-push.ensures.causes.reads))

pub returns-in_err-next-clause-damaged : goal.returns-in_err-next-clause-damaged
returns-in_err-next-clause-damaged g c =
    let view = g.H.Host.view in
    let compaction = c.args.compaction.now in
    let wrote = wrote_output (view c.args.host.now) (view c.push.new.host) compaction c.requires.compaction (output_of c.args.scan.now c.args.pairs.now (Some c.args.one.now)) c.requires.can c.push.ensures.changes in
    let of = of_kept (view c.args.host.now) (view c.push.new.host) compaction c.requires.compaction wrote c.args.scan.now c.requires.can.of_sources in
    let q = err_from_is_err_and c.from_residual-in_err-next.result c.from_residual-in_err-next.ensures.1 in
    rw (q.1, q.2)
    (damage_as _ _ c.in_err-next.field-0.0 (λ damage shows. shown_before (view c.args.host.now) (view c.push.new.host) AnyChange compaction c.requires.compaction wrote damage shows)
    (c.in_err-next.ensures.damaged (sources_of compaction) compaction.types of))

pub returns-in_err-next-clause-undamaged : goal.returns-in_err-next-clause-undamaged
returns-in_err-next-clause-undamaged g c passed left is =
    let view = g.H.Host.view in
    let compaction = c.args.compaction.now in
    let wrote = wrote_output (view c.args.host.now) (view c.push.new.host) compaction c.requires.compaction (output_of c.args.scan.now c.args.pairs.now (Some c.args.one.now)) c.requires.can c.push.ensures.changes in
    let q = err_from_is_err_and c.from_residual-in_err-next.result c.from_residual-in_err-next.ensures.1 in
    rw (q.1, q.2)
    (c.in_err-next.ensures.undamaged compaction.partitioner is.ahead.rest (scanning_kept (view c.args.host.now) (view c.push.new.host) compaction c.requires.compaction wrote c.args.scan.now c.requires.can.of_sources is.ahead.rest is.ahead.others))

pub returns-in_err-next-clause-changes : goal.returns-in_err-next-clause-changes
returns-in_err-next-clause-changes g c =
    let view = g.H.Host.view in
    let wrote = wrote_output (view c.args.host.now) (view c.push.new.host) c.args.compaction.now c.requires.compaction (output_of c.args.scan.now c.args.pairs.now (Some c.args.one.now)) c.requires.can c.push.ensures.changes in
    then_same (view c.args.host.now) (view c.push.new.host) (view c.next_merged.new.host) (FileChange (data_name c.args.compaction.now.number) AnyChange) wrote c.next_merged.ensures.changes

pub returns-in_err-next-clause-causes : goal.returns-in_err-next-clause-causes
returns-in_err-next-clause-causes g c =
    let view = g.H.Host.view in
    let q = err_from_is_err_and c.from_residual-in_err-next.result c.from_residual-in_err-next.ensures.1 in
    rw (q.1, q.2)
    (well_before _ (view c.args.host.now) (view c.push.new.host) (view c.next_merged.new.host) (Err c.in_err-next.field-0.0) c.in_ok-push.ensures.causes.ok c.in_ok-push.ensures.causes.out
    (lacking_more (λ _. ⊥) _ (view c.push.new.host) (view c.next_merged.new.host) (Err c.in_err-next.field-0.0) (λ class lacks. absurd lacks) (handed_on _ (view c.push.new.host) (view c.next_merged.new.host) c.in_err-next.field-0.0 c.in_err-next.ensures.causes)))

-- ---- a partition that is passed

pub returns-clause-passes : goal.returns-clause-passes
returns-clause-passes g c =
    let view = g.H.Host.view in
    passes_one (view c.args.host.now) (view c.push.new.host) c.args.compaction.now c.requires.compaction (output_of c.args.scan.now c.args.pairs.now (Some c.args.one.now)) c.requires.can c.push.ensures.changes
    (view c.next_merged.new.host) (output_of c.next_merged.new.scan c.push.new.self c.in_ok-next.next) c.args.one.now.0 c.args.one.now.1 refl c.next_merged.ensures.changes c.in_ok-push.ensures.ok (λ p left on. c.in_ok-next.ensures.next p left on)

pub returns-clause-can : goal.returns-clause-can
returns-clause-can g c =
    let view = g.H.Host.view in
    let compaction = c.args.compaction.now in
    let wrote = wrote_output (view c.args.host.now) (view c.push.new.host) compaction c.requires.compaction (output_of c.args.scan.now c.args.pairs.now (Some c.args.one.now)) c.requires.can c.push.ensures.changes in
    let of = of_kept (view c.args.host.now) (view c.push.new.host) compaction c.requires.compaction wrote c.args.scan.now c.requires.can.of_sources in
    let pushed = c.in_ok-push.ensures in
    let in_order = c.requires.can.in_order in
    writes_on (view c.args.host.now) (view c.push.new.host) compaction c.requires.compaction (output_of c.args.scan.now c.args.pairs.now (Some c.args.one.now)) c.requires.can c.push.ensures.changes
    (view c.next_merged.new.host) (output_of c.next_merged.new.scan c.push.new.self c.in_ok-next.next) c.args.one.now.0 c.args.one.now.1 refl c.next_merged.ensures.changes pushed.ok pushed.file pushed.partitioner pushed.defs pushed.usable pushed.room
    (record { token = token_of c.args.pairs.now.writer.partitioner c.args.one.now.0; place = c.args.pairs.now.writer.offset }) pushed.pairs pushed.last c.in_ok-next.ensures.can (c.in_ok-next.ensures.is_of (sources_of compaction) compaction.types of)
    (c.in_ok-next.ensures.body (sources_of compaction) compaction.types c.requires.compaction.narrow of) (c.in_ok-next.ensures.in_order compaction.partitioner in_order.under)
    (c.in_ok-next.ensures.rising compaction.partitioner c.args.one.now.0 in_order.under in_order.ahead)

pub returns-clause-file : goal.returns-clause-file
returns-clause-file g c = c.in_ok-push.ensures.file ∙ c.requires.can.file

pub returns-clause-there : goal.returns-clause-there
returns-clause-there g c =
    let view = g.H.Host.view in
    there_where (view c.push.new.host) (view c.next_merged.new.host) Same c.push.new.self.writer.file c.next_merged.ensures.changes (contents_same (view c.push.new.host) (view c.next_merged.new.host) c.push.new.self.writer.file c.next_merged.ensures.changes) c.in_ok-push.ensures.there

pub returns-clause-reads : goal.returns-clause-reads
returns-clause-reads g c most may =
    let view = g.H.Host.view in
    let compaction = c.args.compaction.now in
    let wrote = wrote_output (view c.args.host.now) (view c.push.new.host) compaction c.requires.compaction (output_of c.args.scan.now c.args.pairs.now (Some c.args.one.now)) c.requires.can c.push.ensures.changes in
    let kept = may_kept (view c.args.host.now) (view c.push.new.host) compaction c.requires.compaction wrote c.args.scan.now c.requires.can.of_sources most may in
    let has = c.in_ok-next.ensures.reads compaction.partitioner most kept in
    record {
      left = has.left;
      may = subst (λ (o : Option Folder). MayRead o compaction.partitioner c.next_merged.new.scan has.left) (sym (reads_same (view c.push.new.host) (view c.next_merged.new.host) c.next_merged.ensures.changes)) has.may;
      reads = omega (arith, has.reads, c.in_ok-push.ensures.causes.reads);
    }

pub returns-clause-changes : goal.returns-clause-changes
returns-clause-changes g c =
    let view = g.H.Host.view in
    let wrote = wrote_output (view c.args.host.now) (view c.push.new.host) c.args.compaction.now c.requires.compaction (output_of c.args.scan.now c.args.pairs.now (Some c.args.one.now)) c.requires.can c.push.ensures.changes in
    then_same (view c.args.host.now) (view c.push.new.host) (view c.next_merged.new.host) (FileChange (data_name c.args.compaction.now.number) AnyChange) wrote c.next_merged.ensures.changes

pub returns-clause-causes : goal.returns-clause-causes
returns-clause-causes g c =
    let view = g.H.Host.view in
    all_well _ (view c.args.host.now) (view c.next_merged.new.host) c.in_ok-next.next (c.in_ok-next.ensures.causes.ok ∙ c.in_ok-push.ensures.causes.ok) (c.in_ok-next.ensures.causes.out ∙ c.in_ok-push.ensures.causes.out)
