use Rattle.std.proofs.Common.{Err, arith, refl, sym, take, ◌+◌, ◌∙◌}
use Rattle.std.proofs.lemmas.List.{take_all}
use Rattle.std.proofs.lemmas.List.Elements.{All-more, All-same, All-weaker}
use Rattle.std.proofs.lemmas.Result.{err_from_is_err_and}
use Rattle.sasi_host.specs.Disk.{IsSynced, Same}
use Rattle.sasi_host.proofs.ChangeLaws.{stays, then_same}
use Rattle.sasi_gated.proofs.CauseLaws.{reading_behind, reading_handed}
use Rattle.sasi_recover.specs.FileEnds.{HasEnd}
use Rattle.sasi_recover.proofs.EndLaws.{end_before, end_damage, largest_all, largest_next, largest_none, no_false_end, reads_more, reads_within, time_before}
use Rattle.sasi_recover.proofs.SyncedFolder.{synced_same, there_same}
use Rattle.sasi_recover.proofs.file_ends.read_ends.Goals as goal

pub loop-file-init : goal.loop-file-init
loop-file-init g c = record {
  same = stays (g.H.Host.view c.args.host.now);
  ends = λ k d below. absurd (omega (arith, below));
  synced = λ k d below. absurd (omega (arith, below));
  time = largest_none (g.H.Host.view c.args.host.now);
  disk = refl;
  out = refl;
  reads = omega arith;
}

pub read_end-requires-clause-there : goal.read_end-requires-clause-there
read_end-requires-clause-there g c = there_same (g.H.Host.view c.args.host.now) (g.H.Host.view c.loop-file.host) c.loop-file.invariant.same _ (c.requires.there c.loop-file.file-index _ c.loop-file-test.true)

pub read_end-requires-clause-table : goal.read_end-requires-clause-table
read_end-requires-clause-table g c = c.requires.tables c.loop-file.file-index _ c.loop-file-test.true

pub returns-in_err-time-clause-damaged : goal.returns-in_err-time-clause-damaged
returns-in_err-time-clause-damaged g c =
    let p = err_from_is_err_and c.from_residual.result c.from_residual.ensures.1 in
    rw (p.1, p.2) (end_damage (g.H.Host.view c.args.host.now) (g.H.Host.view c.loop-file.host) c.loop-file.invariant.same c.args.files.now c.loop-file.file-index _ c.in_err-time.field-0.0 c.loop-file-test.true c.in_err-time.ensures.damaged)

pub returns-in_err-time-clause-undamaged : goal.returns-in_err-time-clause-undamaged
returns-in_err-time-clause-undamaged g c =
    let p = err_from_is_err_and c.from_residual.result c.from_residual.ensures.1 in
    rw (p.1, p.2) (no_false_end (g.H.Host.view c.args.host.now) (g.H.Host.view c.loop-file.host) c.loop-file.invariant.same c.args.files.now c.loop-file.file-index _ c.in_err-time.field-0.0 c.loop-file-test.true c.in_err-time.ensures.undamaged)

pub returns-in_err-time-clause-changes : goal.returns-in_err-time-clause-changes
returns-in_err-time-clause-changes g c = then_same _ _ _ Same c.loop-file.invariant.same c.read_end.ensures.changes

pub returns-in_err-time-clause-reads : goal.returns-in_err-time-clause-reads
returns-in_err-time-clause-reads g c =
    let more = reads_more c.args.files.now c.loop-file.file-index _ _ _ _ c.loop-file-test.true c.loop-file.invariant.reads c.read_end.ensures.reads in
    omega (arith, more, reads_within c.args.files.now (c.loop-file.file-index + 1))

pub returns-in_err-time-clause-causes : goal.returns-in_err-time-clause-causes
returns-in_err-time-clause-causes g c =
    let p = err_from_is_err_and c.from_residual.result c.from_residual.ensures.1 in
    let causes = c.in_err-time.ensures.causes in
    rw (p.1, p.2) (reading_handed _ _ c.in_err-time.field-0.0 (reading_behind _ _ _ (Err c.in_err-time.field-0.0) c.loop-file.invariant.disk c.loop-file.invariant.out causes))

pub loop-file-preserved : goal.loop-file-preserved
loop-file-preserved g c =
    let a = g.H.Host.view c.args.host.now in
    let b = g.H.Host.view c.loop-file.host in
    let now = g.H.Host.view c.read_end.new.host in
    let on = c.loop-file.invariant in
    let end = c.in_ok-time.ensures in
    record {
      same = then_same a b now Same on.same c.read_end.ensures.changes;
      ends = All-more (HasEnd a) c.args.files.now c.loop-file.file-index _ c.loop-file-test.true on.ends (end_before a b on.same _ end.ends);
      synced = All-more (IsSynced now) c.args.files.now c.loop-file.file-index _ c.loop-file-test.true
          (All-weaker (IsSynced b) (IsSynced now) (λ name. synced_same b now c.read_end.ensures.changes name) (take c.loop-file.file-index c.args.files.now) on.synced) end.synced;
      time = largest_next a c.args.files.now c.loop-file.file-index _ c.loop-file.largest c.in_ok-time.time c.max-largest.result c.loop-file-test.true on.time (time_before a b on.same _ c.in_ok-time.time end.time) c.max-largest.ensures;
      disk = end.causes.ok ∙ on.disk;
      out = end.causes.out ∙ on.out;
      reads = reads_more c.args.files.now c.loop-file.file-index _ _ _ _ c.loop-file-test.true on.reads end.reads;
    }

pub returns-clause-ends : goal.returns-clause-ends
returns-clause-ends g c = All-same (HasEnd (g.H.Host.view c.args.host.now)) c.args.files.now _ (sym (take_all c.loop-file.file-index c.args.files.now c.loop-file-test.false)) c.loop-file.invariant.ends

pub returns-clause-synced : goal.returns-clause-synced
returns-clause-synced g c = All-same (IsSynced (g.H.Host.view c.loop-file.host)) c.args.files.now _ (sym (take_all c.loop-file.file-index c.args.files.now c.loop-file-test.false)) c.loop-file.invariant.synced

pub returns-clause-time : goal.returns-clause-time
returns-clause-time g c = largest_all (g.H.Host.view c.args.host.now) c.args.files.now c.loop-file.file-index c.loop-file.largest c.loop-file-test.false c.loop-file.invariant.time

pub returns-clause-reads : goal.returns-clause-reads
returns-clause-reads g c = omega (arith, c.loop-file.invariant.reads, reads_within c.args.files.now c.loop-file.file-index)
