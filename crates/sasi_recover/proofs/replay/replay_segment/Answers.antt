use Rattle.std.proofs.Common.{Ok, Err, arith, subst, ◌∙◌, ◌+◌}
use Rattle.std.proofs.lemmas.Result.{err_from_is_err_and}
use Rattle.sasi_host.specs.Disk.{Same}
use Rattle.sasi_host.proofs.ChangeLaws.{then_same}
use Rattle.sasi_host.specs.View.{Reaches}
use Rattle.sasi_host.specs.declared.name.FileName.{FileName}
use Rattle.sasi_gated.proofs.CauseLaws.{reading_behind, reading_gives, reading_handed}
use Rattle.sasi_recover.proofs.ReplayingSegment.{begins_replay, once_to_end, once_to_error, reads_next, replayed_next, replays_next, shown_on, no_false_damage_first, no_false_damage_on}
use Rattle.sasi_recover.specs.ReplayState.{seen}
use Rattle.sasi_recover.proofs.replay.replay_segment.Goals as goal

pub returns-in_err-log-clause-undamaged : goal.returns-in_err-log-clause-undamaged
returns-in_err-log-clause-undamaged g c =
    let p = err_from_is_err_and c.from_residual.result c.from_residual.ensures.1 in
    rw (p.1, p.2) (no_false_damage_first (g.H.Host.view c.args.host.now) c.args.listing.now c.args.number c.in_err-log.field-0.0 (g.met.H.Host.sound c.args.host.now) c.in_err-log.ensures.undamaged)

pub merging-init : goal.merging-init
merging-init g c =
    let first = c.in_ok-log.ensures in
    record { tables = c.requires.tables; on = begins_replay (g.H.Host.view c.args.host.now) (g.H.Host.view c.open.new.host) c.args.listing.now c.args.number c.in_ok-log.log (seen c.args.replay.now) c.requires.there first.file first.usable first.changes first.causes.ok first.causes.out first.buffered first.sequential first.header first.mutations }

pub returns-in_err-merge_next-clause-damaged : goal.returns-in_err-merge_next-clause-damaged
returns-in_err-merge_next-clause-damaged g c =
    let p = err_from_is_err_and c.from_residual-in_err-merge_next.result c.from_residual-in_err-merge_next.ensures.1 in
    rw (p.1, p.2) (shown_on (g.H.Host.view c.args.host.now) (g.H.Host.view c.merging.host) c.args.listing.now c.args.number c.merging.log (seen c.args.replay.now) (seen c.merging.replay) c.merging.invariant.on c.in_err-merge_next.field-0.0 c.in_err-merge_next.ensures.damaged)

pub returns-in_err-merge_next-clause-undamaged : goal.returns-in_err-merge_next-clause-undamaged
returns-in_err-merge_next-clause-undamaged g c =
    let p = err_from_is_err_and c.from_residual-in_err-merge_next.result c.from_residual-in_err-merge_next.ensures.1 in
    rw (p.1, p.2) (no_false_damage_on (g.H.Host.view c.args.host.now) (g.H.Host.view c.merging.host) c.args.listing.now c.args.number c.merging.log (seen c.args.replay.now) (seen c.merging.replay) c.merging.invariant.on c.in_err-merge_next.field-0.0 c.in_err-merge_next.ensures.undamaged)

pub returns-in_err-merge_next-clause-changes : goal.returns-in_err-merge_next-clause-changes
returns-in_err-merge_next-clause-changes g c = then_same _ _ _ Same c.merging.invariant.on.same c.merge_next.ensures.changes

pub returns-in_err-merge_next-clause-causes : goal.returns-in_err-merge_next-clause-causes
returns-in_err-merge_next-clause-causes g c =
    let p = err_from_is_err_and c.from_residual-in_err-merge_next.result c.from_residual-in_err-merge_next.ensures.1 in
    let causes = c.in_err-merge_next.ensures.causes in
    rw (p.1, p.2) (reading_handed _ _ c.in_err-merge_next.field-0.0 (reading_behind _ _ _ (Err c.in_err-merge_next.field-0.0) c.merging.invariant.on.disk c.merging.invariant.on.out causes))

pub merging-smaller : goal.merging-smaller
merging-smaller g c =
    let next = c.in_ok-merge_next.ensures.merged in
    omega (arith, next.advances c.if-branch.true, next.fits)

pub merging-preserved : goal.merging-preserved
merging-preserved g c =
    let read = c.in_ok-merge_next.ensures in
    record {
      tables = read.tables;
      on = replays_next (g.H.Host.view c.args.host.now) (g.H.Host.view c.merging.host) c.args.listing.now c.args.number c.merging.log (seen c.args.replay.now) (seen c.merging.replay) c.merging.invariant.on (g.H.Host.view c.merge_next.new.host) c.merge_next.new.log (seen c.merge_next.new.replay) c.in_ok-merge_next.field-0 read.changes read.merged c.if-branch.true read.causes.ok read.causes.out
          c.merge_next.ensures.buffered (read.once c.merging.invariant.on.once.sequential).ok;
    }

pub returns-clause-replayed : goal.returns-clause-replayed
returns-clause-replayed g c =
    let read = c.in_ok-merge_next.ensures in
    replayed_next (g.H.Host.view c.args.host.now) (g.H.Host.view c.merging.host) c.args.listing.now c.args.number c.merging.log (seen c.args.replay.now) (seen c.merging.replay) c.merging.invariant.on (g.H.Host.view c.merge_next.new.host) c.merge_next.new.log (seen c.merge_next.new.replay) c.in_ok-merge_next.field-0 read.changes read.merged c.if-branch.false

pub returns-clause-reads : goal.returns-clause-reads
returns-clause-reads g c =
    let read = c.in_ok-merge_next.ensures in
    reads_next (g.H.Host.view c.args.host.now) (g.H.Host.view c.merging.host) c.args.listing.now c.args.number c.merging.log (seen c.args.replay.now) (seen c.merging.replay) c.merging.invariant.on (g.H.Host.view c.merge_next.new.host) c.merge_next.new.log (seen c.merge_next.new.replay) c.in_ok-merge_next.field-0 read.changes read.merged c.if-branch.false

pub returns-in_err-log-clause-once : goal.returns-in_err-log-clause-once
returns-in_err-log-clause-once g c bytes is = omega (arith, c.open.ensures.reads)

pub returns-in_err-merge_next-clause-once : goal.returns-in_err-merge_next-clause-once
returns-in_err-merge_next-clause-once g c =
    let on = c.merging.invariant.on in
    once_to_error (g.H.Host.view c.args.host.now) (g.H.Host.view c.merging.host) c.args.listing.now c.args.number c.merging.log (seen c.args.replay.now) (seen c.merging.replay) on
    (g.H.Host.view c.merge_next.new.host) (c.merge_next.ensures.once on.once.sequential).no_further

pub returns-clause-once : goal.returns-clause-once
returns-clause-once g c =
    let on = c.merging.invariant.on in
    once_to_end (g.H.Host.view c.args.host.now) (g.H.Host.view c.merging.host) c.args.listing.now c.args.number c.merging.log (seen c.args.replay.now) (seen c.merging.replay) on
    (g.H.Host.view c.merge_next.new.host) c.merge_next.new.log c.in_ok-merge_next.ensures.merged.file (c.in_ok-merge_next.ensures.once on.once.sequential).ok

pub returns-clause-room : goal.returns-clause-room
returns-clause-room g c =
    subst (λ (f : FileName). Reaches (g.H.Host.view c.merge_next.new.host) f (c.merge_next.new.log.at + 1)) (c.in_ok-merge_next.ensures.merged.file ∙ c.merging.invariant.on.file) (c.in_ok-merge_next.ensures.merged.room c.if-branch.false)

pub returns-clause-changes : goal.returns-clause-changes
returns-clause-changes g c = then_same _ _ _ Same c.merging.invariant.on.same c.merge_next.ensures.changes

pub returns-clause-causes : goal.returns-clause-causes
returns-clause-causes g c =
    reading_gives _ _ _ _ (reading_behind _ _ _ (Ok c.in_ok-merge_next.field-0) c.merging.invariant.on.disk c.merging.invariant.on.out c.in_ok-merge_next.ensures.causes)
