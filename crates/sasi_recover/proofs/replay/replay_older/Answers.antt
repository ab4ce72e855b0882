use Rattle.std.proofs.Common.{Err, ◌≡◌, arith, subst}
use Rattle.std.proofs.lemmas.Result.{err_from_is_err_and}
use Rattle.sasi_host.specs.Disk.{Same}
use Rattle.sasi_host.proofs.ChangeLaws.{then_same}
use Rattle.sasi_recover.specs.Replaying.{HasReplayed}
use Rattle.sasi_recover.proofs.ReplayingAll.{live_once, none_replayed, replayed_more, shown_among, no_false_damage_among, still_there}
use Rattle.sasi_gated.proofs.CauseLaws.{reading_behind, reading_handed}
use Rattle.sasi_recover.specs.ReplayState.{seen}
use Rattle.sasi_recover.proofs.replay.replay_older.Goals as goal

pub loop-number-init : goal.loop-number-init
loop-number-init g c = none_replayed (g.H.Host.view c.args.host.now) c.args.listing.now (seen c.args.replay.now) c.requires.start c.requires.tables

pub replay_segment-requires-clause-there : goal.replay_segment-requires-clause-there
replay_segment-requires-clause-there g c =
    still_there (g.H.Host.view c.args.host.now) (g.H.Host.view c.loop-number.host) c.args.listing.now c.loop-number.number (seen c.loop-number.replay) c.loop-number.invariant (omega (arith, c.loop-number-test.true)) c.requires.there

pub returns-in_err-replay_segment-clause-damaged : goal.returns-in_err-replay_segment-clause-damaged
returns-in_err-replay_segment-clause-damaged g c =
    let p = err_from_is_err_and c.from_residual.result c.from_residual.ensures.1 in
    rw (p.1, p.2) (shown_among (g.H.Host.view c.args.host.now) (g.H.Host.view c.loop-number.host) c.args.listing.now c.loop-number.number (seen c.loop-number.replay) c.loop-number.invariant (omega (arith, c.loop-number-test.true)) c.in_err-replay_segment.field-0.0
    c.in_err-replay_segment.ensures.damaged)

pub returns-in_err-replay_segment-clause-undamaged : goal.returns-in_err-replay_segment-clause-undamaged
returns-in_err-replay_segment-clause-undamaged g c =
    let p = err_from_is_err_and c.from_residual.result c.from_residual.ensures.1 in
    rw (p.1, p.2) (no_false_damage_among (g.H.Host.view c.args.host.now) (g.H.Host.view c.loop-number.host) c.args.listing.now c.loop-number.number (seen c.loop-number.replay) c.loop-number.invariant (omega (arith, c.loop-number-test.true)) c.in_err-replay_segment.field-0.0
    c.in_err-replay_segment.ensures.undamaged)

pub returns-in_err-replay_segment-clause-changes : goal.returns-in_err-replay_segment-clause-changes
returns-in_err-replay_segment-clause-changes g c = then_same _ _ _ Same c.loop-number.invariant.same c.replay_segment.ensures.changes

pub returns-in_err-replay_segment-clause-causes : goal.returns-in_err-replay_segment-clause-causes
returns-in_err-replay_segment-clause-causes g c =
    let p = err_from_is_err_and c.from_residual.result c.from_residual.ensures.1 in
    let causes = c.in_err-replay_segment.ensures.causes in
    rw (p.1, p.2) (reading_handed _ _ c.in_err-replay_segment.field-0.0 (reading_behind _ _ _ (Err c.in_err-replay_segment.field-0.0) c.loop-number.invariant.disk c.loop-number.invariant.out causes))

pub returns-in_err-replay_segment-clause-once : goal.returns-in_err-replay_segment-clause-once
returns-in_err-replay_segment-clause-once g c =
    live_once (g.H.Host.view c.args.host.now) (g.H.Host.view c.loop-number.host) c.args.listing.now c.loop-number.number (seen c.loop-number.replay) c.loop-number.invariant (omega (arith, c.loop-number-test.true)) (g.H.Host.view c.replay_segment.new.host)
    c.requires.there c.in_err-replay_segment.ensures.once

pub loop-number-preserved : goal.loop-number-preserved
loop-number-preserved g c =
    let segment = c.in_ok-replay_segment.ensures in
    replayed_more (g.H.Host.view c.args.host.now) (g.H.Host.view c.loop-number.host) c.args.listing.now c.loop-number.number (seen c.loop-number.replay) c.loop-number.invariant (omega (arith, c.loop-number-test.true)) (g.H.Host.view c.replay_segment.new.host) (seen c.replay_segment.new.replay)
    c.in_ok-replay_segment.field-0.at segment.changes segment.replayed segment.causes.ok segment.causes.out segment.once segment.tables segment.reads

pub returns-clause-replayed : goal.returns-clause-replayed
returns-clause-replayed g c =
    let last : c.loop-number.number ≡ c.args.listing.now.last = omega (arith, c.loop-number-test.false, c.loop-number.auto.number, c.requires.live.ordered) in
    subst (λ n. HasReplayed (g.H.Host.view c.args.host.now) (g.H.Host.view c.loop-number.host) c.args.listing.now n (seen c.loop-number.replay)) last c.loop-number.invariant

pub returns-clause-once : goal.returns-clause-once
returns-clause-once g c folder files = omega (arith, c.loop-number.invariant.reads_left folder files c.requires.there)

pub returns-clause-causes : goal.returns-clause-causes
returns-clause-causes g c = record { disk = omega (arith, c.loop-number.invariant.disk); out = c.loop-number.invariant.out; ok = c.loop-number.invariant.disk; failed = tt; memory = tt; damaged = tt }
