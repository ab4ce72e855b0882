use Rattle.std.proofs.Common.{arith, refl}
use Rattle.std.proofs.lemmas.Result.{err_from_is_err_and}
use Rattle.sasi_host.specs.Disk.{Same}
use Rattle.sasi_host.proofs.ChangeLaws.{stays, then_same}
use Rattle.sasi_recover.proofs.ReplayingAll.{live_once, read_all, replayed_all, shown_among, no_false_damage_among}
use Rattle.sasi_recover.specs.ReplayState.{seen}
use Rattle.sasi_recover.proofs.replay.replay.Goals as goal

pub returns-in_err-types-clause-changes : goal.returns-in_err-types-clause-changes
returns-in_err-types-clause-changes g c = stays (g.H.Host.view c.args.host.now)

pub returns-in_err-replay-clause-changes : goal.returns-in_err-replay-clause-changes
returns-in_err-replay-clause-changes g c = stays (g.H.Host.view c.args.host.now)

pub returns-in_err-log-clause-damaged : goal.returns-in_err-log-clause-damaged
returns-in_err-log-clause-damaged g c =
    let p = err_from_is_err_and c.from_residual-in_err-log.result c.from_residual-in_err-log.ensures.1 in
    rw (p.1, p.2) (shown_among (g.H.Host.view c.args.host.now) (g.H.Host.view c.replay_older.new.host) c.args.listing.now c.args.listing.now.last (seen c.replay_older.new.replay) c.in_ok-replay_older.ensures.replayed (omega arith) c.in_err-log.field-0.0 c.in_err-log.ensures.damaged)

pub returns-in_err-log-clause-undamaged : goal.returns-in_err-log-clause-undamaged
returns-in_err-log-clause-undamaged g c =
    let p = err_from_is_err_and c.from_residual-in_err-log.result c.from_residual-in_err-log.ensures.1 in
    rw (p.1, p.2) (no_false_damage_among (g.H.Host.view c.args.host.now) (g.H.Host.view c.replay_older.new.host) c.args.listing.now c.args.listing.now.last (seen c.replay_older.new.replay) c.in_ok-replay_older.ensures.replayed (omega arith) c.in_err-log.field-0.0 c.in_err-log.ensures.undamaged)

pub returns-in_err-log-clause-changes : goal.returns-in_err-log-clause-changes
returns-in_err-log-clause-changes g c = then_same _ _ _ Same c.in_ok-replay_older.ensures.replayed.same c.replay_segment.ensures.changes

pub returns-clause-replayed : goal.returns-clause-replayed
returns-clause-replayed g c =
    replayed_all (g.H.Host.view c.args.host.now) (g.H.Host.view c.replay_older.new.host) c.args.listing.now c.args.listing.now.last (seen c.replay_older.new.replay) c.in_ok-replay_older.ensures.replayed (omega arith) (g.H.Host.view c.replay_segment.new.host) (seen c.replay_segment.new.replay) c.in_ok-log.log.at
    c.in_ok-log.ensures.changes c.in_ok-log.ensures.replayed refl

pub returns-clause-reads : goal.returns-clause-reads
returns-clause-reads g c =
    read_all (g.H.Host.view c.args.host.now) (g.H.Host.view c.replay_older.new.host) c.args.listing.now c.args.listing.now.last (seen c.replay_older.new.replay) c.in_ok-replay_older.ensures.replayed (omega arith) (seen c.replay_segment.new.replay) c.in_ok-log.ensures.reads refl c.requires.there

pub returns-in_err-types-clause-once : goal.returns-in_err-types-clause-once
returns-in_err-types-clause-once g c folder files = omega arith

pub returns-in_err-replay-clause-once : goal.returns-in_err-replay-clause-once
returns-in_err-replay-clause-once g c folder files = omega arith

pub returns-in_err-log-clause-once : goal.returns-in_err-log-clause-once
returns-in_err-log-clause-once g c =
    live_once (g.H.Host.view c.args.host.now) (g.H.Host.view c.replay_older.new.host) c.args.listing.now c.args.listing.now.last (seen c.replay_older.new.replay) c.in_ok-replay_older.ensures.replayed (omega arith) (g.H.Host.view c.replay_segment.new.host)
    c.requires.there c.replay_segment.ensures.once

pub returns-clause-once : goal.returns-clause-once
returns-clause-once g c =
    live_once (g.H.Host.view c.args.host.now) (g.H.Host.view c.replay_older.new.host) c.args.listing.now c.args.listing.now.last (seen c.replay_older.new.replay) c.in_ok-replay_older.ensures.replayed (omega arith) (g.H.Host.view c.replay_segment.new.host)
    c.requires.there c.replay_segment.ensures.once

pub returns-clause-changes : goal.returns-clause-changes
returns-clause-changes g c = then_same _ _ _ Same c.in_ok-replay_older.ensures.replayed.same c.replay_segment.ensures.changes
