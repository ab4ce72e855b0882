use Rattle.sasi_recover.proofs.ReplayingTables.{is_replayed_nothing, is_replayed_there}
use Rattle.sasi_recover.proofs.replay.is_replayed.Goals as goal

pub returns-in-Some : goal.returns-in-Some
returns-in-Some c = is_replayed_there c.args.tables.now c.args.segment c.args.number c.in-Some.listed.now c.if-number-eq0.false c.in-Some.ensures.lookup.0 c.in-Some.ensures.lookup.1

pub returns-in-None : goal.returns-in-None
returns-in-None c = is_replayed_nothing c.args.tables.now c.args.segment c.args.number c.if-number-eq0.false c.in-None.ensures.lookup.0
