use Rattle.sasi_indexwrite.proofs.Appends.{reaches_end, touches_same}
use Rattle.sasi_indexwrite.proofs.trailer.end_of.Goals as goal

pub returns-in_err-at-clause-changes : goal.returns-in_err-at-clause-changes
returns-in_err-at-clause-changes g c = touches_same _ _ c.args.file c.size.ensures.changes

pub returns-clause-changes : goal.returns-clause-changes
returns-clause-changes g c = touches_same _ _ c.args.file c.size.ensures.changes

pub returns-clause-room : goal.returns-clause-room
returns-clause-room g c = reaches_end _ _ c.args.file c.in_ok-at.at c.size.ensures.changes c.requires c.in_ok-at.ensures.ok

pub returns-clause-at : goal.returns-clause-at
returns-clause-at g c bytes holds told = c.in_ok-at.ensures.ok bytes (holds told)
