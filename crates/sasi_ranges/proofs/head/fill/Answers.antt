use Rattle.sasi_ranges.proofs.Calling.{streams_nothing}
use Rattle.sasi_ranges.proofs.head.fill.Goals as goal

pub returns-in-At-clause-read : goal.returns-in-At-clause-read
returns-in-At-clause-read g c = streams_nothing _ _ _ (g.H.Host.view c.args.host.now) c.requires.read.agrees

pub returns-in-Ended-clause-read : goal.returns-in-Ended-clause-read
returns-in-Ended-clause-read g c = streams_nothing _ _ _ (g.H.Host.view c.args.host.now) c.requires.read.agrees
