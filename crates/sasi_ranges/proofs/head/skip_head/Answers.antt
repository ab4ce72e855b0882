use Rattle.sasi_ranges.proofs.Calling.{streams_nothing}
use Rattle.sasi_ranges.proofs.head.skip_head.Goals as goal

pub returns-else-entry-token-clause-read : goal.returns-else-entry-token-clause-read
returns-else-entry-token-clause-read g c = streams_nothing _ _ _ (g.H.Host.view c.args.host.now) c.requires.read.agrees

pub returns-in-Ended-clause-read : goal.returns-in-Ended-clause-read
returns-in-Ended-clause-read g c = streams_nothing _ _ _ (g.H.Host.view c.args.host.now) c.requires.read.agrees
