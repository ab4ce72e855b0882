use Rattle.sasi_ranges.proofs.Calling.{streams_nothing}
use Rattle.sasi_ranges.proofs.list_stream.ListStreamTokenStream.next.Goals as goal

pub returns-clause-read : goal.returns-clause-read
returns-clause-read g c = streams_nothing _ _ _ (g.H.Host.view c.args.host.now) c.requires.read.agrees
