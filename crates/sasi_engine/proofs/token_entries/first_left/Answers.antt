use Rattle.sasi_ranges.proofs.Calling.{streams_nothing}
use Rattle.sasi_engine.proofs.token_entries.first_left.Goals as goal

pub returns-in-Some-clause-read : goal.returns-in-Some-clause-read
returns-in-Some-clause-read g c = streams_nothing _ _ (g.S.TokenStream.opens c.args.hits.now) (g.H.Host.view c.args.host.now) c.requires.read.agrees
