use Rattle.sasi_ranges.proofs.Calling.{streams_nothing}
use Rattle.sasi_recheck.proofs.optional_source.OptionCandidates.next.Goals as goal

pub returns-in-None-clause-read : goal.returns-in-None-clause-read
returns-in-None-clause-read g c = streams_nothing _ _ _ (g.H.Host.view c.args.host.now) c.requires.read.agrees
