use Rattle.std.proofs.Common.{inl}
use Rattle.sasi_host.proofs.ChangeLaws.{stays}
use Rattle.sasi_indexread.proofs.collect.add_entry.Goals as goal

pub returns-then-not-is_match-clause-read : goal.returns-then-not-is_match-clause-read
returns-then-not-is_match-clause-read g c = record { agrees = c.requires.read.agrees; covers = λ name at. inl at; changes = stays (g.H.Host.view c.args.host.now) }
