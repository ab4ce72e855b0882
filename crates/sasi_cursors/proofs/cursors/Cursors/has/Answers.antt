use Rattle.std.proofs.Common.{◌∙◌}
use Rattle.sasi_cursors.proofs.Seen.{open_seen}
use Rattle.sasi_cursors.proofs.cursors.Cursors.has.Goals as goal

pub returns-clause-found : goal.returns-clause-found
returns-clause-found g c = rw (← c.self.view_is, ← c.bytes.ensures) (c.contains_key.ensures ∙ open_seen c.bytes.result.now c.self.inside.by_name.entries)
