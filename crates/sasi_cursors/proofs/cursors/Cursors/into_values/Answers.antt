use Rattle.std.proofs.Common.{◌∙◌, sym}
use Rattle.sasi_cursors.proofs.Seen.{values_seen}
use Rattle.sasi_cursors.proofs.cursors.Cursors.into_values.Goals as goal

pub returns-clause-rest : goal.returns-clause-rest
returns-clause-rest g c = rw (← c.self.view_is) (c.into_values.ensures.rest ∙ sym (values_seen c.self.inside.by_name.entries))
