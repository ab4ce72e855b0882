use Rattle.std.proofs.Common.{◌∙◌, ap, map}
use Rattle.sasi_cursors.specs.Cursors.{entry_of}
use Rattle.sasi_cursors.proofs.Seen.{inserted_seen, once_seen}
use Rattle.sasi_cursors.proofs.cursors.Cursors.insert.Goals as goal

pub returns-in-Ok-insert-clause-opened : goal.returns-in-Ok-insert-clause-opened
returns-in-Ok-insert-clause-opened g c =
    let entries = c.self.inside.by_name.entries in
    rw (← c.self.view_is, ← c.in-Ok.ensures)
    (ap (map entry_of) c.in-Ok-insert.ensures.entries
    ∙ inserted_seen entries c.in-Ok.bytes c.args.cursor (rw (c.in-Ok.ensures, c.self.view_is) c.requires))

pub invariant_of-self : goal.invariant_of-self
invariant_of-self g c = once_seen c.insert.new.self.entries c.insert.ensures.unique
