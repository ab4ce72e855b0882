use Rattle.std.proofs.Common.{◌∙◌, ap, map, sym}
use Rattle.sasi_cursors.specs.Cursors.{entry_of}
use Rattle.sasi_cursors.proofs.Seen.{lookup_seen, once_seen, removed_seen}
use Rattle.sasi_cursors.proofs.cursors.Cursors.remove.Goals as goal

pub invariant_of-self : goal.invariant_of-self
invariant_of-self g c = once_seen c.take_out.new.by_name.entries c.take_out.ensures.unique

pub returns-clause-closed : goal.returns-clause-closed
returns-clause-closed g c = rw (← c.self.view_is) (c.take_out.ensures.taken ∙ sym (lookup_seen c.args.name.now c.self.inside.by_name.entries))

pub returns-clause-rest : goal.returns-clause-rest
returns-clause-rest g c = rw (← c.self.view_is) (ap (map entry_of) c.take_out.ensures.others ∙ removed_seen c.args.name.now c.self.inside.by_name.entries)
