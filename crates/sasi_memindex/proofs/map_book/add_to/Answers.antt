use Rattle.sasi_memindex.proofs.Parts.{added_is}
use Rattle.sasi_memindex.proofs.map_book.add_to.Goals as goal

pub returns-clause-ok : goal.returns-clause-ok
returns-clause-ok c = added_is c.args.parts.now.entries c.insert.new.self.entries c.args.number c.args.part c.in_ok-insert.ensures.updates.0
