use Rattle.sasi_memindex.proofs.Parts.{removed_is}
use Rattle.sasi_memindex.proofs.map_book.remove_from.Goals as goal

pub returns : goal.returns
returns c = removed_is c.args.parts.now.entries c.remove.new.self.entries c.args.number c.remove.ensures.updates.0
