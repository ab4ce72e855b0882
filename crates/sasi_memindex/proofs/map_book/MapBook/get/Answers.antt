use Rattle.std.proofs.Common.{sym, ap, ◌∙◌}
use Rattle.std.specs.FinMap as fin
use Rattle.sasi_memindex.specs.Book.{Book}
use Rattle.sasi_memindex.proofs.Parts.{get-parts}
use Rattle.sasi_memindex.proofs.map_book.MapBook.get.Goals as goal

pub returns : goal.returns
returns c = c.get.ensures.value ∙ sym (get-parts c.self.inside.parts.entries c.args.number) ∙ ap (λ (b : Book). fin.get b c.args.number) c.self.view_is
