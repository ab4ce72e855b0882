use Rattle.std.proofs.Common.{◌∙◌, ap, sym}
use Rattle.sasi_views.specs.Books.{Book, count_in, count_of}
use Rattle.sasi_views.proofs.BookChanges.{get-known}
use Rattle.sasi_views.proofs.view_book.ViewBook.count.Goals as goal

pub returns-in-Some : goal.returns-in-Some
returns-in-Some c =
    ap count_in (c.in-Some.ensures.value ∙ sym (get-known c.self.inside.known.entries c.args.component.now)) ∙ ap (λ (b : Book). count_of b c.args.component.now) c.self.view_is

pub returns-in-None : goal.returns-in-None
returns-in-None c =
    ap count_in (c.in-None.ensures.value ∙ sym (get-known c.self.inside.known.entries c.args.component.now)) ∙ ap (λ (b : Book). count_of b c.args.component.now) c.self.view_is
