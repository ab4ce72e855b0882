use Rattle.std.proofs.Common.{List, subst, sym}
use Rattle.std.proofs.lemmas.Result.{IfOk-weaker}
use Rattle.sasi_host.specs.declared.name.FileName.{FileName}
use Rattle.sasi_views.specs.Books.{Book}
use Rattle.sasi_views.specs.Changes.{AreObsolete}
use Rattle.sasi_views.proofs.BookChanges.{book}
use Rattle.sasi_views.proofs.Listing.{obsolete_is}
use Rattle.sasi_views.proofs.view_book.ViewBook.obsolete.Goals as goal

pub returns : goal.returns
returns c =
    let entries = c.self.inside.known.entries in
    IfOk-weaker c.obsolete_files.result _ _
    (λ files is. subst (λ (b : Book). AreObsolete b files) c.self.view_is
    (subst (λ (l : List FileName). AreObsolete (book entries c.self.inside.out) l) (sym is) (obsolete_is entries c.self.inside.out c.obsolete_files.ensures.rise))) c.obsolete_files.ensures.files
