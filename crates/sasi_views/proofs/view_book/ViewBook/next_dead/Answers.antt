use Rattle.std.proofs.Common.{subst}
use Rattle.sasi_views.specs.Books.{Book}
use Rattle.sasi_views.specs.Changes.{Forgot, HasNoneDead}
use Rattle.sasi_views.proofs.BookChanges.{book, forgot_is, none_dead_is}
use Rattle.sasi_views.proofs.DeadBounds.{from_forgot}
use Rattle.sasi_views.proofs.view_book.ViewBook.next_dead.Goals as goal

pub returns-in_default-clause-none : goal.returns-in_default-clause-none
returns-in_default-clause-none c = (subst HasNoneDead c.self.view_is (none_dead_is c.self.inside.known.entries c.self.inside.out c.in_default.ensures.none), c.self.view_is)

pub invariant_of-self-2 : goal.invariant_of-self-2
invariant_of-self-2 c = from_forgot c.in-Some.gone c.self.inside.known c.forget.new.known c.forget.ensures c.in-Some.ensures.least

pub returns-clause-some : goal.returns-clause-some
returns-clause-some c =
    let old = c.self.inside.known.entries in
    let new = c.forget.new.known.entries in
    let out = c.self.inside.out in
    subst (λ (b : Book). Forgot b (book new out) c.in-Some.gone) c.self.view_is (forgot_is old new out c.in-Some.gone c.in-Some.ensures.dead c.in-Some.ensures.least c.forget.ensures)
