use Rattle.std.proofs.Common.{◌≤◌, ◌≡◌, ◌-◌, List, arith, sym, ap, subst, ◌∙◌}
use Rattle.sasi_views.specs.declared.component.Component.{Component}
use Rattle.sasi_views.specs.Books.{Book, count_in}
use Rattle.sasi_views.specs.Changes.{Given}
use Rattle.sasi_views.specs.Components.{lists}
use Rattle.sasi_views.specs.inside.Steps.{each, lowered}
use Rattle.sasi_views.specs.Parts.{components_of}
use Rattle.sasi_views.proofs.BookChanges.{at_entry, book, counted_in, given_is}
use Rattle.sasi_views.proofs.DeadBounds.{from_noted, given_rest}
use Rattle.sasi_views.proofs.view_book.ViewBook.give.Goals as goal

pub lower_all-requires : goal.lower_all-requires
lower_all-requires c =
    subst (λ (l : List Component). (k : Component) → lists k l ≤ count_in (at_entry c.self.inside.known.entries k)) (sym c.components.ensures)
    (counted_in c.self.inside.known.entries c.self.inside.out c.args.self.now (components_of c.args.view) c.self.view_is c.requires.counted)

pub overflow_sub-self : goal.overflow_sub-self
overflow_sub-self c = omega (arith, c.requires.out, ap (λ (b : Book). b.out) c.self.view_is)

pub returns : goal.returns
returns c =
    let old = c.self.inside.known.entries in
    let new = c.lower_all.new.known.entries in
    let out = c.self.inside.out in
    let some : 1 ≤ out = omega (arith, c.requires.out, ap (λ (b : Book). b.out) c.self.view_is) in
    subst (λ (b : Book). Given b (book new (out - 1)) (components_of c.args.view)) c.self.view_is
    (given_is old new out (out - 1) (components_of c.args.view)
    (counted_in old out c.args.self.now (components_of c.args.view) c.self.view_is c.requires.counted)
    (subst (λ (l : List Component). (k : Component) → at_entry new k ≡ each lowered l k (at_entry old k)) c.components.ensures c.lower_all.ensures) (omega (arith, some)))

pub invariant_of-self : goal.invariant_of-self
invariant_of-self c =
    let old = c.self.inside.known in
    let new = c.lower_all.new.known in
    from_noted c.self.inside.dead_from c.note_dead.new.from old new c.components-2.result.now c.note_dead.ensures.kept c.note_dead.ensures.noted c.self.invariant
    (given_rest old new c.components-2.result.now
    (subst (λ (l : List Component). (k : Component) → at_entry new.entries k ≡ each lowered l k (at_entry old.entries k)) (c.components.ensures ∙ sym c.components-2.ensures) c.lower_all.ensures))
