use Rattle.std.proofs.Common.{◌≡◌, ◌∙◌, List, true, false, sym, ap, subst}
use Rattle.sasi_views.specs.declared.component.Component.{Component}
use Rattle.sasi_views.specs.Books.{Book}
use Rattle.sasi_views.specs.Changes.{Replaced}
use Rattle.sasi_views.specs.inside.Steps.{each, learnt, marked}
use Rattle.sasi_views.specs.Parts.{components_of}
use Rattle.sasi_views.proofs.BookChanges.{at_entry, book, replaced_is, same_book}
use Rattle.sasi_views.proofs.DeadBounds.{from_noted, replaced_rest}
use Rattle.sasi_views.proofs.StepLaws.{always_err}
use Rattle.sasi_views.proofs.view_book.ViewBook.replace.Goals as goal

pub returns-clause-ok : goal.returns-clause-ok
returns-clause-ok c =
    let old = c.self.inside.known.entries in
    let new = c.replace_all.new.known.entries in
    let out = c.self.inside.out in
    subst (λ (b : Book). Replaced b (book new out) (components_of c.args.old.now) (components_of c.args.new)) c.self.view_is
    (subst (λ (l : List Component). Replaced (book old out) (book new out) l (components_of c.args.new)) (c.deref.ensures.value ∙ c.in_ok-removed.ensures ∙ ap components_of c.as_slice.ensures)
    (subst (λ (l : List Component). Replaced (book old out) (book new out) c.deref.result.now l) (c.deref-2.ensures.value ∙ c.in_ok-added.ensures ∙ ap components_of c.as_slice-2.ensures)
    (replaced_is old new out c.deref.result.now c.deref-2.result.now c.in_ok-replace_all.ensures.ok)))

pub returns-in_err-replace_all-clause-err : goal.returns-in_err-replace_all-clause-err
returns-in_err-replace_all-clause-err c =
    always_err c.from_residual-in_err-replace_all.result _ (same_book c.self.inside.known.entries c.replace_all.new.known.entries c.self.inside.out c.in_err-replace_all.ensures.err ∙ c.self.view_is)

pub invariant_of-self-2 : goal.invariant_of-self-2
invariant_of-self-2 c =
    let old = c.self.inside.known in
    let new = c.replace_all.new.known in
    from_noted c.self.inside.dead_from c.note_dead.new.from old new c.deref-3.result.now c.note_dead.ensures.kept c.note_dead.ensures.noted c.self.invariant
    (replaced_rest old new c.deref-3.result.now c.deref-2.result.now
    (subst (λ (l : List Component). (k : Component) → at_entry new.entries k ≡ each (marked true) c.deref-2.result.now k (each (marked false) l k (each learnt c.deref-2.result.now k (at_entry old.entries k))))
    (c.deref.ensures.value ∙ sym c.deref-3.ensures.value) c.in_ok-replace_all.ensures.ok))
