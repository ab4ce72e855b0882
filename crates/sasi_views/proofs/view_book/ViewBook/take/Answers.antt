use Rattle.std.proofs.Common.{◌≤◌, ◌≡◌, ◌∙◌, ◌+◌, List, arith, sym, ap, subst}
use Rattle.sasi_views.specs.declared.component.Component.{Component}
use Rattle.sasi_views.specs.declared.part.Part.{Part}
use Rattle.sasi_views.specs.Books.{Book}
use Rattle.sasi_views.specs.Changes.{Taken}
use Rattle.sasi_views.specs.Components.{lists}
use Rattle.sasi_views.specs.inside.Steps.{each, learnt, raised}
use Rattle.sasi_views.specs.Parts.{components_of}
use Rattle.sasi_views.proofs.BookChanges.{at_entry, book, same_book, taken_is}
use Rattle.sasi_views.proofs.DeadBounds.{from_taken}
use Rattle.sasi_views.proofs.StepLaws.{always_err}
use Rattle.sasi_views.proofs.view_book.ViewBook.take.Goals as goal

pub take_all-requires : goal.take_all-requires
take_all-requires c =
    let is : c.components.result.now ≡ components_of c.args.parts = c.components.ensures ∙ ap (λ (ps : List Part). components_of ps) c.in_ok-view.ensures in
    record { once = subst (λ (l : List Component). (k : Component) → lists k l ≤ 1) (sym is) c.requires.once }

pub returns-clause-taken : goal.returns-clause-taken
returns-clause-taken c =
    let is : c.components.result.now ≡ components_of c.args.parts = c.components.ensures ∙ ap (λ (ps : List Part). components_of ps) c.in_ok-view.ensures in
    let old = c.self.inside.known.entries in
    let new = c.take_all.new.known.entries in
    let out = c.self.inside.out in
    subst (λ (b : Book). Taken b (book new (out + 1)) (components_of c.args.parts)) c.self.view_is
    (taken_is old new out (out + 1) (components_of c.args.parts)
    (subst (λ (l : List Component). (k : Component) → at_entry new k ≡ each raised l k (each learnt l k (at_entry old k))) is c.in_ok-take_all.ensures.ok) (omega arith))

pub returns-in_err-take_all-clause-err : goal.returns-in_err-take_all-clause-err
returns-in_err-take_all-clause-err c =
    always_err c.from_residual-in_err-take_all.result _ (same_book c.self.inside.known.entries c.take_all.new.known.entries c.self.inside.out c.in_err-take_all.ensures.err ∙ c.self.view_is)

pub invariant_of-self-2 : goal.invariant_of-self-2
invariant_of-self-2 c = from_taken c.self.inside.dead_from c.self.inside.known c.take_all.new.known c.components.result.now c.in_ok-take_all.ensures.ok c.self.invariant
