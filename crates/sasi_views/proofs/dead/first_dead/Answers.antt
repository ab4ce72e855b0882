use Rattle.std.proofs.Common.{◌≡◌, sym, ap, subst, ◌∙◌}
use Rattle.sasi_views.specs.Books.{dead_in}
use Rattle.sasi_views.proofs.BookChanges.{Entries, at_entry}
use Rattle.sasi_views.proofs.DeadLaws.{AreRising, dead_from, entries_from, found_dead, found_least, pass_next, rise_from, rise_next}
use Rattle.sasi_views.proofs.dead.first_dead.Goals as goal

pub loop-component-init : goal.loop-component-init
loop-component-init c =
    let entries = c.args.known.now.entries in
    let iter : c.into_iter-component-iterator.result ≡ entries_from c.args.from entries = c.into_iter-component-iterator.ensures.into_iter_gives ∙ c.range-component-items.ensures.between tt in
    record {
      rise = subst AreRising (sym iter) (rise_from c.args.from entries c.range-component-items.ensures.ordered);
      dead = λ k. dead_from c.args.from entries k (c.requires k) ∙ ap (λ (es : Entries). dead_in (at_entry es k)) (sym iter);
    }

pub loop-component-preserved : goal.loop-component-preserved
loop-component-preserved c = record {
  rise = rise_next _ c.loop-component.component-iterator c.next.new.self c.in-Some.ensures.steps c.loop-component.invariant.rise;
  dead = λ k. pass_next _ c.loop-component.component-iterator c.next.new.self c.args.known.now.entries k c.in-Some.ensures.steps c.loop-component.invariant.rise (sym c.is_dead.ensures ∙ c.if-is_dead.false) (c.loop-component.invariant.dead k);
}

pub returns-then-is_dead-clause-dead : goal.returns-then-is_dead-clause-dead
returns-then-is_dead-clause-dead c =
    found_dead _ c.loop-component.component-iterator c.next.new.self c.args.known.now.entries c.in-Some.ensures.steps (sym c.is_dead.ensures ∙ c.if-is_dead.true) c.loop-component.invariant.dead

pub returns-then-is_dead-clause-least : goal.returns-then-is_dead-clause-least
returns-then-is_dead-clause-least c = λ k dead.
    found_least _ c.loop-component.component-iterator c.next.new.self c.args.known.now.entries k c.in-Some.ensures.steps c.loop-component.invariant.rise (c.loop-component.invariant.dead k) dead

pub returns-clause-none : goal.returns-clause-none
returns-clause-none c = λ k. c.loop-component.invariant.dead k ∙ ap (λ (es : Entries). dead_in (at_entry es k)) c.in-None.ensures.steps.0
