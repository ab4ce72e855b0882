use Rattle.std.proofs.Common.{◌≡◌, true, false, is_lt}
use Rattle.sasi_views.specs.declared.component.Component.{Component}
use Rattle.sasi_views.specs.Books.{dead_in}
use Rattle.sasi_views.specs.Components.{component_cmp}
use Rattle.sasi_views.proofs.BookChanges.{at_entry}
use Rattle.sasi_views.proofs.StepLaws.{looked_next, none_left}
use Rattle.sasi_views.proofs.dead.note_dead.Goals as goal

pub loop-component-preserved : goal.loop-component-preserved
loop-component-preserved c = record {
  kept = λ k above. c.note_one.ensures.kept k (c.loop-component.invariant.kept k above);
  noted = λ k listed none.
      looked_next c.args.components.now c.loop-component.component-index _ c.loop-component-test.true
      (λ (x : Component). dead_in (at_entry c.args.known.now.entries x) ≡ true → is_lt (component_cmp x c.note_one.new.from) ≡ false) k
      c.note_one.ensures.noted (λ gone dead. c.note_one.ensures.kept k (c.loop-component.invariant.noted k listed gone dead)) none;
}

pub returns-clause-noted : goal.returns-clause-noted
returns-clause-noted c = λ k listed dead. c.loop-component.invariant.noted k listed (none_left c.args.components.now c.loop-component.component-index k c.loop-component-test.false) dead
