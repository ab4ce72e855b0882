use Rattle.std.proofs.Common.{◌≡◌}
use Rattle.sasi_views.specs.declared.component.Component.{Component}
use Rattle.sasi_views.specs.Books.{dead_in}
use Rattle.sasi_views.proofs.BookChanges.{at_entry}
use Rattle.sasi_views.proofs.DeadLaws.{AreRising}
use Rattle.sasi_views.proofs.dead.first_dead.Given as goal

abbrev pub invariant-loop-component : goal.invariant-loop-component
invariant-loop-component l = record {
  rise : AreRising l.component-iterator;
  dead : (c : Component) → dead_in (at_entry l.known.entries c) ≡ dead_in (at_entry l.component-iterator c);
}
