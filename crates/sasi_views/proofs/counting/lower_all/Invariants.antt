use Rattle.std.proofs.Common.{◌≡◌, ◌≤◌, drop}
use Rattle.sasi_views.specs.declared.component.Component.{Component}
use Rattle.sasi_views.specs.Books.{count_in}
use Rattle.sasi_views.specs.Components.{lists}
use Rattle.sasi_views.specs.inside.Steps.{each, lowered}
use Rattle.sasi_views.proofs.BookChanges.{at_entry}
use Rattle.sasi_views.proofs.counting.lower_all.Given as goal

abbrev pub invariant-loop-component : goal.invariant-loop-component
invariant-loop-component l = record {
  is : (c : Component) → each lowered (drop l.component-index l.components) c (at_entry l.known.entries c) ≡ each lowered l.components c (at_entry l.fn.known.entries c);
  counted : (c : Component) → lists c (drop l.component-index l.components) ≤ count_in (at_entry l.known.entries c);
}
