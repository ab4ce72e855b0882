use Rattle.std.proofs.Common.{◌≡◌, ◌<◌, ◌+◌, ◌^◌, true, drop}
use Rattle.sasi_views.specs.declared.component.Component.{Component}
use Rattle.sasi_views.specs.Books.{count_in}
use Rattle.sasi_views.specs.Components.{among, lists}
use Rattle.sasi_views.specs.inside.Steps.{each, raised}
use Rattle.sasi_views.proofs.BookChanges.{at_entry}
use Rattle.sasi_views.proofs.counting.raise_all.Given as goal

abbrev pub invariant-loop-component : goal.invariant-loop-component
invariant-loop-component l = record {
  is : (c : Component) → each raised (drop l.component-index l.components) c (at_entry l.known.entries c) ≡ each raised l.components c (at_entry l.fn.known.entries c);
  room : (c : Component) → among c (drop l.component-index l.components) ≡ true → count_in (at_entry l.known.entries c) + lists c (drop l.component-index l.components) < 2 ^ 32;
}
