use Rattle.std.proofs.Common.{◌≡◌, drop}
use Rattle.sasi_views.specs.declared.component.Component.{Component}
use Rattle.sasi_views.specs.inside.Steps.{each, forgotten, learnt}
use Rattle.sasi_views.proofs.BookChanges.{at_entry}
use Rattle.sasi_views.proofs.counting.learn_each.Given as goal

abbrev pub invariant-loop-component : goal.invariant-loop-component
invariant-loop-component l = record {
  is : (c : Component) → each learnt (drop l.component-index l.components) c (at_entry l.known.entries c) ≡ each learnt l.components c (at_entry l.fn.known.entries c);
  undone : (c : Component) → each forgotten l.added.items c (at_entry l.known.entries c) ≡ at_entry l.fn.known.entries c;
}
