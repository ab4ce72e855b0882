use Rattle.std.proofs.Common.{◌≡◌, drop}
use Rattle.sasi_views.specs.declared.component.Component.{Component}
use Rattle.sasi_views.specs.inside.Steps.{each, marked}
use Rattle.sasi_views.proofs.BookChanges.{at_entry}
use Rattle.sasi_views.proofs.counting.mark_all.Given as goal

abbrev pub invariant-loop-component : goal.invariant-loop-component
invariant-loop-component l = (c : Component) → each (marked l.current) (drop l.component-index l.components) c (at_entry l.known.entries c) ≡ each (marked l.current) l.components c (at_entry l.fn.known.entries c)
