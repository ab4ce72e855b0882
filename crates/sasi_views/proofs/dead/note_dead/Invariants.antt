use Rattle.std.proofs.Common.{◌≡◌, true, false, drop, is_lt}
use Rattle.sasi_views.specs.declared.component.Component.{Component}
use Rattle.sasi_views.specs.Books.{dead_in}
use Rattle.sasi_views.specs.Components.{among, component_cmp}
use Rattle.sasi_views.proofs.BookChanges.{at_entry}
use Rattle.sasi_views.proofs.dead.note_dead.Given as goal

abbrev pub invariant-loop-component : goal.invariant-loop-component
invariant-loop-component l = record {
  kept : (c : Component) → is_lt (component_cmp c l.fn.from) ≡ false → is_lt (component_cmp c l.from) ≡ false;
  noted : (c : Component) → among c l.components ≡ true → among c (drop l.component-index l.components) ≡ false → dead_in (at_entry l.known.entries c) ≡ true → is_lt (component_cmp c l.from) ≡ false;
}
