use Rattle.std.proofs.Common.{◌≡◌, ◌<◌, ◌^◌, suc, true, false, drop}
use Rattle.sasi_views.specs.declared.component.Component.{Component}
use Rattle.sasi_views.specs.Books.{count_in}
use Rattle.sasi_views.specs.Components.{among}
use Rattle.sasi_views.proofs.BookChanges.{at_entry}
use Rattle.sasi_views.proofs.counting.have_room.Given as goal

abbrev pub invariant-loop-component : goal.invariant-loop-component
invariant-loop-component l = (c : Component) → among c l.components ≡ true → among c (drop l.component-index l.components) ≡ false → suc (count_in (at_entry l.known.entries c)) < 2 ^ 32
