use Rattle.std.proofs.Common.{◌<◌, ◌^◌, suc}
use Rattle.sasi_views.specs.declared.component.Component.{Component}
use Rattle.sasi_views.specs.Books.{count_in}
use Rattle.sasi_views.proofs.BookChanges.{at_entry}
use Rattle.sasi_views.proofs.StepLaws.{looked_next}
use Rattle.sasi_views.proofs.counting.have_room.Goals as goal

pub loop-component-preserved : goal.loop-component-preserved
loop-component-preserved c =
    λ k listed none.
    looked_next c.args.components.now c.loop-component.component-index _ c.loop-component-test.true (λ (k : Component). suc (count_in (at_entry c.args.known.now.entries k)) < 2 ^ 32) k
    (c.has_room.ensures c.if-not-has_room.false) (c.loop-component.invariant k listed) none
