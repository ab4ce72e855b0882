use Rattle.sasi_views.specs.inside.Steps.{raised}
use Rattle.sasi_views.proofs.StepLaws.{ended, room_head, room_next, turn}
use Rattle.sasi_views.proofs.counting.raise_all.Goals as goal

pub raise-requires : goal.raise-requires
raise-requires c = room_head c.args.components.now c.loop-component.component-index _ c.loop-component-test.true _ (c.loop-component.invariant.room _)

pub loop-component-preserved : goal.loop-component-preserved
loop-component-preserved c = record {
  is = λ k. turn raised c.args.components.now c.loop-component.component-index _ k _ _ _ c.loop-component-test.true (c.raise.ensures k) (c.loop-component.invariant.is k);
  room = λ k. room_next c.args.components.now c.loop-component.component-index _ c.loop-component-test.true k _ _ (c.raise.ensures k) (c.loop-component.invariant.room k);
}

pub returns : goal.returns
returns c = λ k. ended raised c.args.components.now c.loop-component.component-index k _ _ c.loop-component-test.false (c.loop-component.invariant.is k)
