use Rattle.std.proofs.Common.{le_trans}
use Rattle.sasi_views.specs.inside.Steps.{lowered}
use Rattle.sasi_views.proofs.StepLaws.{counted_next, ended, listed_head, turn}
use Rattle.sasi_views.proofs.counting.lower_all.Goals as goal

pub lower-requires : goal.lower-requires
lower-requires c = le_trans (listed_head c.args.components.now c.loop-component.component-index _ c.loop-component-test.true) (c.loop-component.invariant.counted _)

pub loop-component-preserved : goal.loop-component-preserved
loop-component-preserved c = record {
  is = λ k. turn lowered c.args.components.now c.loop-component.component-index _ k _ _ _ c.loop-component-test.true (c.lower.ensures k) (c.loop-component.invariant.is k);
  counted = λ k. counted_next c.args.components.now c.loop-component.component-index _ c.loop-component-test.true k _ _ (c.lower.ensures k) (c.loop-component.invariant.counted k);
}

pub returns : goal.returns
returns c = λ k. ended lowered c.args.components.now c.loop-component.component-index k _ _ c.loop-component-test.false (c.loop-component.invariant.is k)
