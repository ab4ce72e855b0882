use Rattle.sasi_views.specs.inside.Steps.{forgotten}
use Rattle.sasi_views.proofs.StepLaws.{ended, turn}
use Rattle.sasi_views.proofs.counting.forget_all.Goals as goal

pub loop-component-preserved : goal.loop-component-preserved
loop-component-preserved c = λ k. turn forgotten c.args.components.now c.loop-component.component-index _ k _ _ _ c.loop-component-test.true (c.forget.ensures k) (c.loop-component.invariant k)

pub returns : goal.returns
returns c = λ k. ended forgotten c.args.components.now c.loop-component.component-index k _ _ c.loop-component-test.false (c.loop-component.invariant k)
