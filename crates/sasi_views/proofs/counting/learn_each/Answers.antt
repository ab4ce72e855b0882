use Rattle.std.proofs.Common.{refl, ap, ◌∙◌, List}
use Rattle.sasi_views.specs.declared.component.Component.{Component}
use Rattle.sasi_views.specs.inside.Steps.{each, forgotten, learnt}
use Rattle.sasi_views.proofs.BookChanges.{at_entry}
use Rattle.sasi_views.proofs.StepLaws.{ended, turn}
use Rattle.sasi_views.proofs.counting.learn_each.Goals as goal

pub loop-component-init : goal.loop-component-init
loop-component-init c = record {
  is = λ k. refl;
  undone = λ k. ap (λ (l : List Component). each forgotten l k (at_entry c.args.known.now.entries k)) c.requires;
}

pub loop-component-preserved : goal.loop-component-preserved
loop-component-preserved c = record {
  is = λ k. turn learnt c.args.components.now c.loop-component.component-index _ k _ _ _ c.loop-component-test.true (c.in_ok-learn_one.ensures.ok k) (c.loop-component.invariant.is k);
  undone = λ k. c.learn_one.ensures.undone k ∙ c.loop-component.invariant.undone k;
}

pub returns-in_err-learn_one-clause-undone : goal.returns-in_err-learn_one-clause-undone
returns-in_err-learn_one-clause-undone c = λ k. c.learn_one.ensures.undone k ∙ c.loop-component.invariant.undone k

pub returns-clause-ok : goal.returns-clause-ok
returns-clause-ok c = λ k. ended learnt c.args.components.now c.loop-component.component-index k _ _ c.loop-component-test.false (c.loop-component.invariant.is k)
