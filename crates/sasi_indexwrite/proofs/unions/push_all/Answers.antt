use Rattle.std.proofs.Common.{arith}
use Rattle.std.proofs.lemmas.Grind.{common_steps}
use Rattle.sasi_tokentree.proofs.Fitting.{all_fit, first_more}
use Rattle.sasi_indexwrite.proofs.unions.push_all.Goals as goal

pub loop-pair-preserved : goal.loop-pair-preserved
loop-pair-preserved c = record {
  pushed = grind (arith, common_steps, c.in_ok-push_pair.ensures, c.loop-pair.invariant.pushed);
  fit = first_more c.args.pairs.now c.loop-pair.pair-index c.loop-pair.invariant.fit (c.push_pair.ensures.token, c.push_pair.ensures.place);
}

pub returns-clause-fit : goal.returns-clause-fit
returns-clause-fit c = all_fit c.args.pairs.now c.loop-pair.pair-index (omega arith) c.loop-pair.invariant.fit
