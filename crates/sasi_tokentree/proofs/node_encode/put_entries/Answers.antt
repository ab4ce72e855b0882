use Rattle.std.proofs.Common.{arith}
use Rattle.std.proofs.lemmas.Grind.{common_steps}
use Rattle.sasi_tokentree.proofs.Fitting.{all_fit, first_more}
use Rattle.sasi_tokentree.proofs.node_encode.put_entries.Goals as goal

pub loop-pair-preserved : goal.loop-pair-preserved
loop-pair-preserved c = record {
  written = grind (arith, common_steps, c.in_ok-put_entry.ensures.is, c.loop-pair.invariant.written);
  fit = first_more c.args.entries.now c.loop-pair.pair-index c.loop-pair.invariant.fit (c.put_entry.ensures.token, c.put_entry.ensures.place);
}

pub returns-clause-fit : goal.returns-clause-fit
returns-clause-fit c = all_fit c.args.entries.now c.loop-pair.pair-index (omega arith) c.loop-pair.invariant.fit
