use Rattle.sasi_termblocks.proofs.block.count_below.Goals as goal

pub loop-range-preserved : goal.loop-range-preserved
loop-range-preserved c = c.in_ok-range.ensures.ok c.args.count c.loop-range.invariant
