use Rattle.std.proofs.Common.{◌-◌}
use Rattle.sasi_termblocks.specs.BlockFaults.{IsSearched}
use Rattle.sasi_termblocks.proofs.block.count_below.Given as goal

abbrev pub invariant-loop-range : goal.invariant-loop-range
invariant-loop-range l = IsSearched l.block l.count l.sought l.range.low l.range.high

abbrev pub decreases-loop-range : goal.decreases-loop-range
decreases-loop-range l = l.range.high - l.range.low
