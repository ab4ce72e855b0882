use Rattle.std.proofs.Common.{arith}
use Rattle.sasi_tokentree.proofs.TreeSizes.{size_one, size_more}
use Rattle.sasi_tokentree.proofs.node_layout.+levels_size.Goals as goal

pub returns-then-entries-le-MAX_ENTRIES-clause-is : goal.returns-then-entries-le-MAX_ENTRIES-clause-is
returns-then-entries-le-MAX_ENTRIES-clause-is t c most le = size_one most c.args.entries _ (omega arith) le c.level_size.ensures

pub returns-clause-is : goal.returns-clause-is
returns-clause-is t c most le = size_more most c.args.entries _ _ (omega arith) le c.level_size-2.ensures (rw c.node_count.ensures at c.levels_size.ensures.is)
