use Rattle.std.proofs.Common.{arith}
use Rattle.sasi_tokentree.proofs.Seeks.{below_root_none, below_root_more}
use Rattle.sasi_tokentree.proofs.seek.+size_below_root.Goals as goal

pub returns-then-count-le-MAX_ENTRIES-clause-is : goal.returns-then-count-le-MAX_ENTRIES-clause-is
returns-then-count-le-MAX_ENTRIES-clause-is t c most le = below_root_none most c.args.count (omega arith)

pub returns-clause-is : goal.returns-clause-is
returns-clause-is t c most le = below_root_more most c.args.count _ _ (omega arith) le c.level_size.ensures (rw c.node_count.ensures at c.size_below_root.ensures.is)
