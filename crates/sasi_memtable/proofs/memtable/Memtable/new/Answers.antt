use Rattle.sasi_memtable.proofs.Counts.{empty_is}
use Rattle.sasi_memtable.proofs.memtable.Memtable.new.Goals as goal

pub invariant_of-result : goal.invariant_of-result
invariant_of-result c = empty_is c.args.partitioner c.new.result.entries c.none.result c.new.ensures.empty c.none.ensures
