use Rattle.sasi_memtable.proofs.Counts.{total_is}
use Rattle.sasi_memtable.proofs.total.total.Goals as goal

pub returns : goal.returns
returns c =
    let on = c.loop-key.invariant in
    total_is c.args.partitions.now.entries c.loop-key.key-iterator c.loop-key.size c.into_iter-key-iterator.ensures.into_iter_gives.5 c.in-None.ensures.steps.0 on.cells_fit on.bytes_fit on.cells on.bytes
