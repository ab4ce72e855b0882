use Rattle.std.specs.FinMap as fin
use Rattle.sasi_memtable.proofs.Counts.{put_held}
use Rattle.sasi_memtable.proofs.memtable.Memtable.put_from.Goals as goal

pub invariant_of-self : goal.invariant_of-self
invariant_of-self c =
    let s = c.self.inside in
    put_held s.partitioner (fin.from_entries s.partitions.entries) (fin.from_entries c.put_at.new.partitions.entries) c.decorated-key.result c.args.key c.args.change c.put_at.new.size c.put_at.result
    c.decorated-key.ensures c.self.invariant.decorated c.put_at.ensures.ok c.put_at.ensures.err c.put_at.ensures.total
