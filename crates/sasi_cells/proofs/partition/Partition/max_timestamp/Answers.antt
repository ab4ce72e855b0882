use Rattle.sasi_cells.proofs.Partitions.{max_timestamp_shown}
use Rattle.sasi_cells.proofs.partition.Partition.max_timestamp.Goals as goal

pub returns : goal.returns
returns c = max_timestamp_shown _ _ _ c.args.self.now _ c.self.invariant c.self.view_is c.deref.ensures.value c.max_timestamp_in.ensures
