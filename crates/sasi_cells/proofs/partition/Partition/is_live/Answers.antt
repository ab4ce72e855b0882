use Rattle.sasi_cells.proofs.Partitions.{live_shown}
use Rattle.sasi_cells.proofs.partition.Partition.is_live.Goals as goal

pub returns : goal.returns
returns c = live_shown _ _ _ c.args.self.now _ c.self.invariant c.self.view_is c.deref.ensures.value c.any_live.ensures
