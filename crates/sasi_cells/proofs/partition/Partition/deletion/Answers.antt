use Rattle.sasi_cells.proofs.Partitions.{none_is_deletion}
use Rattle.sasi_cells.proofs.partition.Partition.deletion.Goals as goal

pub returns : goal.returns
returns c = none_is_deletion c.args.time c.new.result.items c.new.ensures.items
