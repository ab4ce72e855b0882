use Rattle.std.proofs.Common.{subst}
use Rattle.sasi_model.specs.Cells.{IsNormal}
use Rattle.sasi_cells.proofs.Partitions.{ordered_is_normal}
use Rattle.sasi_cells.proofs.partition.Partition.copy.Goals as goal

pub returns-clause-normal : goal.returns-clause-normal
returns-clause-normal c = subst IsNormal c.self.view_is (ordered_is_normal _ _ c.self.invariant)

pub returns-in_err-cells-clause-normal : goal.returns-in_err-cells-clause-normal
returns-in_err-cells-clause-normal c = subst IsNormal c.self.view_is (ordered_is_normal _ _ c.self.invariant)
