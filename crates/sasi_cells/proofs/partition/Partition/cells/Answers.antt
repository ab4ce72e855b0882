use Rattle.std.proofs.Common.{subst, ◌∙◌}
use Rattle.sasi_model.specs.Cells.{IsNormal}
use Rattle.sasi_cells.proofs.Partitions.{entries_shown, ordered_is_normal}
use Rattle.sasi_cells.proofs.partition.Partition.cells.Goals as goal

pub returns-clause-entries : goal.returns-clause-entries
returns-clause-entries c = c.deref.ensures.value ∙ entries_shown _ _ _ c.self.invariant c.self.view_is

pub returns-clause-normal : goal.returns-clause-normal
returns-clause-normal c = subst IsNormal c.self.view_is (ordered_is_normal _ _ c.self.invariant)
