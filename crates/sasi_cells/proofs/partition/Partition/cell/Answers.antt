use Rattle.sasi_cells.proofs.Partitions.{cell_shown, no_cell_shown}
use Rattle.sasi_cells.proofs.partition.Partition.cell.Goals as goal

pub returns-in-Ok : goal.returns-in-Ok
returns-in-Ok c = cell_shown _ _ _ c.args.self.now c.args.column c.in-Ok.at c.index.result.now c.self.invariant c.self.view_is c.deref.ensures.value c.in-Ok.ensures.found c.index.ensures

pub returns-in-Err : goal.returns-in-Err
returns-in-Err c = no_cell_shown _ _ _ c.args.self.now c.args.column _ c.self.invariant c.self.view_is c.deref.ensures.value c.in-Err.ensures.absent
