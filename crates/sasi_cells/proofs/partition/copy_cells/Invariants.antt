use Rattle.std.proofs.Common.{◌≡◌, take}
use Rattle.sasi_cells.proofs.partition.copy_cells.Given as goal

abbrev pub invariant-loop-entry : goal.invariant-loop-entry
invariant-loop-entry l = l.copy.items ≡ take l.entry-index l.cells
