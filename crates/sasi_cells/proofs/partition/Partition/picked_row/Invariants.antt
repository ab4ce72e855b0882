use Rattle.std.proofs.Common.{◌≡◌, map, take}
use Rattle.sasi_cells.specs.Rows.{picked_value}
use Rattle.sasi_cells.proofs.partition.Partition.picked_row.Given as goal

abbrev pub invariant-loop-column : goal.invariant-loop-column
invariant-loop-column l = l.row ≡ map (picked_value l.picked.key l.key l.self) (take l.column-index l.column-items)
