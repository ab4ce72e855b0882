-- The partitions that a change is built of.
use Rattle.std.specs.Prelude.{ℕ}
use Rattle.std.specs.FinMap as map_
use Rattle.sasi_types.specs.declared.cell.Cell.{Cell}
use Rattle.sasi_model.specs.Cells.{Partition}

-- a deletion alone
abbrev pub deletion : ℕ → Partition
deletion time = record { deleted = time; cells = map_.empty }

-- the partition with this cell of the column, whether it had one or not
abbrev pub with_column : Partition → ℕ → Cell → Partition
with_column p column cell = record { deleted = p.deleted; cells = map_.insert p.cells column cell }
