-- The view of an entry: the column's number, and the cell of its time, state and value.
use Rattle.std.specs.Prelude.{ℕ, Option, None, Some}
use Rattle.sasi_types.specs.declared.cell.Cell.{Cell}
use Rattle.sasi_types.specs.declared.value.Value.{Value}
use Rattle.sasi_cells.specs.declared.entry.State.{State}
use Rattle.sasi_cells.specs.declared.entry.State.TheVariants.{Live, Tombstone}

-- the value of a live cell; None for a tombstone
abbrev pub value_view : State → Value → Option Value
value_view Live value = Some value
value_view Tombstone value = None

abbrev pub entry_view : ℕ → ℕ → State → Value → ℕ × Cell
entry_view column time state value = (column, record { time = time; value = value_view state value })
