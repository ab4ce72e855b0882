-- The row that a partition gives.
use Rattle.std.specs.Prelude.{◌≡◌, ℕ, List, map, length, Option, None, Some, if◌then◌else◌, ⊤}
use Rattle.sasi_types.specs.declared.column.ColumnType.{ColumnType}
use Rattle.sasi_types.specs.declared.column.ColumnType.TheVariants as types
use Rattle.sasi_types.specs.declared.value.Value.{Value}
use Rattle.sasi_model.specs.Cells.{Partition, is_live, value_at}
use Rattle.sasi_model.specs.Step.{value_stored}
use Rattle.sasi_cells.specs.declared.picked.PickedColumn.{PickedColumn}
use Rattle.sasi_cells.specs.declared.picked.PickedColumn.TheVariants.{Key, Column}

-- the bytes are as long as a value of the type is
abbrev pub IsStored : ColumnType → List ℕ → Type 0
IsStored types.Text bytes = ⊤
IsStored types.Int bytes = length bytes ≡ 4
IsStored types.BigInt bytes = length bytes ≡ 8
IsStored types.Uuid bytes = length bytes ≡ 16

-- the key's own value, or that of the column's cell
abbrev pub picked_value : ColumnType → List ℕ → Partition → PickedColumn → Option Value
picked_value type key p Key = Some (value_stored type key)
picked_value type key p (Column number) = value_at p number

-- the values of the columns, if the row is there
abbrev pub row_of : ColumnType → List ℕ → List PickedColumn → Partition → Option (List (Option Value))
row_of type key columns p = if is_live p then Some (map (picked_value type key p) columns) else None
