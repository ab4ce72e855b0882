-- The rows of a table.
use Rattle.std.specs.Prelude.{◌≡◌, ◌++◌, length, ℕ, nat_le, Bool, true, false, List, [], ◌∷◌, Option, None, Some, is_some, map, if◌then◌else◌}
use Rattle.std.specs.FinMap as map_
use Rattle.std.specs.List.{flat_map}
use Rattle.sasi_types.specs.declared.column.ColumnType.{ColumnType}
use Rattle.sasi_types.specs.declared.decorated_key.DecoratedKey.{DecoratedKey}
use Rattle.sasi_types.specs.declared.value.Value.{Value}
use Rattle.sasi_cells.specs.declared.picked.PickedColumn.{PickedColumn}
use Rattle.sasi_cells.specs.Rows.{IsStored, picked_value}
use Rattle.sasi_model.specs.Cells.{Partition}
use Rattle.sasi_model.specs.Filters.{Filter, answers}
use Rattle.sasi_model.specs.Abbreviations.{Partitions, row_line}
use Rattle.sasi_machine.specs.Where.{HasTexts}

-- the keys are values of the type
abbrev pub KeysStored : ColumnType → Partitions → Type 0
KeysStored kind m = (key : DecoratedKey) → is_some (map_.get m key) ≡ true → IsStored kind key.key

-- the texts of the partitions are UTF-8
abbrev pub TextsStored : Partitions → Type 0
TextsStored m = (key : DecoratedKey) (part : Partition) → map_.get m key ≡ Some part → HasTexts part

-- what a table keeps under a key of the type
pub record AreStored (kind : ColumnType) (m : Partitions) : Type 0 where
  pub keys : KeysStored kind m
  pub texts : TextsStored m

-- the rows that are there and that the filter accepts, with the picked values
abbrev pub rows_picked : ColumnType → List PickedColumn → Filter → List (DecoratedKey × Partition) → List (List (Option Value))
rows_picked kind columns f [] = []
rows_picked kind columns f (entry ∷ entries) =
    if answers f entry then map (picked_value kind entry.0.key entry.1) columns ∷ rows_picked kind columns f entries else rows_picked kind columns f entries

-- LIMIT allows no more rows than so many
abbrev pub is_full : Option ℕ → ℕ → Bool
is_full None rows = false
is_full (Some limit) rows = nat_le limit rows

-- these rows were printed, so many
pub record ArePrinted (rows : List (List (Option Value))) (reply_old reply_new : List ℕ) (count : ℕ) : Type 0 where
  pub reply_is : reply_new ≡ reply_old ++ flat_map row_line rows
  pub count_is : count ≡ length rows
