-- Partitions whose columns have types.
use Rattle.std.specs.Prelude.{◌≡◌, ℕ, FitsSigned, Some, ⊤}
use Rattle.std.specs.Int.{w32, w64}
use Rattle.sasi_types.specs.declared.column.ColumnType.{ColumnType}
use Rattle.sasi_types.specs.declared.value.Value.{Value}
use Rattle.sasi_types.specs.declared.value.Value.TheVariants.{Text, Int, BigInt, Uuid}
use Rattle.sasi_types.specs.Value.{type_of}
use Rattle.sasi_model.specs.Cells.{Partition, value_at}

-- a number is one of its type
abbrev pub IsInRange : Value → Type 0
IsInRange (Text text) = ⊤
IsInRange (Int number) = FitsSigned w32 number
IsInRange (BigInt number) = FitsSigned w64 number
IsInRange (Uuid bytes) = ⊤

-- the value is one of the type
pub record IsOfType (type : ColumnType) (value : Value) : Type 0 where
  pub is : type_of value ≡ type
  pub in_range : IsInRange value

-- the value of each live cell is one of its column's type
abbrev pub IsTyped : (ℕ → ColumnType) → Partition → Type 0
IsTyped types p = (column : ℕ) (value : Value) → value_at p column ≡ Some value → IsOfType (types column) value
