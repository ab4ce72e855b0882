-- The numbers in files of column types and of modes.
use Rattle.std.specs.Prelude.{ℕ}
use Rattle.sasi_types.specs.declared.column.ColumnType.{ColumnType}
use Rattle.sasi_types.specs.declared.column.ColumnType.TheVariants.{Text, Int, BigInt, Uuid}
use Rattle.sasi_types.specs.declared.mode.Mode.{Mode}
use Rattle.sasi_types.specs.declared.mode.Mode.TheVariants.{Prefix, Contains, Sparse}

-- the type of a column
abbrev pub type_code : ColumnType → ℕ
type_code Text = 0
type_code Int = 1
type_code BigInt = 2
type_code Uuid = 3

-- the mode of an index
abbrev pub mode_code : Mode → ℕ
mode_code Prefix = 0
mode_code Contains = 1
mode_code Sparse = 2
