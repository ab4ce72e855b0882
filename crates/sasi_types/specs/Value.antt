-- Values, and their bytes in files and keys.
use Rattle.std.specs.Prelude.{ℕ, List}
use Rattle.std.specs.Int.{w32, w64, to_be_bytes, cast_unsigned}
use Rattle.sasi_types.specs.declared.column.ColumnType.{ColumnType}
use Rattle.sasi_types.specs.declared.column.ColumnType.TheVariants as types
use Rattle.sasi_types.specs.declared.value.Value.{Value}
use Rattle.sasi_types.specs.declared.value.Value.TheVariants.{Text, Int, BigInt, Uuid}

-- the type of a column that the value fits
abbrev pub type_of : Value → ColumnType
type_of (Text text) = types.Text
type_of (Int number) = types.Int
type_of (BigInt number) = types.BigInt
type_of (Uuid bytes) = types.Uuid

-- a text's own bytes, a number's in two's complement with the highest first, and the sixteen bytes of a uuid
abbrev pub stored : Value → List ℕ
stored (Text text) = text
stored (Int number) = to_be_bytes w32 (cast_unsigned w32 number)
stored (BigInt number) = to_be_bytes w64 (cast_unsigned w64 number)
stored (Uuid bytes) = bytes
