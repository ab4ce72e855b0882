-- The values that literals give columns, and those of stored bytes.
use Rattle.std.specs.Prelude.{ℕ, List, Option, None, Some}
use Rattle.std.specs.Int.{w32, w64, cast_signed, from_be_bytes}
use Rattle.sasi_types.specs.declared.column.ColumnType.{ColumnType}
use Rattle.sasi_types.specs.declared.column.ColumnType.TheVariants as types
use Rattle.sasi_types.specs.declared.literal.Literal.{Literal}
use Rattle.sasi_types.specs.declared.literal.Literal.TheVariants as literals
use Rattle.sasi_types.specs.declared.literal.Number.TheVariants.{Fits}
use Rattle.sasi_types.specs.declared.value.Value.{Value}
use Rattle.sasi_types.specs.declared.value.Value.TheVariants.{Text, Int, BigInt, Uuid}

-- the value that a literal gives a column of that type; none for NULL, and where the literal is of another type
abbrev pub value_given : ColumnType → Literal → Option Value
value_given types.Text (literals.Text text) = Some (Text text)
value_given types.Int (literals.Number (Fits number)) = Some (Int number)
value_given types.BigInt (literals.Number (Fits number)) = Some (BigInt number)
value_given types.Uuid (literals.Uuid bytes) = Some (Uuid bytes)
value_given type literal = None

-- the value whose stored bytes these are
abbrev pub value_stored : ColumnType → List ℕ → Value
value_stored types.Text bytes = Text bytes
value_stored types.Int bytes = Int (cast_signed w32 (from_be_bytes w32 bytes))
value_stored types.BigInt bytes = BigInt (cast_signed w64 (from_be_bytes w64 bytes))
value_stored types.Uuid bytes = Uuid bytes
