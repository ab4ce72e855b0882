-- Literals of the key.
use Rattle.std.specs.Prelude.{◌≡◌, ◌≢◌, ◌≤◌, true, false, [], length, ⊤}
use Rattle.sasi_types.specs.declared.column.ColumnType.{ColumnType}
use Rattle.sasi_types.specs.declared.literal.Literal.{Literal}
use Rattle.sasi_types.specs.declared.value.Value.{Value}
use Rattle.sasi_types.specs.declared.value.Value.TheVariants.{Text, Int, BigInt, Uuid}
use Rattle.sasi_model.specs.Refusals.{is_null, is_of, is_out_of_range}
use Rattle.sasi_model.specs.Abbreviations.{TEXT_LIMIT, is_empty_text, is_long_text}

-- no rule refuses the literal of the key
pub record IsKeyLiteral (type : ColumnType) (literal : Literal) : Type 0 where
  pub typed : is_of type literal ≡ true
  pub there : is_null literal ≡ false
  pub within : is_out_of_range type literal ≡ false
  pub some : is_empty_text type literal ≡ false
  pub short : is_long_text type literal ≡ false

-- it has 1 to 65,535 bytes
abbrev pub IsKeyValue : Value → Type 0
IsKeyValue (Text text) = (text ≢ []) × (length text ≤ TEXT_LIMIT)
IsKeyValue (Int number) = ⊤
IsKeyValue (BigInt number) = ⊤
IsKeyValue (Uuid bytes) = ⊤
