-- What a literal of the key gives.
use Rattle.std.proofs.Common.{◌≡◌, ◌≢◌, ℕ, ◌≤◌, ◌==◌, false, nat_lt, List, [], ◌∷◌, length, Option, Some, refl, arith}
use Rattle.std.proofs.lemmas.Bool.Decides.{nat_tests}
use Rattle.sasi_types.specs.declared.column.ColumnType.{ColumnType}
use Rattle.sasi_types.specs.declared.column.ColumnType.TheVariants as types
use Rattle.sasi_types.specs.declared.literal.Literal.{Literal}
use Rattle.sasi_types.specs.declared.literal.Literal.TheVariants.{Text, Number as Integer, Uuid, Null}
use Rattle.sasi_types.specs.declared.literal.Number.TheVariants.{Fits, Wide}
use Rattle.sasi_types.specs.declared.value.Value.{Value}
use Rattle.sasi_types.specs.Value.{type_of}
use Rattle.sasi_model.specs.Abbreviations.{TEXT_LIMIT}
use Rattle.sasi_model.specs.Step.{value_given}
use Rattle.sasi_machine.specs.KeyLiteral.{IsKeyLiteral, IsKeyValue}

some_bytes : (text : List ℕ) → (length text == 0) ≡ false → text ≢ []
some_bytes [] no_bytes = cc
some_bytes (x ∷ xs) no_bytes = λ e. cc

short_bytes : (n : ℕ) → nat_lt TEXT_LIMIT n ≡ false → n ≤ TEXT_LIMIT
short_bytes n short = grind (arith, nat_tests)

-- what it gives can be a key
pub record IsGiven (type : ColumnType) (given : Option Value) : Type 0 where
  pub value : Value
  pub is : given ≡ Some value
  pub is_key : IsKeyValue value
  pub typed : type_of value ≡ type

pub key_given : (type : ColumnType) (literal : Literal) → IsKeyLiteral type literal → IsGiven type (value_given type literal)
key_given types.Text (Text text) is = record { value = _; is = refl; is_key = (some_bytes text is.some, short_bytes (length text) is.short); typed = refl }
key_given types.Text (Integer number) is = let e = is.typed in cc
key_given types.Text (Uuid bytes) is = let e = is.typed in cc
key_given types.Text Null is = let e = is.there in cc
key_given types.Int (Integer (Fits z)) is = record { value = _; is = refl; is_key = tt; typed = refl }
key_given types.Int (Integer Wide) is = let e = is.within in cc
key_given types.Int (Text text) is = let e = is.typed in cc
key_given types.Int (Uuid bytes) is = let e = is.typed in cc
key_given types.Int Null is = let e = is.there in cc
key_given types.BigInt (Integer (Fits z)) is = record { value = _; is = refl; is_key = tt; typed = refl }
key_given types.BigInt (Integer Wide) is = let e = is.within in cc
key_given types.BigInt (Text text) is = let e = is.typed in cc
key_given types.BigInt (Uuid bytes) is = let e = is.typed in cc
key_given types.BigInt Null is = let e = is.there in cc
key_given types.Uuid (Uuid bytes) is = record { value = _; is = refl; is_key = tt; typed = refl }
key_given types.Uuid (Text text) is = let e = is.typed in cc
key_given types.Uuid (Integer number) is = let e = is.typed in cc
key_given types.Uuid Null is = let e = is.there in cc
