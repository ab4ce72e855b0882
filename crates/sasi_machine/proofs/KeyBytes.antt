-- The bytes of a key that no rule refuses.
use Rattle.std.proofs.Common.{◌≡◌, ℕ, ◌<◌, ◌≤◌, ◌^◌, false, ◌==◌, List, [], ◌∷◌, length, refl, arith}
use Rattle.sasi_machine.specs.KeyLiteral.{IsKeyLiteral}
use Rattle.sasi_types.specs.declared.column.ColumnType.{ColumnType}
use Rattle.sasi_types.specs.declared.column.ColumnType.TheVariants as types
use Rattle.sasi_types.specs.declared.literal.Literal.{Literal}
use Rattle.sasi_types.specs.declared.literal.Literal.TheVariants as literals
use Rattle.sasi_types.specs.declared.literal.Number.TheVariants.{Fits, Wide}
use Rattle.sasi_model.specs.State.{Definition}
use Rattle.sasi_model.specs.Step.{value_given}
use Rattle.sasi_model.specs.Abbreviations.{stored_of, key_type, types_of}
use Rattle.sasi_model.specs.Stored.{IsTypedAt, IsValueOf}
use Rattle.sasi_model.specs.WellFormed.{IsWellFormedLiteral}
use Rattle.sasi_machine.proofs.GivenValues.{short_text}

pub record IsKeyBytes (d : Definition) (bytes : List ℕ) : Type 0 where
  pub typed : IsTypedAt (types_of d) 0 bytes
  pub some : 1 ≤ length bytes
  pub short : length bytes < 2 ^ 16

some_text : (text : List ℕ) → (length text == 0) ≡ false → 1 ≤ length text
some_text [] e = cc
some_text (x ∷ text) e = omega arith

bytes_fit : (type : ColumnType) (literal : Literal) → IsKeyLiteral type literal → IsWellFormedLiteral literal → IsValueOf type
    (stored_of (value_given type literal)) × (1 ≤ length (stored_of (value_given type literal)))
    × (length (stored_of (value_given type literal)) < 2 ^ 16)
bytes_fit types.Text (literals.Text text) is written = (written, some_text text is.some, short_text text is.short)
bytes_fit types.Text (literals.Number number) is written = let e = is.typed in cc
bytes_fit types.Text (literals.Uuid bytes) is written = let e = is.typed in cc
bytes_fit types.Text literals.Null is written = let e = is.there in cc
bytes_fit types.Int (literals.Number (Fits z)) is written = (refl, omega arith, omega arith)
bytes_fit types.Int (literals.Number Wide) is written = let e = is.within in cc
bytes_fit types.Int (literals.Text text) is written = let e = is.typed in cc
bytes_fit types.Int (literals.Uuid bytes) is written = let e = is.typed in cc
bytes_fit types.Int literals.Null is written = let e = is.there in cc
bytes_fit types.BigInt (literals.Number (Fits z)) is written = (refl, omega arith, omega arith)
bytes_fit types.BigInt (literals.Number Wide) is written = let e = is.within in cc
bytes_fit types.BigInt (literals.Text text) is written = let e = is.typed in cc
bytes_fit types.BigInt (literals.Uuid bytes) is written = let e = is.typed in cc
bytes_fit types.BigInt literals.Null is written = let e = is.there in cc
bytes_fit types.Uuid (literals.Uuid bytes) is written = (written, omega (arith, written), omega (arith, written))
bytes_fit types.Uuid (literals.Text text) is written = let e = is.typed in cc
bytes_fit types.Uuid (literals.Number number) is written = let e = is.typed in cc
bytes_fit types.Uuid literals.Null is written = let e = is.there in cc

pub key_fits : (d : Definition) (literal : Literal) → IsKeyLiteral (key_type d) literal → IsWellFormedLiteral literal → IsKeyBytes d (stored_of (value_given (key_type d) literal))
key_fits d literal is written =
    let f = bytes_fit (key_type d) literal is written in
    record { typed = record { type = key_type d; listed = refl; value = f.0 }; some = f.1; short = f.2 }
