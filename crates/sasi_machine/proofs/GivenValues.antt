-- Values that literals give: each has bytes, and is of its column's type.
use Rattle.std.proofs.Common.{◌≡◌, ℕ, ◌<◌, ◌^◌, Bool, true, false, not, nat_lt, List, length, Some, refl, subst, arith}
use Rattle.std.specs.Prelude.{ℤ, pos, negsuc, FitsSigned}
use Rattle.std.proofs.lemmas.Bool.Decides.{nat_tests}
use Rattle.std.specs.Int.{w32, w64}
use Rattle.sasi_types.specs.declared.column.ColumnType.{ColumnType}
use Rattle.sasi_types.specs.declared.column.ColumnType.TheVariants as types
use Rattle.sasi_types.specs.declared.literal.Literal.{Literal}
use Rattle.sasi_types.specs.declared.literal.Literal.TheVariants as literals
use Rattle.sasi_types.specs.declared.literal.Number.TheVariants.{Fits, Wide}
use Rattle.sasi_types.specs.declared.value.Value.{Value}
use Rattle.sasi_types.specs.declared.value.Value.TheVariants.{Text, Int, BigInt, Uuid}
use Rattle.sasi_types.specs.Value.{type_of}
use Rattle.sasi_model.specs.Refusals.{is_of, is_out_of_range, is_within}
use Rattle.sasi_model.specs.Abbreviations.{TEXT_LIMIT, is_long_text}
use Rattle.sasi_model.specs.Step.{value_given}
use Rattle.sasi_model.specs.Stored.{HasBytes}
use Rattle.sasi_model.specs.WellFormed.{IsWellFormedLiteral}

pub short_text : (text : List ℕ) → nat_lt TEXT_LIMIT (length text) ≡ false → length text < 2 ^ 16
short_text text short = grind (arith, nat_tests)

within_32 : (z : ℤ) → is_within 31 (Fits z) ≡ true → FitsSigned w32 z
within_32 (pos n) is = record { sfits = grind (arith, nat_tests) }
within_32 (negsuc n) is = record { sfits = grind (arith, nat_tests) }

within_64 : (z : ℤ) → is_within 63 (Fits z) ≡ true → FitsSigned w64 z
within_64 (pos n) is = record { sfits = grind (arith, nat_tests) }
within_64 (negsuc n) is = record { sfits = grind (arith, nat_tests) }

not_out : (b : Bool) → not b ≡ false → b ≡ true
not_out true e = refl
not_out false e = cc

-- what a literal gives has bytes, and is of the type
pub given_fits : (type : ColumnType) (literal : Literal) (value : Value) → is_of type literal ≡ true → is_out_of_range type literal ≡ false
    → is_long_text type literal ≡ false → IsWellFormedLiteral literal → value_given type literal ≡ Some value
    → HasBytes value × (type_of value ≡ type)
given_fits types.Text (literals.Text text) value of within short written is =
    let e : Text text ≡ value = cc in subst (λ v. HasBytes v × (type_of v ≡ types.Text)) e ((written, short_text text short), refl)
given_fits types.Int (literals.Number (Fits z)) value of within short written is =
    let e : Int z ≡ value = cc in subst (λ v. HasBytes v × (type_of v ≡ types.Int)) e (within_32 z (not_out (is_within 31 (Fits z)) within), refl)
given_fits types.BigInt (literals.Number (Fits z)) value of within short written is =
    let e : BigInt z ≡ value = cc in subst (λ v. HasBytes v × (type_of v ≡ types.BigInt)) e
    (within_64 z (not_out (is_within 63 (Fits z)) within), refl)
given_fits types.Uuid (literals.Uuid bytes) value of within short written is = let e : Uuid bytes ≡ value = cc in subst (λ v. HasBytes v × (type_of v ≡ types.Uuid)) e (written, refl)
given_fits types.Int (literals.Number Wide) value of within short written is = cc
given_fits types.BigInt (literals.Number Wide) value of within short written is = cc
given_fits type literal value of within short written is = cc
