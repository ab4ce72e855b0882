-- Values that are read from their stored bytes.
use Rattle.std.proofs.Common.{◌≡◌, Bool, true, false, ◌&&◌, Some, ◌↔◌, rules, ℕ, ◌^◌, ◌<◌, length, get_or, refl, sym, ◌∙◌, ap, arith}
use Rattle.std.proofs.lemmas.Nat.{be_bytes_4, be_bytes_8}
use Rattle.std.proofs.lemmas.Int.{of_z-to_z}
use Rattle.sasi_cells.specs.Rows.{IsStored}
use Rattle.std.specs.Int.{to_be_bytes, from_be_bytes, w32, w64}
use Rattle.sasi_host.specs.Names.{Bytes}
use Rattle.sasi_types.specs.declared.column.ColumnType.{ColumnType}
use Rattle.sasi_types.specs.declared.column.ColumnType.TheVariants as types
use Rattle.sasi_types.specs.Value.{stored}
use Rattle.sasi_types.proofs.Tokens.{number_fits}
use Rattle.sasi_model.specs.Step.{value_stored}
use Rattle.std.specs.Prelude.{nat_eq}
use Rattle.std.specs.Str.{IsUtf8, is_utf8}
use Rattle.std.proofs.lemmas.Str.{IsUtf8-from_is_utf8, is_utf8-from_IsUtf8}
use Rattle.std.specs.Cmp.Lexicographic.{pointwise}
use Rattle.std.specs.Bool.{then_some}
use Rattle.sasi_formats.proofs.NumberLaws.{same_self}
use Rattle.sasi_body.specs.Body.{is_value, value_in}

number_fits_4 : (bytes : Bytes) → length bytes ≡ 4 → ((i : ℕ) → get_or bytes i 0 < 256) → from_be_bytes w32 bytes < 2 ^ 32
number_fits_4 bytes size fits = omega (arith, fits 0, fits 1, fits 2, fits 3)

-- the stored bytes of a value that is read are those that it was read from
stored_again : (type : ColumnType) (bytes : Bytes) → ((i : ℕ) → get_or bytes i 0 < 256) → IsStored type bytes → stored (value_stored type bytes) ≡ bytes
stored_again types.Text bytes fits is = refl
stored_again types.Int bytes fits is =
    ap (to_be_bytes w32) (of_z-to_z w32 (from_be_bytes w32 bytes) (number_fits_4 bytes is fits)) ∙ be_bytes_4 bytes (from_be_bytes w32 bytes) is fits refl
stored_again types.BigInt bytes fits is =
    ap (to_be_bytes w64) (of_z-to_z w64 (from_be_bytes w64 bytes) (number_fits bytes is fits)) ∙ be_bytes_8 bytes (from_be_bytes w64 bytes) is fits refl
stored_again types.Uuid bytes fits is = refl

-- bytes that encode a value are as long as one
pub is_stored : (type : ColumnType) (bytes : Bytes) → is_value type bytes ≡ true → IsStored type bytes
is_stored types.Text bytes is = tt
is_stored types.Int bytes is = search (rules, is)
is_stored types.BigInt bytes is = search (rules, is)
is_stored types.Uuid bytes is = search (rules, is)

pub value_again : (type : ColumnType) (bytes : Bytes) → ((i : ℕ) → get_or bytes i 0 < 256) → is_value type bytes ≡ true → Some (value_stored type bytes) ≡ value_in (Some type) bytes
value_again type bytes fits is =
    let same = stored_again type bytes fits (is_stored type bytes is) in
    let all : pointwise nat_eq (stored (value_stored type bytes)) bytes ≡ true = ap (λ (l : Bytes). pointwise nat_eq l bytes) same ∙ same_self bytes in
    sym (ap (λ (b : Bool). then_some (b && pointwise nat_eq (stored (value_stored type bytes)) bytes) (value_stored type bytes)) is ∙ ap (λ (b : Bool). then_some b (value_stored type bytes)) all)

pub utf8_test : (bytes : Bytes) (test : Bool) → (test ≡ true) ↔ IsUtf8 bytes → test ≡ is_utf8 bytes
utf8_test bytes true h = sym (is_utf8-from_IsUtf8 bytes (h.0 refl))
utf8_test bytes false h = by_test (is_utf8 bytes) refl where
  by_test : (b : Bool) → is_utf8 bytes ≡ b → false ≡ b
  by_test false p = refl
  by_test true p = h.1 (IsUtf8-from_is_utf8 bytes p)
