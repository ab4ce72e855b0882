-- A value has the stored bytes of its type, which determine it.
use Rattle.std.proofs.Common.{◌≡◌, ◌<◌, ◌^◌, ℕ, ℤ, Bool, true, ◌&&◌, length, Option, None, Some, refl, sym, ap, ◌∙◌, subst, arith, rules, List}
use Rattle.std.specs.Prelude.{nat_eq, FitsSigned, slice_get}
use Rattle.std.specs.Int.{to_be_bytes, from_be_bytes, cast_unsigned, cast_signed, w32, w64}
use Rattle.std.specs.Cmp.Lexicographic.{pointwise}
use Rattle.std.proofs.Common.{lit<}
use Rattle.std.proofs.Math.Facts.{Fits-of_z, Fits-of_lt, sfits_to_z}
use Rattle.std.proofs.lemmas.Int.{to_z-of_z}
use Rattle.std.proofs.lemmas.Nat.{from_be_bytes-to_be_bytes_4, from_be_bytes-to_be_bytes_8}
use Rattle.std.proofs.lemmas.Str.{IsUtf8-from_is_utf8, is_utf8-from_IsUtf8}
use Rattle.sasi_host.specs.Names.{Bytes}
use Rattle.sasi_types.specs.declared.column.ColumnType.{ColumnType}
use Rattle.sasi_types.specs.declared.column.ColumnType.TheVariants as types
use Rattle.sasi_types.specs.declared.value.Value.{Value}
use Rattle.sasi_types.specs.declared.value.Value.TheVariants.{Text, Int, BigInt, Uuid}
use Rattle.sasi_types.specs.Value.{stored, type_of}
use Rattle.sasi_model.specs.Step.{value_stored}
use Rattle.sasi_model.specs.Stored.{HasBytes, IsValueOf, IsTypedAt}
use Rattle.std.specs.Bool.{then_some}
use Rattle.sasi_formats.specs.Codings.{when_is}
use Rattle.sasi_formats.proofs.NumberLaws.{same_self}
use Rattle.sasi_formats.proofs.Fitting.{both_true}
use Rattle.sasi_body.specs.Body.{is_value, value_in}
use Rattle.sasi_body.specs.Abbreviations.{is_typed}

-- ---- the bytes of a type

pub value_is : (kind : ColumnType) (bytes : Bytes) → IsValueOf kind bytes → is_value kind bytes ≡ true
value_is types.Text bytes is = is_utf8-from_IsUtf8 bytes is
value_is types.Int bytes is = search (rules, is)
value_is types.BigInt bytes is = search (rules, is)
value_is types.Uuid bytes is = search (rules, is)

pub is_value_of : (kind : ColumnType) (bytes : Bytes) → is_value kind bytes ≡ true → IsValueOf kind bytes
is_value_of types.Text bytes is = IsUtf8-from_is_utf8 bytes is
is_value_of types.Int bytes is = search (rules, is)
is_value_of types.BigInt bytes is = search (rules, is)
is_value_of types.Uuid bytes is = search (rules, is)

pub typed_is : (listed : List ColumnType) (n : ℕ) (bytes : Bytes) → IsTypedAt listed n bytes → is_typed (slice_get listed n) bytes ≡ true
typed_is listed n bytes is = ap (λ (k : Option ColumnType). is_typed k bytes) is.listed ∙ value_is is.type bytes is.value

pub is_typed_at : (listed : List ColumnType) (n : ℕ) (bytes : Bytes) → is_typed (slice_get listed n) bytes ≡ true → IsTypedAt listed n bytes
is_typed_at listed n bytes is = by_kind (slice_get listed n) refl is where
  by_kind : (k : Option ColumnType) → slice_get listed n ≡ k → is_typed k bytes ≡ true → IsTypedAt listed n bytes
  by_kind None at h = absurd cc
  by_kind (Some kind) at h = record { type = kind; listed = at; value = is_value_of kind bytes h }

-- ---- a value is read from its stored bytes

decodes : (kind : ColumnType) (x : Value) → is_value kind (stored x) ≡ true → value_stored kind (stored x) ≡ x → value_in (Some kind) (stored x) ≡ Some x
decodes kind x is same =
    let all : pointwise nat_eq (stored (value_stored kind (stored x))) (stored x) ≡ true = ap (λ (v : Value). pointwise nat_eq (stored v) (stored x)) same ∙ same_self (stored x) in
    ap (λ (b : Bool). then_some (b && pointwise nat_eq (stored (value_stored kind (stored x))) (stored x)) (value_stored kind (stored x))) is
    ∙ ap (λ (b : Bool). then_some b (value_stored kind (stored x))) all
    ∙ ap (λ (v : Value). Some v) same

pub value_decodes : (x : Value) → HasBytes x → value_in (Some (type_of x)) (stored x) ≡ Some x
value_decodes (Text text) has = decodes types.Text (Text text) (is_utf8-from_IsUtf8 text has.0) refl
value_decodes (Int z) has =
    decodes types.Int (Int z) refl (ap (λ (n : ℕ). Int (cast_signed w32 n)) (from_be_bytes-to_be_bytes_4 (cast_unsigned w32 z) (Fits-of_z has).fits) ∙ ap (λ (y : ℤ). Int y) (to_z-of_z w32 z has))
value_decodes (BigInt z) has =
    decodes types.BigInt (BigInt z) refl (ap (λ (n : ℕ). BigInt (cast_signed w64 n)) (from_be_bytes-to_be_bytes_8 (cast_unsigned w64 z) (Fits-of_z has).fits) ∙ ap (λ (y : ℤ). BigInt y) (to_z-of_z w64 z has))
value_decodes (Uuid bytes) has = decodes types.Uuid (Uuid bytes) (search (rules, has)) refl

-- a value that has bytes has at most 65,535
pub value_short : (v : Value) → HasBytes v → length (stored v) < 2 ^ 16
value_short (Text text) has = has.1
value_short (Int number) has = lit< tt
value_short (BigInt number) has = lit< tt
value_short (Uuid bytes) has = omega (arith, has)

-- ---- and has bytes

bytes_fit_4 : (n : ℕ) → from_be_bytes w32 (to_be_bytes w32 n) < 2 ^ 32
bytes_fit_4 n = omega arith

bytes_fit_8 : (n : ℕ) → from_be_bytes w64 (to_be_bytes w64 n) < 2 ^ 64
bytes_fit_8 n = omega arith

pub kind_again : (kind : ColumnType) (bytes : Bytes) → type_of (value_stored kind bytes) ≡ kind
kind_again types.Text bytes = refl
kind_again types.Int bytes = refl
kind_again types.BigInt bytes = refl
kind_again types.Uuid bytes = refl

has_bytes : (kind : ColumnType) (x : Value) → type_of x ≡ kind → is_value kind (stored x) ≡ true → value_stored kind (stored x) ≡ x → length (stored x) < 2 ^ 16 → HasBytes x
has_bytes kind (Text text) of is same short = let k : is_value types.Text text ≡ true = ap (λ (t : ColumnType). is_value t text) of ∙ is in (IsUtf8-from_is_utf8 text k, short)
has_bytes kind (Int z) of is same short =
    let m = from_be_bytes w32 (to_be_bytes w32 (cast_unsigned w32 z)) in
    let again : Int (cast_signed w32 m) ≡ Int z = ap (λ (t : ColumnType). value_stored t (stored (Int z))) of ∙ same in
    let number : cast_signed w32 m ≡ z = cc in
    subst (λ (y : ℤ). FitsSigned w32 y) number (sfits_to_z (Fits-of_lt (bytes_fit_4 (cast_unsigned w32 z))))
has_bytes kind (BigInt z) of is same short =
    let m = from_be_bytes w64 (to_be_bytes w64 (cast_unsigned w64 z)) in
    let again : BigInt (cast_signed w64 m) ≡ BigInt z = ap (λ (t : ColumnType). value_stored t (stored (BigInt z))) of ∙ same in
    let number : cast_signed w64 m ≡ z = cc in
    subst (λ (y : ℤ). FitsSigned w64 y) number (sfits_to_z (Fits-of_lt (bytes_fit_8 (cast_unsigned w64 z))))
has_bytes kind (Uuid bytes) of is same short = let k : is_value types.Uuid bytes ≡ true = ap (λ (t : ColumnType). is_value t bytes) of ∙ is in search (rules, k)

pub record IsOf (kind : ColumnType) (x : Value) : Type 0 where
  pub type : type_of x ≡ kind
  pub has : HasBytes x

-- a value that its stored bytes give back is one of the type
pub value_of_type : (kind : ColumnType) (x : Value) → length (stored x) < 2 ^ 16 → value_in (Some kind) (stored x) ≡ Some x → IsOf kind x
value_of_type kind x short h =
    let is = when_is (is_value kind (stored x) && pointwise nat_eq (stored (value_stored kind (stored x))) (stored x)) (value_stored kind (stored x)) x h in
    let type : type_of x ≡ kind = ap type_of (sym is.1) ∙ kind_again kind (stored x) in
    record { type = type; has = has_bytes kind x type (both_true (is_value kind (stored x)) (pointwise nat_eq (stored (value_stored kind (stored x))) (stored x)) is.0).0 is.1 short }
