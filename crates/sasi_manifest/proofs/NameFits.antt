-- When the names and the types of columns fit.
use Rattle.std.proofs.Common.{◌≡◌, Bool, true, false, not, ◌&&◌, length, refl, ap, ◌∙◌, arith}
use Rattle.std.specs.Int.{w8}
use Rattle.std.specs.List.{list_any, list_all}
use Rattle.std.specs.Prelude.{List}
use Rattle.sasi_types.specs.declared.column.ColumnType.{ColumnType}
use Rattle.sasi_types.specs.declared.column.ColumnType.TheVariants as types
use Rattle.sasi_host.specs.Names.{Bytes}
use Rattle.sasi_model.specs.Statements.{same}
use Rattle.sasi_model.specs.Tokens.{is_word_byte}
use Rattle.sasi_formats.specs.Codings.{when_is}
use Rattle.sasi_formats.specs.Formats.{Fits}
use Rattle.sasi_formats.proofs.Fitting.{both_true, when_true, number_fits, range_fits, fits_range}
use Rattle.sasi_manifest.specs.Edits.{name, type}
use Rattle.sasi_manifest.specs.Abbreviations.{is_open_name}
use Rattle.sasi_manifest.specs.Naming.{IsName, IsFree}

pub not_any : (b : Bool) → not b ≡ true → b ≡ false
not_any true h = absurd cc
not_any false h = refl

pub open_name_fits : (taken : List Bytes) (n : Bytes) → IsName n → IsFree taken n → Fits (name taken) n
open_name_fits taken n is free =
    let open_name : is_open_name taken n ≡ true = ap (λ (b : Bool). b && not (list_any (same n) taken)) is.word ∙ ap not free in
    (range_fits w8 1 48 (length n) (omega (arith, is.short)) is.some is.short, when_true (is_open_name taken n) n open_name)

pub record FitsName (taken : List Bytes) (n : Bytes) : Type 0 where
  pub is : IsName n
  pub free : IsFree taken n

pub fits_name : (taken : List Bytes) (n : Bytes) → Fits (name taken) n → FitsName taken n
fits_name taken n h =
    let range = fits_range w8 1 48 (length n) h.0 in
    let tests = both_true (list_all is_word_byte n) (not (list_any (same n) taken)) (when_is (is_open_name taken n) n n h.1).0 in
    record { is = record { some = range.above; short = range.below; word = tests.0 }; free = not_any (list_any (same n) taken) tests.1 }

pub type_fits : (t : ColumnType) → Fits type t
type_fits types.Text = (number_fits w8 0 (omega arith), refl)
type_fits types.Int = (number_fits w8 1 (omega arith), refl)
type_fits types.BigInt = (number_fits w8 2 (omega arith), refl)
type_fits types.Uuid = (number_fits w8 3 (omega arith), refl)
