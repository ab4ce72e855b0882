-- A cell fits exactly where it is one of the table, above the deletion and after the cells before.
use Rattle.std.proofs.Common.{◌≡◌, ◌-◌, ◌<◌, ◌^◌, ◌≤◌, ℕ, zero, suc, Bool, true, false, ◌&&◌, length, Option, None, Some, refl, sym, ap, ◌∙◌, subst, arith, rules, List, [], ◌∷◌}
use Rattle.std.specs.Int.{w8, w16, w64}
use Rattle.std.specs.Prelude.{nat_lt, nat_le, IfSome, slice_get, ◌==◌, if◌then◌else◌}
use Rattle.std.proofs.lemmas.Bool.Decides.{nat_tests}
use Rattle.sasi_host.specs.declared.damage.FormatRule.TheVariants as rule
use Rattle.sasi_types.specs.declared.column.ColumnType.{ColumnType}
use Rattle.sasi_types.specs.declared.column.ColumnType.TheVariants as types
use Rattle.sasi_types.specs.declared.value.Value.{Value}
use Rattle.sasi_types.specs.declared.value.Value.TheVariants.{Text, Int, BigInt, Uuid}
use Rattle.sasi_types.specs.Value.{stored, type_of}
use Rattle.sasi_model.specs.Stored.{HasBytes, IsCell, IsListed}
use Rattle.sasi_cells.specs.Entries.{Entry}
use Rattle.sasi_formats.specs.Formats.{Fits, Sized}
use Rattle.sasi_formats.specs.Fields.{number, in_range, checked, flag, last}
use Rattle.sasi_formats.proofs.Fitting.{both_true, number_fits, fits_number, checked_fits, fits_checked, range_fits, fits_range}
use Rattle.sasi_body.specs.Body.{value_in, typed, is_next, tag, value, cell}
use Rattle.sasi_body.specs.Abbreviations.{live, may_be}
use Rattle.sasi_body.proofs.TypedValues.{value_decodes, value_short, value_of_type, IsOf}

-- ---- values

-- a value of the column, if the cell is live; the marker is an empty text
pub record FitsColumn (listed : List ColumnType) (column : ℕ) (v : Option Value) : Type 0 where
  pub has : IfSome v HasBytes
  pub marker : column ≡ 0 → v ≡ Some (Text [])
  pub typed_is : (x : Value) → v ≡ Some x → 1 ≤ column → slice_get listed column ≡ Some (type_of x)

tag_fits : (column : ℕ) (b : Bool) → may_be column b ≡ true → Fits (tag column) b
tag_fits column true may = checked_fits rule.Number 1 (may_be column) flag true (number_fits w8 1 (omega arith), refl) may
tag_fits column false may = checked_fits rule.Number 1 (may_be column) flag false (number_fits w8 0 (omega arith), refl) may

live_fits : (listed : List ColumnType) (column : ℕ) (x : Value) → HasBytes x → (column ≡ 0 → x ≡ Text []) → (1 ≤ column → slice_get listed column ≡ Some (type_of x)) → Fits (live listed column) x
live_fits listed column x has marker typed_is = by_test (column == 0) refl where
  marker_fits : (y : Value) → y ≡ Text [] → HasBytes y → Fits (Sized (in_range w16 0 0) rule.Text (typed (Some types.Text))) y
  marker_fits y is has =
      subst (λ (v : Value). Fits (Sized (in_range w16 0 0) rule.Text (typed (Some types.Text))) v) (sym is)
      (range_fits w16 0 0 0 (omega arith) (omega arith) (omega arith), value_decodes (Text []) (subst HasBytes is has))

  by_test : (b : Bool) → (column == 0) ≡ b → Fits (Sized (in_range w16 0 (if b then 0 else 2 ^ 16 - 1)) rule.Text (typed (if b then Some types.Text else slice_get listed column))) x
  by_test true p = let none : column ≡ 0 = search (rules, p) in marker_fits x (marker none) has
  by_test false p =
      let some : 1 ≤ column = grind (arith, nat_tests) in
      (range_fits w16 0 (2 ^ 16 - 1) (length (stored x)) (value_short x has) (omega arith) (omega (arith, value_short x has)), ap (λ (k : Option ColumnType). value_in k (stored x)) (typed_is some) ∙ value_decodes x has)

pub value_fits : (listed : List ColumnType) (column : ℕ) (v : Option Value) → FitsColumn listed column v → Fits (value listed column) v
value_fits listed zero None h = let none : None ≡ Some (Text []) = h.marker refl in absurd cc
value_fits listed (suc c) None h =
    let may : may_be (suc c) false ≡ true = search rules in
    tag_fits (suc c) false may
value_fits listed column (Some x) h =
    (tag_fits column true refl, live_fits listed column x h.has (λ none. let is : Some x ≡ Some (Text []) = h.marker none in cc) (λ some. h.typed_is x refl some))

not_marker : (column : ℕ) → may_be column false ≡ true → 1 ≤ column
not_marker zero h = absurd cc
not_marker (suc c) h = omega arith

marker_is : (x : Value) → IsOf types.Text x → length (stored x) ≤ 0 → x ≡ Text []
marker_is (Text []) is few = refl
marker_is (Text (b ∷ bytes)) is few = absurd (omega (arith, few))
marker_is (Int z) is few = let type = is.type in absurd cc
marker_is (BigInt z) is few = let type = is.type in absurd cc
marker_is (Uuid bytes) is few = let type = is.type in absurd cc

fits_live : (listed : List ColumnType) (column : ℕ) (x : Value) → Fits (live listed column) x → FitsColumn listed column (Some x)
fits_live listed column x h = by_test (column == 0) refl h where
  of_kind : 1 ≤ column → length (stored x) < 2 ^ 16 → (k : Option ColumnType) → slice_get listed column ≡ k → value_in k (stored x) ≡ Some x → FitsColumn listed column (Some x)
  of_kind some short None at g = absurd cc
  of_kind some short (Some kind) at g =
      let is = value_of_type kind x short g in
      record {
        has = is.has;
        marker = λ none. absurd (omega (arith, some, none));
        typed_is = λ y same _. let one : x ≡ y = cc in at ∙ ap (λ (k : ColumnType). Some k) (sym is.type ∙ ap type_of one);
      }

  by_test : (b : Bool) → (column == 0) ≡ b → Fits (Sized (in_range w16 0 (if b then 0 else 2 ^ 16 - 1)) rule.Text (typed (if b then Some types.Text else slice_get listed column))) x → FitsColumn listed column (Some x)
  by_test true p g =
      let none : column ≡ 0 = search (rules, p) in
      let range = fits_range w16 0 0 (length (stored x)) g.0 in
      let is = value_of_type types.Text x range.fits g.1 in
      record { has = is.has; marker = λ _. ap (λ (v : Value). Some v) (marker_is x is range.below); typed_is = λ y same some. absurd (omega (arith, some, none)) }
  by_test false p g =
      let some : 1 ≤ column = grind (arith, nat_tests) in
      let range = fits_range w16 0 (2 ^ 16 - 1) (length (stored x)) g.0 in
      of_kind some range.fits (slice_get listed column) refl g.1

pub fits_value : (listed : List ColumnType) (column : ℕ) (v : Option Value) → Fits (value listed column) v → FitsColumn listed column v
fits_value listed column None h =
    let some = not_marker column (fits_checked rule.Number 1 (may_be column) flag false h).1 in
    record { has = tt; marker = λ none. absurd (omega (arith, some, none)); typed_is = λ x same _. absurd cc }
fits_value listed column (Some x) h = fits_live listed column x h.1

-- ---- cells

-- the cell is one of the table, after the last one before
pub record FitsCell (listed : List ColumnType) (deleted : ℕ) (before : List Entry) (e : Entry) : Type 0 where
  pub is : IsCell deleted e
  pub listed_is : IsListed listed e
  pub next : is_next (last before) e.0 ≡ true

pub cell_fits : (listed : List ColumnType) (deleted : ℕ) (before : List Entry) (e : Entry) → FitsCell listed deleted before e → Fits (cell listed deleted before) e
cell_fits listed deleted before e h =
    let column : nat_lt e.0 (length listed) ≡ true = search (rules, h.listed_is.column) in
    let above : nat_lt deleted e.1.time ≡ true = search (rules, h.is.above) in
    let below : nat_le e.1.time (2 ^ 62) ≡ true = search (rules, h.is.time) in (
      (
        checked_fits rule.Order 8 (is_next (last before)) (checked rule.Number 2 (λ c. nat_lt c (length listed)) (number w16)) e.0 (checked_fits rule.Number 2 (λ c. nat_lt c (length listed)) (number w16) e.0 (number_fits w16 e.0 h.is.column) column) h.next,
        (
          checked_fits rule.Number 8 (λ t. nat_lt deleted t && nat_le t (2 ^ 62)) (number w64) e.1.time (number_fits w64 e.1.time (omega (arith, h.is.time))) (ap (λ (b : Bool). b && nat_le e.1.time (2 ^ 62)) above ∙ below),
          value_fits listed e.0 e.1.value (record { has = h.is.value; marker = h.is.marker; typed_is = h.listed_is.typed }),
        ),
      ),
      refl,
    )

pub fits_cell : (listed : List ColumnType) (deleted : ℕ) (before : List Entry) (e : Entry) → Fits (cell listed deleted before) e → FitsCell listed deleted before e
fits_cell listed deleted before e h =
    let ordered = fits_checked rule.Order 8 (is_next (last before)) (checked rule.Number 2 (λ c. nat_lt c (length listed)) (number w16)) e.0 h.0.0 in
    let column = fits_checked rule.Number 2 (λ c. nat_lt c (length listed)) (number w16) e.0 ordered.0 in
    let time_is = fits_checked rule.Number 8 (λ t. nat_lt deleted t && nat_le t (2 ^ 62)) (number w64) e.1.time h.0.1.0 in
    let tests = both_true (nat_lt deleted e.1.time) (nat_le e.1.time (2 ^ 62)) time_is.1 in
    let v = fits_value listed e.0 e.1.value h.0.1.1 in
    record {
      is = record { column = fits_number w16 e.0 column.0; above = search (rules, tests.0); time = search (rules, tests.1); value = v.has; marker = v.marker };
      listed_is = record { column = search (rules, column.1); typed = v.typed_is };
      next = ordered.1;
    }
