-- The type of a column by its number.
use Rattle.std.proofs.Common.{◌≡◌, true, false, length, get_or, rules, ◌⊎◌, inl, inr, ⊎_elim, ◌<◌, ◌≤◌, ◌-◌, ℕ, zero, suc, List, [], ◌∷◌, map, Option, None, Some, refl, sym, ap, ◌∙◌, arith}
use Rattle.std.specs.Prelude.{nat_lt, slice_get, unwrap_or}
use Rattle.std.proofs.lemmas.Bool.Decides.{nat_tests}
use Rattle.std.proofs.lemmas.Option.{slice_get_past, slice_get_read}
use Rattle.std.specs.List.{remove}
use Rattle.std.specs.Option.{option_map}
use Rattle.sasi_types.specs.declared.column.ColumnType.{ColumnType}
use Rattle.sasi_types.specs.declared.column.ColumnType.TheVariants as types
use Rattle.sasi_model.specs.State.{Column, Definition}
use Rattle.sasi_model.specs.Abbreviations.{kind_of}

-- ---- a list without one item

before : {A : Type 0} (xs : List A) (k i : ℕ) → i < k → slice_get (remove xs k) i ≡ slice_get xs i
before [] zero i less = refl
before [] (suc k) i less = refl
before (x ∷ xs) zero i less = absurd (omega (arith, less))
before (x ∷ xs) (suc k) zero less = refl
before (x ∷ xs) (suc k) (suc i) less = before xs k i (omega (arith, less))

behind : {A : Type 0} (xs : List A) (k i : ℕ) → k ≤ i → slice_get (remove xs k) i ≡ slice_get xs (suc i)
behind [] zero i le = refl
behind [] (suc k) i le = refl
behind (x ∷ xs) zero i le = refl
behind (x ∷ xs) (suc k) zero le = absurd (omega (arith, le))
behind (x ∷ xs) (suc k) (suc i) le = behind xs k i (omega (arith, le))

get_mapped : {A B : Type 0} (f : A → B) (xs : List A) (i : ℕ) → slice_get (map f xs) i ≡ option_map f (slice_get xs i)
get_mapped f [] i = refl
get_mapped f (x ∷ xs) zero = refl
get_mapped f (x ∷ xs) (suc i) = get_mapped f xs i

-- ---- a regular column

-- the type of the column found, and text where none is
abbrev found_type : Option Column → ColumnType
found_type found = unwrap_or (option_map (λ (c : Column). c.1) found) types.Text

regular : (d : Definition) (c position : ℕ) → (c < d.key → position ≡ c) → (d.key ≤ c → position ≡ suc c) → slice_get (remove d.columns d.key) c ≡ slice_get d.columns position
regular d c position low high = by (nat_split c d.key)
  where
    nat_split : (a b : ℕ) → (a < b) ⊎ (b ≤ a)
    nat_split a zero = inr (omega arith)
    nat_split zero (suc b) = inl (omega arith)
    nat_split (suc a) (suc b) = ⊎_elim (λ l. inl (omega (arith, l))) (λ g. inr (omega (arith, g))) (nat_split a b)

    by : (c < d.key) ⊎ (d.key ≤ c) → slice_get (remove d.columns d.key) c ≡ slice_get d.columns position
    by (inl less) = before d.columns d.key c less ∙ ap (slice_get d.columns) (sym (low less))
    by (inr le) = behind d.columns d.key c le ∙ ap (slice_get d.columns) (sym (high le))

pub type_is : (d : Definition) (column position : ℕ) (found : Option Column) → 0 < column → (column ≤ d.key → position ≡ column - 1) → (d.key < column → position ≡ column) → slice_get d.columns position ≡ found
    → found_type found ≡ kind_of d column
type_is d zero position found some low high is = absurd (omega (arith, some))
type_is d (suc c) position found some low high is =
    let at = regular d c position (λ less. omega (arith, low (omega (arith, less)))) (λ le. high (omega (arith, le))) in
    sym (ap (λ (o : Option ColumnType). unwrap_or o types.Text) (get_mapped (λ (c : Column). c.1) (remove d.columns d.key) c) ∙ ap found_type (at ∙ is))

-- ---- a column that is looked up

module _ (d : Definition) (column position : ℕ) (shown : List Column) (is : shown ≡ d.columns) (some : 0 < column) (low : column ≤ d.key → position ≡ column - 1) (high : d.key < column → position ≡ column) where
  pub type_found : (found : Column) → true ≡ nat_lt position (length shown) → found ≡ get_or shown position found → found.1 ≡ kind_of d column
  type_found found within got =
      let inside : position < length shown = search (rules, within) in
      type_is d column position (Some found) some low high (ap (λ l. slice_get l position) (sym is) ∙ slice_get_read shown (length shown) position found refl inside got)

  pub type_missing : false ≡ nat_lt position (length shown) → types.Text ≡ kind_of d column
  type_missing past =
      let end : length shown ≤ position = grind (arith, nat_tests, past) in
      type_is d column position None some low high (ap (λ l. slice_get l position) (sym is) ∙ slice_get_past shown position end)
