-- The types of regular columns, by their numbers.
use Rattle.std.proofs.Common.{◌≡◌, ◌≢◌, ℕ, zero, suc, ◌-◌, Bool, true, false, cond, nat_eq, nat_lt, List, [], ◌∷◌, map, slice_get, Option, None, Some, refl, sym, ap, subst, arith}
use Rattle.std.proofs.lemmas.Bool.Decides.{nat_tests}
use Rattle.sasi_types.specs.declared.column.ColumnType.{ColumnType}
use Rattle.sasi_cells.proofs.Laws.Sorted.{first}
use Rattle.sasi_model.specs.State.{Column, Definition, number_at, number_of_column, position_in}
use Rattle.sasi_model.specs.Abbreviations.{numbered_at, one_more, types_of}
use Rattle.std.specs.List.{remove}
use Rattle.std.specs.Option.{option_map}
use Rattle.sasi_model.specs.Statements.{same}
use Rattle.sasi_model.specs.Refusals.{type_of_column}

-- the types of the regular columns, which are all but the key
abbrev pub regular_types : ℕ → List Column → List ColumnType
regular_types key [] = []
regular_types zero (column ∷ columns) = map (λ c. c.1) columns
regular_types (suc key) (column ∷ columns) = column.1 ∷ regular_types key columns

pub regular_are : (key : ℕ) (columns : List Column) → map (λ (c : Column). c.1) (remove columns key) ≡ regular_types key columns
regular_are zero [] = refl
regular_are (suc key) [] = refl
regular_are zero (c ∷ cs) = refl
regular_are (suc key) (c ∷ cs) = ap (λ (rest : List ColumnType). c.1 ∷ rest) (regular_are key cs)

-- the position of a regular column among these
abbrev regular_position : ℕ → ℕ → ℕ
regular_position key position = cond (nat_lt position key) position (position - 1)

types_at : (position : ℕ) (columns : List Column) (c : Column) → slice_get columns position ≡ Some c → slice_get (map (λ (c : Column). c.1) columns) position ≡ Some c.1
types_at position [] c got = cc
types_at zero (x ∷ columns) c got = let same : x ≡ c = (let e : Some x ≡ Some c = got in cc) in ap (λ (c : Column). Some c.1) same
types_at (suc position) (x ∷ columns) c got = types_at position columns c got

regular_at : (key position : ℕ) (columns : List Column) (c : Column) → slice_get columns position ≡ Some c → position ≢ key → slice_get (regular_types key columns) (regular_position key position) ≡ Some c.1
regular_at key position [] c got other = cc
regular_at zero zero (x ∷ columns) c got other = absurd (other refl)
regular_at zero (suc position) (x ∷ columns) c got other =
    let e : regular_position 0 (suc position) ≡ position = grind (arith, nat_tests) in
    rw e (types_at position columns c got)
regular_at (suc key) zero (x ∷ columns) c got other =
    let same_column : x ≡ c = (let e : Some x ≡ Some c = got in cc) in
    let first_is : regular_position (suc key) 0 ≡ 0 = first_place key in
    rw first_is (ap (λ (c : Column). Some c.1) same_column)
  where
    first_place : (key : ℕ) → regular_position (suc key) 0 ≡ 0
    first_place key = elim (nat_lt 0 (suc key)) as (λ v. cond v 0 (0 - 1) ≡ 0) [ true ↦ refl | false ↦ omega arith ]
regular_at (suc key) (suc position) (x ∷ columns) c got other =
    let apart : position ≢ key = (λ e. other (ap (λ n. suc n) e)) in
    let e : regular_position (suc key) (suc position) ≡ suc (regular_position key position) = later key position apart in
    rw e (regular_at key position columns c got apart)
  where
    later : (key position : ℕ) → position ≢ key → regular_position (suc key) (suc position) ≡ suc (regular_position key position)
    later key position apart = grind (arith, nat_tests)

-- the number of a regular column is its position among the types
numbered_type : (d : Definition) (position number : ℕ) (c : Column) → slice_get d.columns position ≡ Some c → number_at d.key position ≡ suc number → slice_get (types_of d) (suc number) ≡ Some c.1
numbered_type d position number c got is =
    subst (λ (types : List ColumnType). slice_get types number ≡ Some c.1) (sym (regular_are d.key d.columns)) (by (nat_eq position d.key) (nat_lt position d.key) refl refl is)
  where
    by : (same before : Bool) → nat_eq position d.key ≡ same → nat_lt position d.key ≡ before → cond same 0
        (cond before (suc position) position) ≡ suc number → slice_get (regular_types d.key d.columns) number ≡ Some c.1
    by true before here first e = absurd (omega arith)
    by false true here first e =
        let apart : position ≢ d.key = (λ p. let t : nat_eq position d.key ≡ true = grind (arith, nat_tests) in cc) in
        let n : regular_position d.key position ≡ number = rw first (omega arith) in
        subst (λ n. slice_get (regular_types d.key d.columns) n ≡ Some c.1) n (regular_at d.key position d.columns c got apart)
    by false false here first e =
        let apart : position ≢ d.key = (λ p. let t : nat_eq position d.key ≡ true = grind (arith, nat_tests) in cc) in
        let n : regular_position d.key position ≡ number = rw first (omega arith) in
        subst (λ n. slice_get (regular_types d.key d.columns) n ≡ Some c.1) n (regular_at d.key position d.columns c got apart)

-- what a name says of a regular column
pub record IsRegular (d : Definition) (name : List ℕ) (number : ℕ) : Type 0 where
  pub type : ColumnType
  pub typed : type_of_column d name ≡ Some type
  pub listed : slice_get (types_of d) number ≡ Some type

abbrev HasColumnAt : List Column → ℕ → Type 0
HasColumnAt columns position = (c : Column) × (slice_get columns position ≡ Some c)

position_by : (here : Bool) (o : Option ℕ) (x : Column) (columns : List Column) (position : ℕ) → ((n : ℕ) → o ≡ Some n → HasColumnAt columns n)
    → cond here (Some 0) (one_more o) ≡ Some position → HasColumnAt (x ∷ columns) position
position_by true o x columns position later e = let zero_is : 0 ≡ position = cc in subst (HasColumnAt (x ∷ columns)) zero_is (x, refl)
position_by false None x columns position later e = cc
position_by false (Some n) x columns position later e = let suc_is : suc n ≡ position = cc in let there = later n refl in subst (HasColumnAt (x ∷ columns)) suc_is (there.0, there.1)

pub position_inside : (name : List ℕ) (columns : List Column) (position : ℕ) → position_in name columns ≡ Some position → HasColumnAt columns position
position_inside name [] position is = cc
position_inside name (x ∷ columns) position is = position_by (same name x.0) (position_in name columns) x columns position (λ n found. position_inside name columns n found) is

pub regular : (d : Definition) (name : List ℕ) (number : ℕ) → number_of_column d name ≡ Some (suc number) → IsRegular d name (suc number)
regular d name number is = by (position_in name d.columns) refl is
  where
    by : (o : Option ℕ) → position_in name d.columns ≡ o → numbered_at d.key o ≡ Some (suc number) → IsRegular d name (suc number)
    by None found e = cc
    by (Some position) found e =
        let at : number_at d.key position ≡ suc number = (let f : Some (number_at d.key position) ≡ Some (suc number) = e in cc) in
        let there = position_inside name d.columns position found in
        record {
          type = there.0.1;
          typed = rw found (ap (λ (o : Option Column). option_map (λ (c : Column). c.1) o) there.1);
          listed = numbered_type d position number there.0 there.1 at;
        }
