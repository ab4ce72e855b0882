-- The columns of a table: how many they are, and the number of a regular one.
use Rattle.std.proofs.Common.{◌≡◌, ℕ, zero, suc, ◌+◌, ◌<◌, ◌≤◌, Bool, true, false, cond, not, ◌||◌, nat_eq, nat_lt, List, [], ◌∷◌, length, slice_get, Option, None, Some, refl, ap, subst, ◌∙◌, arith}
use Rattle.std.proofs.lemmas.Bool.Decides.{nat_tests}
use Rattle.std.specs.Cmp.{nat_cmp_total}
use Rattle.std.specs.FinMap as fin
use Rattle.std.proofs.lemmas.List.{length-map}
use Rattle.sasi_schema.specs.Numbers.{IsKeyAt}
use Rattle.std.specs.Ordering.{nat_cmp, eq_by_cmp}
use Rattle.sasi_types.specs.declared.cell.Cell.{Cell}
use Rattle.sasi_types.specs.declared.literal.Literal.{Literal}
use Rattle.sasi_model.specs.Cells.{Cells}
use Rattle.sasi_model.specs.State.{Column, Definition, number_at, number_of_column, position_in}
use Rattle.sasi_model.specs.Abbreviations.{column_at, name_or_none, one_more, value_set}
use Rattle.sasi_model.specs.Statements.{same}
use Rattle.sasi_model.specs.Refusals.{is_column, is_key, no_regular_column, type_of_column}
use Rattle.sasi_model.specs.Step.{cells_set, with_column_cell}
use Rattle.sasi_machine.proofs.ColumnTypes.{position_inside, regular_are, regular_types}
use Rattle.sasi_machine.proofs.CellCounts.{some_cell}
use Rattle.sasi_machine.proofs.ChangeBodies.{IsSmall}

regular_length : (key : ℕ) (columns : List Column) → key < length columns → length (regular_types key columns) + 1 ≡ length columns
regular_length key [] inside = absurd (omega arith)
regular_length zero (x ∷ columns) inside = omega (arith, length-map columns (λ (c : Column). c.1))
regular_length (suc key) (x ∷ columns) inside = omega (arith, regular_length key columns (omega arith))

column_inside : (columns : List Column) (position : ℕ) (c : Column) → slice_get columns position ≡ Some c → position < length columns
column_inside [] position c got = cc
column_inside (x ∷ columns) zero c got = omega arith
column_inside (x ∷ columns) (suc position) c got = omega (arith, column_inside columns position c got)

pub small : (d : Definition) → IsKeyAt d.key d.columns → length d.columns ≤ 64 → IsSmall d
small d at few =
    let there = position_inside _ d.columns d.key at in
    let inside = column_inside d.columns d.key there.0 there.1 in
    record { types = omega (arith, ap length (regular_are d.key d.columns), regular_length d.key d.columns inside) }

-- the column at a position has its name
named_by : (here : Bool) (o : Option ℕ) (name : List ℕ) (x : Column) (columns : List Column) (position : ℕ) → same name x.0 ≡ here
    → ((n : ℕ) → o ≡ Some n → same name (name_or_none (column_at n columns)) ≡ true) → cond here (Some 0) (one_more o) ≡ Some position
    → same name (name_or_none (column_at position (x ∷ columns))) ≡ true
named_by true o name x columns position is later e = let zero_is : 0 ≡ position = cc in subst (λ n. same name (name_or_none (column_at n (x ∷ columns))) ≡ true) zero_is is
named_by false None name x columns position is later e = cc
named_by false (Some n) name x columns position is later e = let suc_is : suc n ≡ position = cc in subst (λ n. same name (name_or_none (column_at n (x ∷ columns))) ≡ true) suc_is (later n refl)

position_named : (name : List ℕ) (columns : List Column) (position : ℕ) → position_in name columns ≡ Some position → same name (name_or_none (column_at position columns)) ≡ true
position_named name [] position is = cc
position_named name (x ∷ columns) position is = named_by (same name x.0) (position_in name columns) name x columns position refl (λ n found. position_named name columns n found) is

number_of_key : (key position : ℕ) → number_at key position ≡ 0 → position ≡ key
number_of_key key position is = by (nat_eq position key) (nat_lt position key) refl refl is
  where
    by : (x y : Bool) → nat_eq position key ≡ x → nat_lt position key ≡ y → cond x 0 (cond y (suc position) position) ≡ 0 → position ≡ key
    by true y here before e = grind (arith, nat_tests)
    by false true here before e = absurd (omega arith)
    by false false here before e = grind (arith, nat_tests)

-- a name that is a regular column's
pub regular_number : (d : Definition) (name : List ℕ) → (no_regular_column d name).0 ≡ false → (n : ℕ) × (number_of_column d name ≡ Some (suc n))
regular_number d name passes = by (position_in name d.columns) refl
  where
    parts : (x y : Bool) → (not x || y) ≡ false → (x ≡ true) × (y ≡ false)
    parts true false e = (refl, refl)
    parts true true e = cc
    parts false y e = cc

    regular_of : (number : ℕ) (position : ℕ) → position_in name d.columns ≡ Some position → number_at d.key position ≡ number → (n : ℕ) × (number_of_column d name ≡ Some (suc n))
    regular_of zero position found at =
        let key : position ≡ d.key = number_of_key d.key position at in
        let there = position_inside name d.columns position found in
        let named : same name there.0.0 ≡ true = rw there.1 at (position_named name d.columns position found) in
        let is : is_key d name ≡ true = rw (← key, there.1) named in
        let other : is_key d name ≡ false = (parts (is_column d name) (is_key d name) passes).1 in
        cc
    regular_of (suc n) position found at = (n, rw found (ap (λ m. Some m) at))

    by : (o : Option ℕ) → position_in name d.columns ≡ o → (n : ℕ) × (number_of_column d name ≡ Some (suc n))
    by None found =
        let there : is_column d name ≡ true = (parts (is_column d name) (is_key d name) passes).0 in
        let not_there : is_column d name ≡ false = rw found refl in
        cc
    by (Some position) found = regular_of (number_at d.key position) position found refl

-- there is a cell of the first column that is set
pub first_cell : (d : Definition) (t : ℕ) (set : List ℕ × Literal) (sets : List (List ℕ × Literal)) → (no_regular_column d set.0).0 ≡ false → 1 ≤ length (fin.entries (cells_set d t (set ∷ sets)))
first_cell d t set sets passes =
    let n = regular_number d set.0 passes in
    let cell : Cell = record { time = t; value = value_set (type_of_column d set.0) set.1 } in
    let at : cells_set d t (set ∷ sets) ≡ fin.insert (cells_set d t sets) (suc n.0) cell = ap (λ (o : Option ℕ). with_column_cell o cell (cells_set d t sets)) n.1 in
    let got : fin.get (fin.insert (cells_set d t sets) (suc n.0) cell) (suc n.0) ≡ Some cell = fin.get-insert nat_cmp_total
    (cells_set d t sets) (suc n.0) cell (suc n.0) ∙ ap (λ b. cond b (Some cell) (fin.get (cells_set d t sets) (suc n.0))) (itself (suc n.0)) in
    some_cell (cells_set d t (set ∷ sets)) (suc n.0) cell (ap (λ (c : Cells). fin.get c (suc n.0)) at ∙ got)
  where
    itself : (k : ℕ) → eq_by_cmp nat_cmp k k ≡ true
    itself k = grind (arith, nat_tests)
