-- The cells that a write sets: each is of a regular column, with a value of its type or a tombstone.
use Rattle.std.proofs.Common.{◌≡◌, ℕ, zero, suc, ◌≤◌, Bool, true, false, cond, not, List, [], ◌∷◌, slice_get, Option, None, Some, refl, sym, subst, ◌∙◌, arith}
use Rattle.std.specs.Cmp.{nat_cmp_total}
use Rattle.std.specs.FinMap as fin
use Rattle.std.specs.List.{AllByRecursion}
use Rattle.std.specs.Ordering.{nat_cmp, eq_by_cmp}
use Rattle.sasi_types.specs.declared.cell.Cell.{Cell}
use Rattle.sasi_types.specs.declared.column.ColumnType.{ColumnType}
use Rattle.sasi_types.specs.declared.literal.Literal.{Literal}
use Rattle.sasi_types.specs.declared.value.Value.{Value}
use Rattle.sasi_types.specs.Value.{type_of}
use Rattle.sasi_cells.proofs.Laws.Sorted.{equal_columns}
use Rattle.sasi_model.specs.Cells.{Cells}
use Rattle.sasi_model.specs.State.{Definition, number_of_column}
use Rattle.sasi_model.specs.Refusals.{each, is_of, number_range, type_of_column, value_too_long, wrong_type}
use Rattle.sasi_model.specs.Abbreviations.{first_refusal, value_set, types_of}
use Rattle.sasi_model.specs.Step.{cells_set, with_column_cell}
use Rattle.sasi_model.specs.Stored.{HasBytes}
use Rattle.sasi_model.specs.WellFormed.{IsWellFormedLiteral}
use Rattle.sasi_schema.proofs.RuleLaws.{none_first}
use Rattle.sasi_machine.proofs.ColumnTypes.{regular}
use Rattle.sasi_machine.proofs.GivenValues.{given_fits}

-- no rule refuses what the column is set to
pub record IsGood (d : Definition) (set : List ℕ × Literal) : Type 0 where
  pub typed : (wrong_type d set.0 set.1).0 ≡ false
  pub within : (number_range d set.0 set.1).0 ≡ false
  pub short : (value_too_long d set.0 set.1).0 ≡ false
  pub written : IsWellFormedLiteral set.1

-- a cell of this time, of a regular column, and with a value of its type if it is live
pub record IsGoodCell (d : Definition) (t column : ℕ) (cell : Cell) : Type 0 where
  pub time_is : cell.time ≡ t
  pub some : 1 ≤ column
  pub type : ColumnType
  pub listed : slice_get (types_of d) column ≡ Some type
  pub fits : (value : Value) → cell.value ≡ Some value → HasBytes value × (type_of value ≡ type)

abbrev AreGoodCells : Definition → ℕ → Cells → Type 0
AreGoodCells d t cells = (column : ℕ) (cell : Cell) → fin.get cells column ≡ Some cell → IsGoodCell d t column cell

is_true : (b : Bool) → not b ≡ false → b ≡ true
is_true true e = refl
is_true false e = cc

set_good : (d : Definition) (t : ℕ) (set : List ℕ × Literal) (number : ℕ) → IsGood d set → number_of_column d set.0 ≡ Some (suc number)
    → IsGoodCell d t (suc number) (record { time = t; value = value_set (type_of_column d set.0) set.1 })
set_good d t set number good is =
    let r = regular d set.0 number is in
    record {
      time_is = refl;
      some = omega arith;
      type = r.type;
      listed = r.listed;
      fits = λ value given. given_fits r.type set.1 value (is_true (is_of r.type set.1) (rw r.typed at good.typed))
          (rw r.typed at good.within) (rw r.typed at good.short) good.written (rw r.typed at given);
    }

with_good : (d : Definition) (t : ℕ) (set : List ℕ × Literal) (o : Option ℕ) (cells : Cells) → number_of_column d set.0 ≡ o → IsGood d set
    → AreGoodCells d t cells → AreGoodCells d t (with_column_cell o (record { time = t; value = value_set (type_of_column d set.0) set.1 }) cells)
with_good d t set None cells is good goods = goods
with_good d t set (Some zero) cells is good goods = goods
with_good d t set (Some (suc n)) cells is good goods = λ column cell got.
    let new : Cell = record { time = t; value = value_set (type_of_column d set.0) set.1 } in
    elim (eq_by_cmp nat_cmp column (suc n)) as (λ b. eq_by_cmp nat_cmp column (suc n) ≡ b → cond b (Some new) (fin.get cells column) ≡ Some cell → IsGoodCell d t column cell) [
      | true ↦ λ here e.
          let same_column : suc n ≡ column = sym (equal_columns column (suc n) here) in
          let same_cell : new ≡ cell = cc in
          subst (λ c. IsGoodCell d t c cell) same_column (subst (λ (c : Cell). IsGoodCell d t (suc n) c) same_cell (set_good d t set n good is))
      | false ↦ λ other e. goods column cell e
    ] refl (sym (fin.get-insert nat_cmp_total cells (suc n) new column) ∙ got)

pub cells_good : (d : Definition) (t : ℕ) (sets : List (List ℕ × Literal)) → AllByRecursion (IsGood d) sets → AreGoodCells d t (cells_set d t sets)
cells_good d t [] goods = λ column cell got. let none : None ≡ Some cell = sym (fin.get-empty nat_cmp column) ∙ got in cc
cells_good d t (set ∷ sets) goods = with_good d t set (number_of_column d set.0) (cells_set d t sets) refl goods.0 (cells_good d t sets goods.1)

-- the sets of which no rule refuses one
pub goods : (d : Definition) (sets : List (List ℕ × Literal)) → first_refusal (each (wrong_type d) sets) ≡ None → first_refusal
    (each (number_range d) sets) ≡ None → first_refusal (each (value_too_long d) sets) ≡ None → AllByRecursion
    (λ (s : List ℕ × Literal). IsWellFormedLiteral s.1) sets
    → AllByRecursion (IsGood d) sets
goods d [] wrong range long written = tt
goods d (set ∷ sets) wrong range long written =
    let w = none_first (wrong_type d set.0 set.1) (each (wrong_type d) sets) wrong in
    let r = none_first (number_range d set.0 set.1) (each (number_range d) sets) range in
    let l = none_first (value_too_long d set.0 set.1) (each (value_too_long d) sets) long in
    (record { typed = w.0; within = r.0; short = l.0; written = written.0 }, goods d sets w.1 r.1 l.1 written.1)
