-- The times of the changes that writes make.
use Rattle.std.proofs.Common.{◌≡◌, ℕ, zero, suc, ◌≤◌, true, false, cond, List, [], ◌∷◌, map, Option, None, Some, sym, ap, ◌∙◌, arith}
use Rattle.std.specs.FinMap as fin
use Rattle.std.specs.Cmp.{nat_cmp_total}
use Rattle.std.specs.List.{zip}
use Rattle.std.specs.Ordering.{nat_cmp, eq_by_cmp}
use Rattle.sasi_types.specs.declared.literal.Literal.TheVariants.{Null}
use Rattle.sasi_types.specs.declared.cell.Cell.{Cell}
use Rattle.sasi_types.specs.declared.literal.Literal.{Literal}
use Rattle.sasi_types.specs.declared.statement.Statement.{Statement}
use Rattle.sasi_types.specs.declared.statement.Statement.TheVariants.{Insert, Update, Delete}
use Rattle.sasi_cells.proofs.Laws.Times.{values_below}
use Rattle.sasi_model.specs.Cells.{Cells, empty_partition, max_timestamp_of}
use Rattle.sasi_model.specs.State.{Definition, number_of_column}
use Rattle.sasi_model.specs.Refusals.{type_of_column}
use Rattle.sasi_model.specs.Step.{cells_set, with_column_cell}
use Rattle.sasi_model.specs.Abbreviations.{marker, value_set}
use Rattle.sasi_machine.specs.Writes.{change_in}

-- no cell is later
abbrev AreWithin : ℕ → Cells → Type 0
AreWithin t cells = (column : ℕ) (cell : Cell) → fin.get cells column ≡ Some cell → cell.time ≤ t

none_within : (t : ℕ) → AreWithin t fin.empty
none_within t column cell got = let none : None ≡ Some cell = sym (fin.get-empty nat_cmp column) ∙ got in cc

insert_within : (t n : ℕ) (cells : Cells) (new : Cell) → AreWithin t cells → new.time ≤ t → AreWithin t (fin.insert cells n new)
insert_within t n cells new within new_within column cell got =
    elim (eq_by_cmp nat_cmp column n) as (λ b. cond b (Some new) (fin.get cells column) ≡ Some cell → cell.time ≤ t) [
      | true ↦ λ is. let same : new ≡ cell = cc in omega (arith, ap (λ (c : Cell). c.time) same)
      | false ↦ λ is. within column cell is
    ] (sym (fin.get-insert nat_cmp_total cells n new column) ∙ got)

with_within : (t : ℕ) (number : Option ℕ) (cells : Cells) (new : Cell) → AreWithin t cells → new.time ≤ t → AreWithin t (with_column_cell number new cells)
with_within t None cells new within new_within = within
with_within t (Some zero) cells new within new_within = within
with_within t (Some (suc n)) cells new within new_within = insert_within t (suc n) cells new within new_within

cells_within : (d : Definition) (t : ℕ) (sets : List (List ℕ × Literal)) → AreWithin t (cells_set d t sets)
cells_within d t [] = none_within t
cells_within d t (set ∷ sets) =
    let cell : Cell = record { time = t; value = value_set (type_of_column d set.0) set.1 } in
    let soon : cell.time ≤ t = omega arith in
    with_within t (number_of_column d set.0) (cells_set d t sets) cell (cells_within d t sets) soon

-- the largest timestamp of the empty partition is 0
pub empty_time : max_timestamp_of empty_partition ≡ 0
empty_time = omega (arith, values_below 0 fin.empty (none_within 0))

-- no timestamp of a write's change is above that of the write
pub change_within : (d : Definition) (t : ℕ) (statement : Statement) → max_timestamp_of (change_in d t statement) ≤ t
change_within d t (Insert table columns values time) =
    let cells = cells_set d t (zip columns values) in
    let soon : (marker t).time ≤ t = omega arith in
    omega (arith, values_below t (fin.insert cells 0 (marker t)) (insert_within t 0 cells (marker t) (cells_within d t (zip columns values)) soon))
change_within d t (Update table time sets key value) = omega (arith, values_below t (cells_set d t sets) (cells_within d t sets))
change_within d t (Delete table [] time key value) = omega (arith, values_below t fin.empty (none_within t))
change_within d t (Delete table (column ∷ columns) time key value) =
    let sets : List (List ℕ × Literal) = map (λ name. (name, Null)) (column ∷ columns) in
    omega (arith, values_below t (cells_set d t sets) (cells_within d t sets))
change_within d t statement = omega (arith, values_below t fin.empty (none_within t))
