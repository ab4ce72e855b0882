-- Partitions without a deletion, and deletions, have a body in their table.
use Rattle.std.proofs.Common.{◌≡◌, ℕ, zero, suc, ◌<◌, ◌≤◌, ◌^◌, true, false, cond, List, [], ◌∷◌, length, slice_get, Option, None, Some, refl, sym, ap, subst, ◌∙◌, arith}
use Rattle.std.specs.Prelude.{IfSome}
use Rattle.std.proofs.lemmas.Str.{IsUtf8-nil}
use Rattle.std.specs.Cmp.{nat_cmp_total}
use Rattle.std.specs.FinMap as fin
use Rattle.std.specs.List.{AllByRecursion}
use Rattle.std.specs.Ordering.{nat_cmp, eq_by_cmp}
use Rattle.sasi_types.specs.declared.cell.Cell.{Cell}
use Rattle.sasi_types.specs.declared.column.ColumnType.{ColumnType}
use Rattle.sasi_types.specs.declared.literal.Literal.{Literal}
use Rattle.sasi_types.specs.declared.value.Value.{Value}
use Rattle.sasi_types.specs.Value.{type_of}
use Rattle.sasi_cells.proofs.Laws.Sorted.{equal_columns}
use Rattle.sasi_model.specs.Cells.{Cells}
use Rattle.sasi_model.specs.State.{Definition}
use Rattle.sasi_model.specs.Refusals.{each}
use Rattle.sasi_model.specs.Abbreviations.{TIME_LIMIT, marker, types_of}
use Rattle.sasi_model.specs.Step.{cells_set}
use Rattle.sasi_model.specs.Stored.{HasBytes, IsBodyOf, IsCell, IsListed, IsTypedAt}
use Rattle.sasi_machine.proofs.CellEntries.{cells_by}
use Rattle.sasi_machine.proofs.WriteCells.{IsGood, IsGoodCell, cells_good}
use Rattle.sasi_machine.proofs.CellCounts.{few_cells}

-- what is known of a table's definition
pub record IsSmall (d : Definition) : Type 0 where
  pub types : length (types_of d) ≤ 64

inside_types : (ts : List ColumnType) (k : ℕ) (type : ColumnType) → slice_get ts k ≡ Some type → k < length ts
inside_types [] k type got = cc
inside_types (t ∷ ts) zero type got = omega arith
inside_types (t ∷ ts) (suc k) type got = omega (arith, inside_types ts k type got)

good_cell : (d : Definition) (t k : ℕ) (cell : Cell) → IsSmall d → 0 < t → t ≤ TIME_LIMIT → IsGoodCell d t k cell → IsCell 0 (k, cell) × IsListed (types_of d) (k, cell)
good_cell d t k cell small above limit good =
    let inside = inside_types (types_of d) k good.type good.listed in (
      record {
        column = omega (arith, inside, small.types);
        above = omega (arith, good.time_is);
        time = omega (arith, good.time_is);
        value = by cell.value good.fits;
        marker = λ zero_is. absurd (omega (arith, good.some));
      },
      record { column = inside; typed = λ value is some. good.listed ∙ ap (λ (type : ColumnType). Some type) (sym (good.fits value is).1) },
    )
  where
    by : (o : Option Value) → ((value : Value) → o ≡ Some value → HasBytes value × (type_of value ≡ good.type)) → IfSome o HasBytes
    by None fits = tt
    by (Some value) fits = (fits value refl).0

marker_cell : (d : Definition) (t : ℕ) → 0 < t → t ≤ TIME_LIMIT → IsCell 0 (0, marker t) × IsListed (types_of d) (0, marker t)
marker_cell d t above limit = (
  record { column = omega arith; above = above; time = omega arith; value = (IsUtf8-nil, omega arith); marker = λ zero_is. refl },
  record { column = omega arith; typed = λ value is some. absurd (omega arith) },
)

-- the cells that are set
pub set_cells : (d : Definition) (t : ℕ) (sets : List (List ℕ × Literal)) → IsSmall d → 0 < t → t ≤ TIME_LIMIT → AllByRecursion
    (IsGood d) sets → (k : ℕ) (cell : Cell) → fin.get (cells_set d t sets) k ≡ Some cell → IsCell 0 (k, cell) × IsListed (types_of d) (k, cell)
set_cells d t sets small above limit all k cell got = good_cell d t k cell small above limit (cells_good d t sets all k cell got)

-- and with a marker
pub marked_cells : (d : Definition) (t : ℕ) (sets : List (List ℕ × Literal)) → IsSmall d → 0 < t → t ≤ TIME_LIMIT → AllByRecursion
    (IsGood d) sets → (k : ℕ) (cell : Cell) → fin.get (fin.insert (cells_set d t sets) 0 (marker t)) k ≡ Some cell
    → IsCell 0 (k, cell) × IsListed (types_of d) (k, cell)
marked_cells d t sets small above limit all k cell got =
    elim (eq_by_cmp nat_cmp k 0) as (λ b. eq_by_cmp nat_cmp k 0 ≡ b → cond b (Some (marker t)) (fin.get (cells_set d t sets) k) ≡ Some cell → IsCell 0 (k, cell) × IsListed (types_of d) (k, cell)) [
      | true ↦ λ here e.
          let same_column : 0 ≡ k = sym (equal_columns k 0 here) in
          let same_cell : marker t ≡ cell = cc in
          subst (λ c. IsCell 0 (c, cell) × IsListed (types_of d) (c, cell)) same_column (subst (λ (c : Cell). IsCell 0 (0, c) × IsListed (types_of d) (0, c)) same_cell (marker_cell d t above limit))
      | false ↦ λ other e. set_cells d t sets small above limit all k cell e
    ] refl (sym (fin.get-insert nat_cmp_total (cells_set d t sets) 0 (marker t) k) ∙ got)

-- a partition without a deletion
pub part_fits : (d : Definition) (key : List ℕ) (cells : Cells) → IsSmall d → IsTypedAt (types_of d) 0 key → 1 ≤ length key → length key < 2 ^ 16 → 1 ≤ length (fin.entries cells)
    → ((k : ℕ) (cell : Cell) → fin.get cells k ≡ Some cell → IsCell 0 (k, cell) × IsListed (types_of d) (k, cell)) → IsBodyOf (types_of d) key (record { deleted = 0; cells = cells })
part_fits d key cells small typed some short one each = record {
  has = record {
    key_some = some;
    key_short = short;
    deleted = omega arith;
    count = record { few = omega (arith, few_cells cells (length (types_of d)) (λ k cell got. (each k cell got).1.column), small.types); some = λ zero_is. one };
    cells = cells_by (IsCell 0) cells (λ k cell got. (each k cell got).0);
  };
  key_typed = typed;
  columns = cells_by (IsListed (types_of d)) cells (λ k cell got. (each k cell got).1);
}

-- a deletion
pub deletion_fits : (d : Definition) (key : List ℕ) (t : ℕ) → IsTypedAt (types_of d) 0 key → 1 ≤ length key → length key < 2 ^ 16 → 0 < t
    → t ≤ TIME_LIMIT → IsBodyOf (types_of d) key (record { deleted = t; cells = fin.empty })
deletion_fits d key t typed some short above limit =
    let none : (k : ℕ) (cell : Cell) → fin.get (fin.empty {R = nat_cmp}) k ≡ Some cell → ⊥ = (λ k cell got. let e : None ≡ Some cell = sym (fin.get-empty nat_cmp k) ∙ got in cc) in
    record {
      has = record {
        key_some = some;
        key_short = short;
        deleted = omega arith;
        count = record { few = few_cells fin.empty 64 (λ k cell got. absurd (none k cell got)); some = λ zero_is. absurd (omega arith) };
        cells = cells_by (IsCell t) fin.empty (λ k cell got. absurd (none k cell got));
      };
      key_typed = typed;
      columns = cells_by (IsListed (types_of d)) fin.empty (λ k cell got. absurd (none k cell got));
    }
