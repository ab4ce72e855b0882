-- How many cells a map has.
use Rattle.std.proofs.Common.{◌≡◌, ℕ, ◌+◌, ◌<◌, ◌≤◌, true, false, cond, T, List, [], ◌∷◌, length, Some, refl, sym, ◌∙◌, arith}
use Rattle.std.specs.FinMap.Entries.{below_all}
use Rattle.std.specs.Ordering.{is_lt}
use Rattle.std.proofs.lemmas.Bool.Decides.{nat_tests}
use Rattle.std.specs.FinMap as fin
use Rattle.std.specs.Ordering.{nat_cmp, eq_by_cmp}
use Rattle.sasi_types.specs.declared.cell.Cell.{Cell}
use Rattle.sasi_cells.proofs.Laws.Sorted.{equal_columns, first, second, find_first, find_behind}
use Rattle.sasi_model.specs.Cells.{Cells}
use Rattle.sasi_model.specs.Stored.{Entry}

found_above : (k q : ℕ) (es : List Entry) (cell : Cell) → T (below_all nat_cmp k es) → fin.find nat_cmp q es ≡ Some cell → k < q
found_above k q [] cell below found = cc
found_above k q (e ∷ es) cell below found =
    elim (eq_by_cmp nat_cmp q e.0) as (λ b. eq_by_cmp nat_cmp q e.0 ≡ b → cond b (Some e.1) (fin.find nat_cmp q es) ≡ Some cell → k < q) [
      | true ↦ λ here f. omega (arith, less k e.0 (first _ _ below), equal_columns q e.0 here)
      | false ↦ λ other f. found_above k q es cell (second _ _ below) f
    ] refl found
  where
    less : (m n : ℕ) → T (is_lt (nat_cmp m n)) → m < n
    less m n t = grind (arith, nat_tests)

bounded : (es : List Entry) (low high : ℕ) → T (fin.is_sorted nat_cmp es) → low ≤ high → ((k : ℕ) (cell : Cell) → fin.find nat_cmp k es ≡ Some cell → (low ≤ k) × (k < high)) → length es + low ≤ high
bounded [] low high sorted le within = omega arith
bounded (e ∷ es) low high sorted le within =
    let here = within e.0 e.1 (find_first e es) in
    let rest : length es + (e.0 + 1) ≤ high = bounded es (e.0 + 1) high (second _ _ sorted) (omega (arith, here.1)) (λ k cell found.
    (omega (arith, found_above e.0 k es cell (first _ _ sorted) found), (within k cell (find_behind e es k cell (first _ _ sorted) found)).1)) in
    omega (arith, rest, here.0)

pub few_cells : (cells : Cells) (high : ℕ) → ((k : ℕ) (cell : Cell) → fin.get cells k ≡ Some cell → k < high) → length (fin.entries cells) ≤ high
few_cells cells high within =
    omega (arith, bounded (fin.entries cells) 0 high (fin.entries_sorted cells) (omega arith) (λ k cell found. (omega arith, within k cell (fin.get-entries cells k ∙ found))))

pub some_cell : (cells : Cells) (k : ℕ) (cell : Cell) → fin.get cells k ≡ Some cell → 1 ≤ length (fin.entries cells)
some_cell cells k cell got = by (fin.entries cells) (sym (fin.get-entries cells k) ∙ got)
  where
    by : (es : List Entry) → fin.find nat_cmp k es ≡ Some cell → 1 ≤ length es
    by [] found = cc
    by (e ∷ es) found = omega arith
