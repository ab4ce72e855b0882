-- What is true of each cell of a map is true of its entries.
use Rattle.std.proofs.Common.{◌≡◌, ℕ, T, List, [], ◌∷◌, Some, ◌∙◌}
use Rattle.std.specs.FinMap as fin
use Rattle.std.specs.List.{AllByRecursion}
use Rattle.std.specs.Ordering.{nat_cmp}
use Rattle.sasi_types.specs.declared.cell.Cell.{Cell}
use Rattle.sasi_cells.proofs.Laws.Sorted.{first, second, find_first, find_behind}
use Rattle.sasi_model.specs.Cells.{Cells}
use Rattle.sasi_model.specs.Refusals.{each}
use Rattle.sasi_model.specs.Stored.{Entry}

-- what is true of each cell of a map is true of its entries
entries_by : (P : Entry → Type 0) (es : List Entry) → T (fin.is_sorted nat_cmp es) → ((k : ℕ) (cell : Cell) → fin.find nat_cmp k es ≡ Some cell → P (k, cell)) → AllByRecursion P es
entries_by P [] sorted each = tt
entries_by P (e ∷ es) sorted each = (each e.0 e.1 (find_first e es), entries_by P es (second _ _ sorted) (λ k cell found. each k cell (find_behind e es k cell (first _ _ sorted) found)))

pub cells_by : (P : Entry → Type 0) (cells : Cells) → ((k : ℕ) (cell : Cell) → fin.get cells k ≡ Some cell → P (k, cell)) → AllByRecursion P (fin.entries cells)
cells_by P cells each = entries_by P (fin.entries cells) (fin.entries_sorted cells) (λ k cell found. each k cell (fin.get-entries cells k ∙ found))
