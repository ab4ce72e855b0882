-- The rows that a reader gives, as a SELECT prints them.
use Rattle.std.specs.Prelude.{◌≡◌, ◌++◌, ◌≤◌, ℕ, Bool, List, drop, length, map, take, Option, is_some}
use Rattle.std.specs.List.{flat_map}
use Rattle.std.specs.Option.{option_to_list}
use Rattle.sasi_types.specs.declared.value.Value.{Value}
use Rattle.sasi_cells.specs.Rows.{picked_value}
use Rattle.sasi_cells.specs.declared.picked.Picked.{Picked}
use Rattle.sasi_model.specs.Abbreviations.{row_line}
use Rattle.sasi_model.specs.Cells.{Partition}
use Rattle.sasi_model.specs.Lines.{rows_lines}
use Rattle.sasi_plan.specs.Answers.{GivesNext}
use Rattle.sasi_fetch.specs.declared.rows.RowsAfter.{RowsAfter}
use Rattle.sasi_fetch.specs.declared.rows.RowsAfter.TheVariants.{Nothing, Perhaps}

-- the values that are picked of a row, which is a key with what all parts have of it
abbrev pub row_picked : Picked → List ℕ × Partition → List (Option Value)
row_picked picked row = map (picked_value picked.key row.0 row.1) picked.columns

-- the lines of rows, and of their number
abbrev pub picked_lines : Picked → List (List ℕ × Partition) → List ℕ
picked_lines picked rows = rows_lines (map (row_picked picked) rows)

-- **The first of the rows that are left is printed**, and the others are left; none is printed exactly where none is left.
pub record PrintsNext (picked : Picked) (Left Others : List (List ℕ × Partition) → Type 0) (reply_old reply_new : List ℕ) (printed : Bool) : Type 0 where
  pub found : Option (List ℕ × Partition)
  pub printed_is : printed ≡ is_some found
  pub reply_is : reply_new ≡ reply_old ++ flat_map row_line (map (row_picked picked) (option_to_list found))
  pub gives : (rows : List (List ℕ × Partition)) → Left rows → GivesNext Others rows found

-- **The first of the rows that are left are printed**, at most so many, with their number, and the others are left.
abbrev pub PrintsFirst : Picked → ℕ → (List (List ℕ × Partition) → Type 0) → (List (List ℕ × Partition) → Type 0) → List ℕ → List ℕ → Type 0
PrintsFirst picked most Left Others reply_old reply_new =
    (rows : List (List ℕ × Partition)) → Left rows → (reply_new ≡ reply_old ++ picked_lines picked (take most rows)) × Others (drop most rows)

-- In any file it prints the lines of some rows, at most so many, and of their number.
pub record PrintsAtMost (picked : Picked) (most : ℕ) (reply_old reply_new : List ℕ) : Type 0 where
  pub rows : List (List ℕ × Partition)
  pub few : length rows ≤ most
  pub reply_is : reply_new ≡ reply_old ++ picked_lines picked rows

-- what is known of the rows that were left: there were no further ones, or there were so many at least
abbrev pub KnowsAfter : ℕ → (List (List ℕ × Partition) → Type 0) → RowsAfter → Type 0
KnowsAfter most Left Nothing = (rows : List (List ℕ × Partition)) → Left rows → take most rows ≡ rows
KnowsAfter most Left Perhaps = (rows : List (List ℕ × Partition)) → Left rows → most ≤ length rows
