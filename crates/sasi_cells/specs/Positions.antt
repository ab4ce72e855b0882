-- The position of a column in a list of entries with rising columns.
use Rattle.std.specs.Prelude.{◌≡◌, ℕ, ◌<◌, ◌≤◌, List, length, slice_index_or}
use Rattle.sasi_cells.specs.Entries.{Entry}

-- the entry at this position is the column's
pub record IsColumnAt (entries : List Entry) (column at : ℕ) : Type 0 where
  pub in_range : at < length entries
  pub is : (other : Entry) → (slice_index_or entries at other).0 ≡ column

-- the column would go there: lower columns before it, and higher ones from it on
pub record IsGapFor (entries : List Entry) (column at : ℕ) : Type 0 where
  pub in_range : at ≤ length entries
  pub lower_before : (j : ℕ) (other : Entry) → j < at → (slice_index_or entries j other).0 < column
  pub higher_after : (j : ℕ) (other : Entry) → at ≤ j → j < length entries → column < (slice_index_or entries j other).0
