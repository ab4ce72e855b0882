-- Cells and partitions. A cell is a timestamp with a value or a tombstone; of two cells of one column the newest wins. A
-- partition is the content of one key: a deletion, which shadows each cell up to its timestamp, and at most one cell a
-- column. Column 0 is the row marker. Merging keeps the newest deletion and cells, in whatever order they come.
use Rattle.std.specs.Prelude.{◌≡◌, ℕ, Bool, nat_le, max, if◌then◌else◌, List, [], ◌∷◌, ◌++◌, map, Option, None, Some, is_some}
use Rattle.std.specs.declared.cmp.Ordering.{Ordering}
use Rattle.std.specs.Ordering.{nat_cmp, ordering_then, is_lt}
use Rattle.std.specs.Cmp.Lexicographic.{slice_cmp}
use Rattle.std.specs.FinMap as map_
use Rattle.std.specs.List.{filter_map, list_any}
use Rattle.std.specs.Option.{option_and_then, option_map}
use Rattle.sasi_types.specs.declared.cell.Cell.{Cell}
use Rattle.sasi_types.specs.declared.value.Value.{Value}
use Rattle.sasi_types.specs.Value.{stored}

-- ---- cells

-- a tombstone is above every value, and of two values the one with the greater stored bytes is above the other
abbrev pub value_cmp : Option Value → Option Value → Ordering
value_cmp None None = nat_cmp 0 0
value_cmp None (Some b) = nat_cmp 1 0
value_cmp (Some a) None = nat_cmp 0 1
value_cmp (Some a) (Some b) = slice_cmp nat_cmp (stored a) (stored b)

-- the newer of two cells: by timestamp, then by value
abbrev pub newest : Cell → Cell → Cell
newest a b = if is_lt (ordering_then (nat_cmp a.time b.time) (value_cmp a.value b.value)) then b else a

abbrev pub newest_of : Option Cell → Option Cell → Option Cell
newest_of None b = b
newest_of (Some a) None = Some a
newest_of (Some a) (Some b) = Some (newest a b)

-- ---- partitions

-- cells by the numbers of their columns
abbrev pub Cells : Type 0
Cells = map_.FinMap nat_cmp Cell

pub record Partition : Type 0 where
  -- the timestamp of the deletion, 0 for none
  pub deleted : ℕ
  pub cells : Cells

abbrev pub empty_partition : Partition
empty_partition = record { deleted = 0; cells = map_.empty }

-- the cell, unless a deletion with this timestamp shadows it
abbrev pub unshadowed : ℕ → Option Cell → Option Cell
unshadowed deleted None = None
unshadowed deleted (Some cell) = if nat_le cell.time deleted then None else Some cell

-- no cell is shadowed
abbrev pub IsNormal : Partition → Type 0
IsNormal p = (column : ℕ) → unshadowed p.deleted (map_.get p.cells column) ≡ map_.get p.cells column

-- the newest cell of a column in two partitions, unless a deletion with this timestamp shadows it
abbrev pub merged_cell : ℕ → Partition → Partition → ℕ → Option Cell
merged_cell deleted p q column = unshadowed deleted (newest_of (map_.get p.cells column) (map_.get q.cells column))

-- the same of some columns
abbrev pub merged_cells : ℕ → Partition → Partition → List ℕ → List (ℕ × Cell)
merged_cells deleted p q columns = filter_map (λ column. option_map (λ cell. (column, cell)) (merged_cell deleted p q column)) columns

-- the later deletion, and the newest cell of each column, unless that deletion shadows it
unfoldable pub merge : Partition → Partition → Partition
merge p q = record { deleted = max p.deleted q.deleted; cells = map_.from_entries (merged_cells (max p.deleted q.deleted) p q (map_.keys p.cells ++ map_.keys q.cells)) }

-- ---- live rows

-- the row exists: its marker or another cell has a value
abbrev pub is_live : Partition → Bool
is_live p = list_any (λ cell. is_some cell.value) (map_.values p.cells)

-- the value of a column, where the row has one
abbrev pub value_at : Partition → ℕ → Option Value
value_at p column = option_and_then (λ cell. cell.value) (map_.get p.cells column)

-- ---- times

-- the largest of these numbers, 0 if there is none
abbrev pub largest : List ℕ → ℕ
largest [] = 0
largest (n ∷ ns) = max n (largest ns)

-- the largest timestamp of the deletion and the cells, 0 if there is none
abbrev pub max_timestamp_of : Partition → ℕ
max_timestamp_of p = max p.deleted (largest (map (λ cell. cell.time) (map_.values p.cells)))
