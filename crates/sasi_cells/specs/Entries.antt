-- The cells of a partition as lists with rising columns, and the merge of two such lists in one pass.
use Rattle.std.specs.Prelude.{◌≡◌, ℕ, Bool, true, not, nat_le, List, [], ◌∷◌, Option, None, Some}
use Rattle.std.specs.declared.cmp.Ordering.{Ordering}
use Rattle.std.specs.declared.cmp.Ordering.TheVariants.{Less, Greater}
use Rattle.std.specs.List.{filter, list_all}
use Rattle.std.specs.Ordering.{nat_cmp, match_ordering}
use Rattle.std.specs.FinMap.{is_sorted}
use Rattle.std.specs.FinMap as map_
use Rattle.sasi_model.specs.Cells.{Partition, newest}
pub use Rattle.sasi_model.specs.Stored.{Entry}

-- of each column the newest cell
abbrev pub merged_sorted : List Entry → List Entry → List Entry
merged_sorted [] ys = ys
merged_sorted (x ∷ xs) [] = x ∷ xs
merged_sorted (x ∷ xs) (y ∷ ys) = match_ordering (nat_cmp x.0 y.0) (x ∷ merged_sorted xs (y ∷ ys)) ((x.0, newest x.1 y.1) ∷ merged_sorted xs ys) (y ∷ merged_sorted (x ∷ xs) ys)

-- which of two lists begins with the lower column; none where both are empty
abbrev pub lower_column : List Entry → List Entry → Option Ordering
lower_column [] [] = None
lower_column [] (y ∷ ys) = Some Greater
lower_column (x ∷ xs) [] = Some Less
lower_column (x ∷ xs) (y ∷ ys) = Some (nat_cmp x.0 y.0)

-- the newer of two entries of one column, if there is one
abbrev pub newest_entry : Option Entry → Option Entry → Option Entry
newest_entry None b = b
newest_entry (Some a) None = Some a
newest_entry (Some a) (Some b) = Some (a.0, newest a.1 b.1)

-- whether a deletion at this time leaves the entry
abbrev pub is_above : ℕ → Entry → Bool
is_above deleted entry = not (nat_le entry.1.time deleted)

-- the entries that it leaves
abbrev pub unshadowed_entries : ℕ → List Entry → List Entry
unshadowed_entries deleted = filter (is_above deleted)

-- the columns rise, and no cell is shadowed by a deletion at this time
pub record IsOrdered (deleted : ℕ) (entries : List Entry) : Type 0 where
  pub rising : is_sorted nat_cmp entries ≡ true
  pub above : list_all (is_above deleted) entries ≡ true

-- the partition with these entries
abbrev pub partition_of : ℕ → List Entry → Partition
partition_of deleted entries = record { deleted = deleted; cells = map_.from_sorted entries }
