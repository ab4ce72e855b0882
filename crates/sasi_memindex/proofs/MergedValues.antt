-- The value of a column after a merge.
use Rattle.std.proofs.Common.{◌≡◌, ℕ, ◌≤◌, max, Option, None, Some, unwrap_or, refl, sym, ap, ◌∙◌, arith}
use Rattle.std.specs.FinMap as map_
use Rattle.std.specs.Option.{option_and_then, option_map, option_map_or}
use Rattle.std.specs.Ordering.{nat_cmp}
use Rattle.sasi_types.specs.declared.cell.Cell.{Cell}
use Rattle.sasi_cells.proofs.Laws.Merged.{get_merge}
use Rattle.sasi_model.specs.Cells.{Partition, empty_partition, merge, newest_of, unshadowed, value_at}
use Rattle.sasi_memindex.specs.IndexedValues.{live_value}

cell_alone : (column : ℕ) (cell : Option Cell) → option_map (λ (e : ℕ × Cell). e.1) (option_map (λ (c : Cell). (column, c)) cell) ≡ cell
cell_alone column None = refl
cell_alone column (Some cell) = refl

-- what the cells of an old partition give, if there is one
pub old_cell : (old : Option Partition) (column : ℕ) → option_and_then (λ (p : Partition). map_.get p.cells column) old ≡ map_.get (unwrap_or old empty_partition).cells column
old_cell None column = sym (map_.get-empty nat_cmp column)
old_cell (Some p) column = refl

old_deletion : (old : Option Partition) → option_map_or (λ (p : Partition). p.deleted) old 0 ≡ (unwrap_or old empty_partition).deleted
old_deletion None = refl
old_deletion (Some p) = refl

pub after_is : (old : Option Partition) (change : Partition) (column : ℕ) (one two : Option (ℕ × Cell)) (newest : Option Cell) (deleted : ℕ)
    → one ≡ option_map (λ (c : Cell). (column, c)) (option_and_then (λ (p : Partition). map_.get p.cells column) old)
    → two ≡ option_map (λ (c : Cell). (column, c)) (map_.get change.cells column)
    → newest ≡ newest_of (option_map (λ (e : ℕ × Cell). e.1) one) (option_map (λ (e : ℕ × Cell). e.1) two)
    → deleted ≡ max (option_map_or (λ (p : Partition). p.deleted) old 0) change.deleted
    → live_value (unshadowed deleted newest) ≡ value_at (merge (unwrap_or old empty_partition) change) column
after_is old change column one two newest deleted is_one is_two is_newest is_deleted =
    let p = unwrap_or old empty_partition in
    let first : option_map (λ (e : ℕ × Cell). e.1) one ≡ map_.get p.cells column = ap (option_map (λ (e : ℕ × Cell). e.1)) is_one ∙ cell_alone column _ ∙ old_cell old column in
    let second : option_map (λ (e : ℕ × Cell). e.1) two ≡ map_.get change.cells column = ap (option_map (λ (e : ℕ × Cell). e.1)) is_two ∙ cell_alone column _ in
    let both : newest ≡ newest_of (map_.get p.cells column) (map_.get change.cells column) =
    is_newest ∙ ap (λ (c : Option Cell). newest_of c (option_map (λ (e : ℕ × Cell). e.1) two)) first ∙ ap (newest_of (map_.get p.cells column)) second in
    let time : deleted ≡ max p.deleted change.deleted = is_deleted ∙ ap (λ n. max n change.deleted) (old_deletion old) in
    ap live_value (ap (λ n. unshadowed n newest) time ∙ ap (unshadowed (max p.deleted change.deleted)) both ∙ sym (get_merge p change column))
