-- A cell of a merge of maps is a cell of one of them.
use Rattle.std.proofs.Common.{◌≡◌, ◌⊎◌, ℕ, max, Bool, true, false, nat_le, if◌then◌else◌, List, [], ◌∷◌, Option, None, Some, unwrap_or, refl, sym, ap, ◌∙◌, inl, inr, ⊎_elim}
use Rattle.std.proofs.lemmas.Bool.{or_left, or_right}
use Rattle.std.specs.List.{list_any}
use Rattle.std.specs.Ordering.{nat_cmp, is_lt}
use Rattle.std.specs.FinMap as map_
use Rattle.sasi_types.specs.declared.cell.Cell.{Cell}
use Rattle.sasi_types.specs.declared.decorated_key.DecoratedKey.{DecoratedKey}
use Rattle.sasi_types.specs.DecoratedKey.{decorated_cmp}
use Rattle.sasi_model.specs.Abbreviations.{Partitions, cell_cmp}
use Rattle.sasi_model.specs.Cells.{Partition, empty_partition, merge, newest_of, unshadowed}
use Rattle.sasi_cells.specs.Maps.{joined, merge_maps, merged, merged_onto}
use Rattle.sasi_cells.proofs.Laws.Maps.{get_merge_maps}
use Rattle.sasi_cells.proofs.Laws.Merged.{get_merge}
use Rattle.sasi_candidates.specs.Parts.{Part, maps_of}

-- the map has the cell at a key
pub record HasCell (m : Partitions) (q : DecoratedKey) (column : ℕ) (cell : Cell) : Type 0 where
  pub partition : Partition
  pub there : map_.get m q ≡ Some partition
  pub cell_is : map_.get partition.cells column ≡ Some cell

-- ---- one column of two partitions

shown : (deleted : ℕ) (x : Option Cell) (cell : Cell) → unshadowed deleted x ≡ Some cell → x ≡ Some cell
shown deleted None cell e = cc
shown deleted (Some a) cell e = by (nat_le a.time deleted) e
  where
    by : (t : Bool) → (if t then None else Some a) ≡ Some cell → Some a ≡ Some cell
    by true e = cc
    by false e = e

chosen : (x y : Option Cell) (cell : Cell) → newest_of x y ≡ Some cell → (x ≡ Some cell) ⊎ (y ≡ Some cell)
chosen None y cell e = inr e
chosen (Some a) None cell e = inl e
chosen (Some a) (Some b) cell e = by (is_lt (cell_cmp a b)) e
  where
    by : (t : Bool) → Some (if t then b else a) ≡ Some cell → (Some a ≡ Some cell) ⊎ (Some b ≡ Some cell)
    by true e = inr e
    by false e = inl e

of_merge : (p s : Partition) (column : ℕ) (cell : Cell) → map_.get (merge p s).cells column ≡ Some cell → (map_.get p.cells column ≡ Some cell) ⊎ (map_.get s.cells column ≡ Some cell)
of_merge p s column cell e =
    chosen (map_.get p.cells column) (map_.get s.cells column) cell
    (shown (max p.deleted s.deleted) (newest_of (map_.get p.cells column) (map_.get s.cells column)) cell (sym (get_merge p s column) ∙ e))

-- ---- two maps

none_is : {A B : Type 0} {x : B} → ◌≡◌ {A = Option B} None (Some x) → A
none_is e = cc

of_joined : (a b : Option Partition) (r : Partition) (column : ℕ) (cell : Cell) → joined a b ≡ Some r → map_.get r.cells column ≡ Some cell
    → ((p : Partition) × (a ≡ Some p) × (map_.get p.cells column ≡ Some cell)) ⊎ ((p : Partition) × (b ≡ Some p) × (map_.get p.cells column ≡ Some cell))
of_joined a None r column cell e is = inl (r, e, is)
of_joined None (Some s) r column cell e is =
    ⊎_elim (λ none. none_is (sym (map_.get-empty nat_cmp column) ∙ none)) (λ second. inr (s, refl, second))
    (of_merge empty_partition s column cell (ap (λ (o : Option Partition). map_.get (unwrap_or o empty_partition).cells column) e ∙ is))
of_joined (Some p) (Some s) r column cell e is =
    ⊎_elim (λ first. inl (p, refl, first)) (λ second. inr (s, refl, second))
    (of_merge p s column cell (ap (λ (o : Option Partition). map_.get (unwrap_or o empty_partition).cells column) e ∙ is))

of_maps : (a b : Partitions) (q : DecoratedKey) (column : ℕ) (cell : Cell) → HasCell (merge_maps a b) q column cell → HasCell a q column cell ⊎ HasCell b q column cell
of_maps a b q column cell has =
    ⊎_elim
    (λ first. inl (record { partition = first.0; there = first.1; cell_is = first.2 }))
    (λ second. inr (record { partition = second.0; there = second.1; cell_is = second.2 }))
    (of_joined (map_.get a q) (map_.get b q) has.partition column cell (sym (get_merge_maps a b q) ∙ has.there) has.cell_is)

-- ---- all parts

module _ (test : Part → Bool) (q : DecoratedKey) (column : ℕ) (cell : Cell) (covers : (part : Part) → HasCell part.holds q column cell → test part ≡ true) where
  onto : (base : Partitions) (parts : List Part) → HasCell (merged_onto base (maps_of parts)) q column cell → HasCell base q column cell ⊎ (list_any test parts ≡ true)
  onto base [] has = inl has
  onto base (part ∷ parts) has =
      ⊎_elim
      (λ front. ⊎_elim (λ earlier. inl earlier) (λ here. inr (or_left (test part) (list_any test parts) (covers part here))) (of_maps base part.holds q column cell front))
      (λ later. inr (or_right (test part) (list_any test parts) later))
      (onto (merge_maps base part.holds) parts has)

  -- **The winning cell stands in some part**: what is true of each part that has a cell of the merge is true of one of the parts.
  pub winner : (parts : List Part) → HasCell (merged (maps_of parts)) q column cell → list_any test parts ≡ true
  winner parts has = ⊎_elim (λ none. none_is (sym (map_.get-empty decorated_cmp q) ∙ none.there)) (λ is. is) (onto map_.empty parts has)
