-- Partitions whose texts are UTF-8.
use Rattle.std.proofs.Common.{◌≡◌, ℕ, true, false, max, nat_le, cond, if◌then◌else◌, List, [], ◌∷◌, Option, None, Some, IfSome, unwrap_or, refl, sym, ap, subst, ◌∙◌}
use Rattle.std.specs.FinMap as fin
use Rattle.std.specs.List.{AllByRecursion}
use Rattle.std.specs.Option.{option_and_then}
use Rattle.std.specs.Ordering.{eq_by_cmp, is_lt, nat_cmp, ordering_then}
use Rattle.sasi_types.specs.declared.cell.Cell.{Cell}
use Rattle.sasi_types.specs.declared.column.ColumnType.{ColumnType}
use Rattle.sasi_types.specs.declared.decorated_key.DecoratedKey.{DecoratedKey}
use Rattle.sasi_types.specs.DecoratedKey.{decorated_cmp, decorated_total}
use Rattle.sasi_types.specs.declared.value.Value.{Value}
use Rattle.sasi_types.specs.declared.value.Value.TheVariants as values
use Rattle.sasi_cells.proofs.Laws.Merged.{get_merge}
use Rattle.sasi_cells.specs.Maps.{put}
use Rattle.sasi_model.specs.Abbreviations.{Partitions}
use Rattle.sasi_model.specs.Cells.{Partition, empty_partition, merge, newest_of, unshadowed, value_cmp}
use Rattle.sasi_model.specs.Stored.{Entry, HasBytes, IsBodyOf, IsCell, cells_of}
use Rattle.sasi_machine.specs.TableRows.{TextsStored}
use Rattle.sasi_machine.specs.Where.{HasTexts, IsText}

-- ---- what can be stored

stored_text : (value : Value) → HasBytes value → IsText value
stored_text (values.Text text) has = has.0
stored_text (values.Int number) has = tt
stored_text (values.BigInt number) has = tt
stored_text (values.Uuid bytes) has = tt

-- the value of a cell that has bytes
cell_text : (found : Option Value) (value : Value) → IfSome found HasBytes → found ≡ Some value → IsText value
cell_text None value has is = cc
cell_text (Some other) value has is = let same : other ≡ value = cc in subst IsText same (stored_text other has)

found_text : (deleted column : ℕ) (es : List Entry) (value : Value) → AllByRecursion (IsCell deleted) es → option_and_then (λ (c : Cell). c.value) (fin.find nat_cmp column es) ≡ Some value → IsText value
found_text deleted column [] value all found = cc
found_text deleted column (e ∷ es) value all found =
    elim (eq_by_cmp nat_cmp column e.0) as (λ b. option_and_then (λ (c : Cell). c.value) (cond b (Some e.1) (fin.find nat_cmp column es)) ≡ Some value → IsText value) [
      | true ↦ λ is. cell_text e.1.value value all.0.value is
      | false ↦ λ is. found_text deleted column es value all.1 is
    ] found

pub body_texts : (types : List ColumnType) (key : List ℕ) (part : Partition) → IsBodyOf types key part → HasTexts part
body_texts types key part body column value is =
    found_text part.deleted column (cells_of part) value body.has.cells (ap (option_and_then (λ (c : Cell). c.value)) (sym (fin.get-entries part.cells column)) ∙ is)

-- ---- a merge

-- the value of a cell, if there is one, is a text that is UTF-8 or no text
abbrev IsCellText : Option Cell → Type 0
IsCellText found = (value : Value) → option_and_then (λ (c : Cell). c.value) found ≡ Some value → IsText value

unshadowed_text : (deleted : ℕ) (found : Option Cell) → IsCellText found → IsCellText (unshadowed deleted found)
unshadowed_text deleted None text = text
unshadowed_text deleted (Some cell) text = elim (nat_le cell.time deleted) as (λ b. IsCellText (if b then None else Some cell)) [ true ↦ λ value is. absurd (never value is) | false ↦ text ]
  where
    never : (value : Value) → None ≡ Some value → ⊥
    never value is = cc

newest_text : (a b : Option Cell) → IsCellText a → IsCellText b → IsCellText (newest_of a b)
newest_text None b one two = two
newest_text (Some a) None one two = one
newest_text (Some a) (Some b) one two = elim (is_lt (ordering_then (nat_cmp a.time b.time) (value_cmp a.value b.value))) as (λ t. IsCellText (Some (if t then b else a))) [ true ↦ two | false ↦ one ]

pub merged_texts : (p q : Partition) → HasTexts p → HasTexts q → HasTexts (merge p q)
merged_texts p q one two column value is =
    unshadowed_text (max p.deleted q.deleted) (newest_of (fin.get p.cells column) (fin.get q.cells column)) (newest_text (fin.get p.cells column) (fin.get q.cells column) (one column) (two column)) value
    (ap (option_and_then (λ (c : Cell). c.value)) (sym (get_merge p q column)) ∙ is)

pub empty_texts : HasTexts empty_partition
empty_texts column value is = (let none : None ≡ Some value = ap (option_and_then (λ (c : Cell). c.value)) (sym (fin.get-empty {X = Cell} nat_cmp column)) ∙ is in cc)

-- ---- maps

pub no_texts : TextsStored fin.empty
no_texts key part there = (let none : None ≡ Some part = sym (fin.get-empty {X = Partition} decorated_cmp key) ∙ there in cc)

old_texts : (m : Partitions) (key : DecoratedKey) (found : Option Partition) → fin.get m key ≡ found → TextsStored m → HasTexts (unwrap_or found empty_partition)
old_texts m key None is stored = empty_texts
old_texts m key (Some part) is stored = stored key part is

pub put_texts : (m : Partitions) (key : DecoratedKey) (change : Partition) → TextsStored m → HasTexts change → TextsStored (put m key change)
put_texts m key change stored text q part there =
    let new : Partition = merge (unwrap_or (fin.get m key) empty_partition) change in
    let merged : HasTexts new = merged_texts (unwrap_or (fin.get m key) empty_partition) change (old_texts m key (fin.get m key) refl stored) text in
    elim (eq_by_cmp decorated_cmp q key) as (λ b. cond b (Some new) (fin.get m q) ≡ Some part → HasTexts part) [
      | true ↦ λ is. let same : new ≡ part = cc in subst HasTexts same merged
      | false ↦ λ is. stored q part is
    ] (sym (fin.get-insert decorated_total m key new q) ∙ there)
