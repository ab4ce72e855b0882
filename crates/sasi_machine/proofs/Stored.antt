-- Keys that are values of their type, and texts that are UTF-8.
use Rattle.std.proofs.Common.{◌≡◌, ◌≤◌, true, false, cond, if◌then◌else◌, List, [], ◌∷◌, length, map, suc, Some, is_some, unwrap_or, refl, sym, ap, subst, ◌∙◌, arith}
use Rattle.std.specs.FinMap as fin
use Rattle.std.specs.List.{AllByRecursion}
use Rattle.std.specs.Ordering.{eq_by_cmp}
use Rattle.sasi_types.specs.declared.column.ColumnType.{ColumnType}
use Rattle.sasi_types.specs.declared.decorated_key.DecoratedKey.{DecoratedKey}
use Rattle.sasi_types.specs.DecoratedKey.{decorated_cmp, decorated_total}
use Rattle.sasi_cells.proofs.Laws.Decorated.{entries_have, equal_keys}
use Rattle.sasi_cells.specs.Maps.{put}
use Rattle.sasi_cells.specs.declared.picked.PickedColumn.{PickedColumn}
use Rattle.sasi_cells.specs.Rows.{IsStored, picked_value}
use Rattle.sasi_model.specs.Cells.{Partition, empty_partition, merge}
use Rattle.sasi_model.specs.Filters.{Filter, answers}
use Rattle.sasi_model.specs.Abbreviations.{Partitions}
use Rattle.sasi_machine.specs.TableRows.{KeysStored, TextsStored, rows_picked}
use Rattle.sasi_machine.specs.Where.{HasTexts}

-- entry by entry
abbrev pub AllStored : ColumnType → List (DecoratedKey × Partition) → Type 0
AllStored kind = AllByRecursion (λ entry. IsStored kind entry.0.key)

abbrev pub AllTexts : List (DecoratedKey × Partition) → Type 0
AllTexts = AllByRecursion (λ entry. HasTexts entry.1)

pub all_texts : (m : Partitions) → TextsStored m → AllTexts (fin.entries m)
all_texts m stored = entries_have (λ entry. HasTexts entry.1) m stored

pub all_stored : (kind : ColumnType) (m : Partitions) → KeysStored kind m → AllStored kind (fin.entries m)
all_stored kind m stored = entries_have (λ entry. IsStored kind entry.0.key) m (λ q part is. stored q (ap is_some is))

-- there are no more rows than partitions
pub rows_at_most : (kind : ColumnType) (columns : List PickedColumn) (f : Filter) (entries : List (DecoratedKey × Partition)) → length (rows_picked kind columns f entries) ≤ length entries
rows_at_most kind columns f [] = omega arith
rows_at_most kind columns f (entry ∷ entries) =
    let rest = rows_picked kind columns f entries in
    let row = map (picked_value kind entry.0.key entry.1) columns in
    elim (answers f entry) as (λ b. length (if b then row ∷ rest else rest) ≤ suc (length entries)) [
      | true ↦ omega (arith, rows_at_most kind columns f entries)
      | false ↦ omega (arith, rows_at_most kind columns f entries)
    ]

-- a change keeps them
pub put_stored : (kind : ColumnType) (m : Partitions) (key : DecoratedKey) (change : Partition) → IsStored kind key.key → KeysStored kind m → KeysStored kind (put m key change)
put_stored kind m key change is stored q there =
    let new : Partition = merge (unwrap_or (fin.get m key) empty_partition) change in
    elim (eq_by_cmp decorated_cmp q key) as (λ b. eq_by_cmp decorated_cmp q key ≡ b → is_some (cond b (Some new) (fin.get m q)) ≡ true → IsStored kind q.key) [
      | true ↦ λ at _. let same : q ≡ key = equal_keys q key at in subst (λ (k : DecoratedKey). IsStored kind k.key) (sym same) is
      | false ↦ λ _ old_there. stored q old_there
    ] refl (sym (ap is_some (fin.get-insert decorated_total m key new q)) ∙ there)
