-- The largest timestamp of tables.
use Rattle.std.proofs.Common.{◌≡◌, ℕ, zero, suc, ◌≤◌, true, false, cond, List, [], ◌∷◌, ◌++◌, map, set, slice_get, Option, None, Some, unwrap_or, refl, sym, ap, ◌∙◌, arith}
use Rattle.std.specs.Prelude.{max}
use Rattle.std.specs.FinMap as fin
use Rattle.std.specs.FinMap.Entries.{by_order}
use Rattle.std.specs.declared.cmp.Ordering.TheVariants.{Less, Equal, Greater}
use Rattle.std.specs.Ordering.{eq_by_cmp, is_eq}
use Rattle.sasi_types.specs.declared.decorated_key.DecoratedKey.{DecoratedKey}
use Rattle.sasi_types.specs.DecoratedKey.{decorated_cmp, decorated_total}
use Rattle.sasi_cells.proofs.Laws.Times.{max_timestamp_merge}
use Rattle.sasi_model.specs.Cells.{Partition, empty_partition, max_timestamp_of, merge}
use Rattle.sasi_model.specs.State.{Definition, Table}
use Rattle.sasi_model.specs.Abbreviations.{Partitions, max_timestamp_of_tables, max_timestamp_of_partitions}
use Rattle.sasi_memtable.specs.MemtableView.{MemtableView}
use Rattle.sasi_machine.specs.Tables.{AreMemtables, tables_of}
use Rattle.sasi_memtable.proofs.Ordered.{no_entries}
use Rattle.sasi_machine.proofs.WriteTimes.{empty_time}

abbrev times : List (DecoratedKey × Partition) → ℕ
times entries = max_timestamp_of_partitions (map (λ e. e.1) entries)

-- what is found is no later
found_time : (decorated_key : DecoratedKey) (entries : List (DecoratedKey × Partition)) (p : Partition) → fin.find decorated_cmp decorated_key entries ≡ Some p → max_timestamp_of p ≤ times entries
found_time decorated_key [] p found = cc
found_time decorated_key (e ∷ es) p found =
    elim (eq_by_cmp decorated_cmp decorated_key e.0) as (λ b. cond b (Some e.1) (fin.find decorated_cmp decorated_key es) ≡ Some p → max_timestamp_of p ≤ max (max_timestamp_of e.1) (times es)) [
      | true ↦ λ is. let same : e.1 ≡ p = cc in omega (arith, ap max_timestamp_of same)
      | false ↦ λ is. omega (arith, found_time decorated_key es p is)
    ] found

-- a partition with no smaller timestamp than the one that it replaces
abbrev IsNoEarlier : Option Partition → Partition → Type 0
IsNoEarlier old p = (q : Partition) → old ≡ Some q → max_timestamp_of q ≤ max_timestamp_of p

times_put : (decorated_key : DecoratedKey) (p : Partition) (entries : List (DecoratedKey × Partition)) → IsNoEarlier (fin.find decorated_cmp decorated_key entries) p → times
    (fin.put decorated_cmp decorated_key p entries) ≡ max (times entries) (max_timestamp_of p)
times_put decorated_key p [] later = omega arith
times_put decorated_key p (e ∷ es) later =
    elim (decorated_cmp decorated_key e.0) as (λ o. IsNoEarlier (cond (is_eq o) (Some e.1) (fin.find decorated_cmp decorated_key es)) p → times
    (by_order o ((decorated_key, p) ∷ e ∷ es) ((e.0, p) ∷ es) (e ∷ fin.put decorated_cmp decorated_key p es)) ≡ max (max (max_timestamp_of e.1) (times es)) (max_timestamp_of p)) [
      | Less ↦ λ later. omega arith
      | Equal ↦ λ later. omega (arith, later e.1 refl)
      | Greater ↦ λ later. omega (arith, times_put decorated_key p es later)
    ] later

-- the largest timestamp of the partitions after a mutation
pub max_timestamp_put : (ps : Partitions) (decorated_key : DecoratedKey) (change : Partition)
    → max_timestamp_of_partitions (fin.values (fin.insert ps decorated_key (merge (unwrap_or (fin.get ps decorated_key) empty_partition) change))) ≡ max (max_timestamp_of_partitions (fin.values ps)) (max_timestamp_of change)
max_timestamp_put ps decorated_key change =
    let merged : Option Partition → Partition = λ old. merge (unwrap_or old empty_partition) change in
    let p = merged (fin.get ps decorated_key) in
    ap times (fin.entries-insert decorated_total ps decorated_key p)
    ∙ times_put decorated_key p (fin.entries ps) (λ q found. earlier (fin.get ps decorated_key) q (fin.get-entries ps decorated_key ∙ found))
    ∙ total (fin.get ps decorated_key) (λ q found. found_time decorated_key (fin.entries ps) q (sym (fin.get-entries ps decorated_key) ∙ found))
  where
    earlier : (old : Option Partition) (q : Partition) → old ≡ Some q → max_timestamp_of q ≤ max_timestamp_of (merge (unwrap_or old empty_partition) change)
    earlier None q found = cc
    earlier (Some x) q found = let same : x ≡ q = cc in omega (arith, ap max_timestamp_of same, max_timestamp_merge x change)

    total : (old : Option Partition) → ((q : Partition) → old ≡ Some q → max_timestamp_of q ≤ times (fin.entries ps)) → max
        (times (fin.entries ps)) (max_timestamp_of (merge (unwrap_or old empty_partition) change)) ≡ max (times (fin.entries ps)) (max_timestamp_of change)
    total None within = omega (arith, max_timestamp_merge empty_partition change, empty_time)
    total (Some x) within = omega (arith, within x refl, max_timestamp_merge x change)

-- the largest timestamp of the tables after a mutation of one
pub max_timestamp_set : (ds : List Definition) (cs : List MemtableView) (at : ℕ) (c new : MemtableView) (t : ℕ) → AreMemtables ds cs
    → slice_get cs at ≡ Some c → max_timestamp_of_partitions (fin.values new.partitions) ≡ max (max_timestamp_of_partitions (fin.values c.partitions)) t
    → max_timestamp_of_tables (tables_of ds (set cs at new)) ≡ max (max_timestamp_of_tables (tables_of ds cs)) t
max_timestamp_set [] [] at c new t held got is = cc
max_timestamp_set [] (x ∷ cs) at c new t held got is = absurd held
max_timestamp_set (d ∷ ds) [] at c new t held got is = absurd held
max_timestamp_set (d ∷ ds) (x ∷ cs) zero c new t held got is =
    let same : x ≡ c = (let e : Some x ≡ Some c = got in cc) in
    omega (arith, is, ap (λ (c : MemtableView). max_timestamp_of_partitions (fin.values c.partitions)) same)
max_timestamp_set (d ∷ ds) (x ∷ cs) (suc at) c new t held got is = omega (arith, max_timestamp_set ds cs at c new t held.1 got is)

-- the largest timestamp of no partitions is 0
pub nothing_held : max_timestamp_of_partitions (fin.values (fin.empty {R = decorated_cmp})) ≡ 0
nothing_held = ap times (no_entries (fin.entries (fin.empty {R = decorated_cmp})) (sym (fin.len-entries (fin.empty {R = decorated_cmp})) ∙ fin.len-empty decorated_cmp Partition))

-- one more table, with nothing in it
pub max_timestamp_push : (ts : List Table) (t : Table) → max_timestamp_of_partitions (fin.values t.partitions) ≡ 0 → max_timestamp_of_tables (ts ++ t ∷ []) ≡ max_timestamp_of_tables ts
max_timestamp_push [] t none = omega arith
max_timestamp_push (x ∷ ts) t none = omega (arith, max_timestamp_push ts t none)
