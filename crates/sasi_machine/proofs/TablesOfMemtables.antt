-- Tables, made of their definitions and memtables.
use Rattle.std.proofs.Common.{◌≡◌, ℕ, zero, suc, ◌-◌, ◌<◌, List, [], ◌∷◌, ◌++◌, length, set, slice_get, Some, unwrap_or, refl, sym, ap, subst, ◌∙◌, arith}
use Rattle.std.specs.FinMap as fin
use Rattle.sasi_types.specs.declared.decorated_key.DecoratedKey.{DecoratedKey}
use Rattle.sasi_types.specs.declared.partitioner.Partitioner.{Partitioner}
use Rattle.sasi_cells.specs.Maps.{put}
use Rattle.sasi_cells.specs.declared.mutation.Mutation.{Mutation}
use Rattle.sasi_model.specs.Cells.{Partition, empty_partition, merge}
use Rattle.sasi_model.specs.Changes.{changed_behind}
use Rattle.sasi_model.specs.State.{Definition, Table, apply, decorated}
use Rattle.sasi_model.specs.Abbreviations.{definitions, key_type}
use Rattle.sasi_memtable.specs.MemtableView.{MemtableView}
use Rattle.sasi_machine.specs.TableRows.{AreStored}
use Rattle.sasi_machine.specs.Tables.{AreMemtables, AreUnder, IsChangedAt, IsWrittenAt, table_with, tables_of}

-- ---- the definitions

pub definitions_of : (ds : List Definition) (cs : List MemtableView) → AreMemtables ds cs → definitions (tables_of ds cs) ≡ ds
definitions_of [] cs held = refl
definitions_of (d ∷ ds) [] held = absurd held
definitions_of (d ∷ ds) (c ∷ cs) held = ap (λ (rest : List Definition). d ∷ rest) (definitions_of ds cs held.1)

-- ---- a change of the table of a number

-- it is a change of its memtable
pub changed_at : (ds : List Definition) (cs : List MemtableView) (at : ℕ) (decorated_key : DecoratedKey) (change : Partition) (c : MemtableView)
    → AreMemtables ds cs → slice_get cs at ≡ Some c → (new : MemtableView)
    → new ≡ record c { partitions = fin.insert c.partitions decorated_key (merge (unwrap_or (fin.get c.partitions decorated_key) empty_partition) change) }
    → changed_behind at decorated_key change (tables_of ds cs) ≡ tables_of ds (set cs at new)
changed_at [] [] at decorated_key change c held got new is = cc
changed_at [] (x ∷ cs) at decorated_key change c held got new is = absurd held
changed_at (d ∷ ds) [] at decorated_key change c held got new is = absurd held
changed_at (d ∷ ds) (x ∷ cs) zero decorated_key change c held got new is =
    let same_contents : x ≡ c = (let e : Some x ≡ Some c = got in cc) in
    ap (λ (t : Table). t ∷ tables_of ds cs) (ap (λ (x : MemtableView). apply decorated_key change (table_with d x)) same_contents ∙ ap (table_with d) (sym is))
changed_at (d ∷ ds) (x ∷ cs) (suc at) decorated_key change c held got new is = ap (λ (rest : List Table). table_with d x ∷ rest) (changed_at ds cs at decorated_key change c held.1 got new is)

-- the memtable of a table of a number
pub memtable_at : (ds : List Definition) (cs : List MemtableView) (at : ℕ) (t : Table) → AreMemtables ds cs → slice_get
    (tables_of ds cs) at ≡ Some t → (c : MemtableView) × (slice_get cs at ≡ Some c) × AreStored (key_type t.definition) c.partitions × (t.partitions ≡ c.partitions)
memtable_at [] cs at t held got = cc
memtable_at (d ∷ ds) [] at t held got = absurd held
memtable_at (d ∷ ds) (c ∷ cs) zero t held got =
    let is : table_with d c ≡ t = (let e : Some (table_with d c) ≡ Some t = got in cc) in
    (c, refl, subst (λ (t : Table). AreStored (key_type t.definition) c.partitions) is held.0, ap (λ (t : Table). t.partitions) (sym is))
memtable_at (d ∷ ds) (c ∷ cs) (suc at) t held got = memtable_at ds cs at t held.1 got

-- a memtable can be changed
pub memtables_set : (ds : List Definition) (cs : List MemtableView) (at : ℕ) (t : Table) (new : MemtableView) → AreMemtables ds cs → slice_get
    (tables_of ds cs) at ≡ Some t → AreStored (key_type t.definition) new.partitions → AreMemtables ds (set cs at new)
memtables_set [] cs at t new held got stored = cc
memtables_set (d ∷ ds) [] at t new held got stored = absurd held
memtables_set (d ∷ ds) (c ∷ cs) zero t new held got stored =
    let is : table_with d c ≡ t = (let e : Some (table_with d c) ≡ Some t = got in cc) in
    (subst (λ (t : Table). AreStored (key_type t.definition) new.partitions) (sym is) stored, held.1)
memtables_set (d ∷ ds) (c ∷ cs) (suc at) t new held got stored = (held.0, memtables_set ds cs at t new held.1 got stored)

-- under the same partitioner
pub under_at : (p : Partitioner) (cs : List MemtableView) (at : ℕ) (c : MemtableView) → AreUnder p cs → slice_get cs at ≡ Some c → c.partitioner ≡ p
under_at p [] at c under got = cc
under_at p (x ∷ cs) zero c under got = let is : x ≡ c = (let e : Some x ≡ Some c = got in cc) in ap (λ (c : MemtableView). c.partitioner) (sym is) ∙ under.0
under_at p (x ∷ cs) (suc at) c under got = under_at p cs at c under.1 got

pub under_set : (p : Partitioner) (cs : List MemtableView) (at : ℕ) (new : MemtableView) → AreUnder p cs → new.partitioner ≡ p → AreUnder p (set cs at new)
under_set p [] at new under is = tt
under_set p (x ∷ cs) zero new under is = (is, under.1)
under_set p (x ∷ cs) (suc at) new under is = (under.0, under_set p cs at new under.1 is)

pub under_push : (p : Partitioner) (cs : List MemtableView) (new : MemtableView) → AreUnder p cs → new.partitioner ≡ p → AreUnder p (cs ++ new ∷ [])
under_push p [] new under is = (is, tt)
under_push p (x ∷ cs) new under is = (under.0, under_push p cs new under.1 is)

-- so a memtable is changed under the partitioner of all
pub changed_written : (p : Partitioner) (old new : List MemtableView) (m : Mutation) → AreUnder p old → IsChangedAt old m new → IsWrittenAt p old m new
changed_written p old new m under changed c got =
    changed c got ∙ ap (λ (q : Partitioner). set old (m.table - 1) (record c { partitions = put c.partitions (decorated q m.key) m.change })) (under_at p old (m.table - 1) c under got)

pub memtable_inside : (cs : List MemtableView) (at : ℕ) (c : MemtableView) → slice_get cs at ≡ Some c → at < length cs
memtable_inside [] at c got = cc
memtable_inside (x ∷ cs) zero c got = omega arith
memtable_inside (x ∷ cs) (suc at) c got = omega (arith, memtable_inside cs at c got)

-- as many tables as definitions
pub length_tables : (ds : List Definition) (cs : List MemtableView) → AreMemtables ds cs → length (tables_of ds cs) ≡ length ds
length_tables [] cs held = refl
length_tables (d ∷ ds) [] held = absurd held
length_tables (d ∷ ds) (c ∷ cs) held = omega (arith, length_tables ds cs held.1)

-- ---- one more table

pub tables_push : (ds : List Definition) (cs : List MemtableView) (d : Definition) (c : MemtableView) → AreMemtables ds cs → tables_of (ds ++ d ∷ []) (cs ++ c ∷ []) ≡ tables_of ds cs ++ table_with d c ∷ []
tables_push [] [] d c held = refl
tables_push [] (x ∷ cs) d c held = absurd held
tables_push (t ∷ ds) [] d c held = absurd held
tables_push (t ∷ ds) (x ∷ cs) d c held = ap (λ (rest : List Table). table_with t x ∷ rest) (tables_push ds cs d c held.1)

pub memtables_push : (ds : List Definition) (cs : List MemtableView) (d : Definition) (c : MemtableView) → AreMemtables ds cs → AreStored (key_type d) c.partitions → AreMemtables (ds ++ d ∷ []) (cs ++ c ∷ [])
memtables_push [] [] d c held stored = (stored, tt)
memtables_push [] (x ∷ cs) d c held stored = absurd held
memtables_push (t ∷ ds) [] d c held stored = absurd held
memtables_push (t ∷ ds) (x ∷ cs) d c held stored = (held.0, memtables_push ds cs d c held.1 stored)
