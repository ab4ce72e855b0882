-- Tables, made of their definitions and memtables.
use Rattle.std.specs.Prelude.{◌≡◌, ℕ, ◌-◌, ◌<◌, ◌≤◌, List, [], ◌∷◌, length, slice_get, slice_set, Some, ⊤}
use Rattle.std.specs.List.{AllByRecursion}
use Rattle.sasi_types.specs.declared.partitioner.Partitioner.{Partitioner}
use Rattle.sasi_cells.specs.Maps.{put}
use Rattle.sasi_cells.specs.declared.mutation.Mutation.{Mutation}
use Rattle.sasi_model.specs.State.{Definition, State, Table, decorated}
use Rattle.sasi_model.specs.Abbreviations.{max_timestamp_of_tables, TIME_LIMIT, key_type}
use Rattle.sasi_memtable.specs.MemtableView.{MemtableView, with_change}
use Rattle.sasi_machine.specs.TableRows.{AreStored}

abbrev pub table_with : Definition → MemtableView → Table
table_with d c = record { definition = d; partitions = c.partitions }

abbrev pub tables_of : List Definition → List MemtableView → List Table
tables_of [] memtables = []
tables_of (d ∷ ds) [] = []
tables_of (d ∷ ds) (c ∷ cs) = table_with d c ∷ tables_of ds cs

abbrev pub state_of : Partitioner → List Definition → List MemtableView → State
state_of partitioner ds cs = record { partitioner = partitioner; tables = tables_of ds cs }

-- there is a memtable for each table, with keys of its key's type and with texts that are UTF-8
abbrev pub AreMemtables : List Definition → List MemtableView → Type 0
AreMemtables [] [] = ⊤
AreMemtables [] (c ∷ cs) = ⊥
AreMemtables (d ∷ ds) [] = ⊥
AreMemtables (d ∷ ds) (c ∷ cs) = AreStored (key_type d) c.partitions × AreMemtables ds cs

-- all are under the one partitioner
abbrev pub AreUnder : Partitioner → List MemtableView → Type 0
AreUnder partitioner = AllByRecursion (λ c. c.partitioner ≡ partitioner)

-- each table has its memtable, under the one partitioner, and this is the largest timestamp of all
pub record IsMachineState (partitioner : Partitioner) (tables : List Definition) (memtables : List MemtableView) (max_timestamp : ℕ) : Type 0 where
  pub held : AreMemtables tables memtables
  pub under : AreUnder partitioner memtables
  pub max_timestamp_is : max_timestamp ≡ max_timestamp_of_tables (tables_of tables memtables)
  pub limit : max_timestamp ≤ TIME_LIMIT

-- the memtable after a mutation
abbrev pub written : Partitioner → Mutation → MemtableView → MemtableView
written partitioner m c = record c { partitions = put c.partitions (decorated partitioner m.key) m.change }

-- the table of the mutation exists
pub record HasMemtableFor (memtables : List MemtableView) (m : Mutation) : Type 0 where
  pub some : 0 < m.table
  pub inside : m.table ≤ length memtables

-- the memtable of its table is the one after the mutation
abbrev pub IsWrittenAt : Partitioner → List MemtableView → Mutation → List MemtableView → Type 0
IsWrittenAt partitioner old m new = (c : MemtableView) → slice_get old (m.table - 1) ≡ Some c → new ≡ slice_set old (m.table - 1) (written partitioner m c)

-- the same under the partitioner of the memtable itself
abbrev pub IsChangedAt : List MemtableView → Mutation → List MemtableView → Type 0
IsChangedAt old m new = (c : MemtableView) → slice_get old (m.table - 1) ≡ Some c → new ≡ slice_set old (m.table - 1) (with_change c m.key m.change)
