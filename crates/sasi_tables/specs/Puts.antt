-- What a mutation changes of a store in memory.
use Rattle.std.specs.Prelude.{◌≡◌, ◌-◌, ◌<◌, ◌≤◌, ℕ, max, List, length, Some, slice_get, slice_set}
use Rattle.sasi_cells.specs.Maps.{put}
use Rattle.sasi_cells.specs.declared.mutation.Mutation.{Mutation}
use Rattle.sasi_layout.specs.Moves.{or_else}
use Rattle.sasi_layout.specs.Serving.{StoreInMemory, TableInMemory}
use Rattle.sasi_manifest.specs.Listings.{at_number}
use Rattle.sasi_memtable.specs.MemtableView.{with_change}
use Rattle.sasi_model.specs.Cells.{Partition, max_timestamp_of}
use Rattle.sasi_model.specs.State.{decorated}
use Rattle.sasi_types.specs.declared.partitioner.Partitioner.{Partitioner}
use Rattle.sasi_tables.specs.Held.{HeldTable}

-- the memtable with the change of a key; the segment is the first one of the table if it has none
abbrev pub put_map : ℕ → List ℕ → Partition → HeldTable → HeldTable
put_map segment key change t = record t { memtable = with_change t.memtable key change; first = or_else t.first (Some segment) }

-- so of the table of the mutation
abbrev pub IsPutAt : ℕ → Mutation → List HeldTable → List HeldTable → Type 0
IsPutAt segment m old new = (table : HeldTable) → slice_get old (m.table - 1) ≡ Some table → new ≡ slice_set old (m.table - 1) (put_map segment m.key m.change table)

-- there is a memtable for the mutation
pub record HasTableFor (number : ℕ) (tables : List HeldTable) : Type 0 where
  pub some : 0 < number
  pub inside : number ≤ length tables

-- the same of a table in memory
abbrev pub put_in_memory : Partitioner → ℕ → Mutation → TableInMemory → TableInMemory
put_in_memory partitioner segment m t = record t { first = or_else t.first (Some segment); memtable = put t.memtable (decorated partitioner m.key) m.change }

-- and of the whole store, whose log goes on from there
abbrev pub memory_after_put : Mutation → StoreInMemory → StoreInMemory
memory_after_put m store = record store {
  tables = at_number 1 m.table (put_in_memory store.manifest.listing.partitioner store.used.log m) store.tables;
  max_timestamp = max store.max_timestamp (max_timestamp_of m.change);
}
