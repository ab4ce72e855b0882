-- A table whose maps are in a file.
use Rattle.std.specs.Prelude.{◌≡◌, ℕ, [], None, slice_set}
use Rattle.sasi_memtable.specs.MemtableView.{empty_memtable}
use Rattle.sasi_tables.specs.Held.{AreMapped, HeldTable}
use Rattle.sasi_tables.specs.TablesView.{held_in, wanted_of}
use Rattle.sasi_tables.specs.declared.parts.Parts.{Parts}

-- The table at this index has an empty memtable with its indexes and no frozen map, and nothing else is changed.
pub record IsCleared (index : ℕ) (t : HeldTable) (old new : Parts) : Type 0 where
  pub held : held_in new ≡ slice_set (held_in old) index (record t { frozen = []; memtable = empty_memtable old.manifest.listing.partitioner; first = None })
  pub mapped : AreMapped new.maps new.last_map (wanted_of new) new.tables.items
  pub rest : new ≡ record old { tables = new.tables; maps = new.maps }
