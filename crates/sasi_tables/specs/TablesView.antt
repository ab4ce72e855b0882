-- What contracts see of the tables of a store, by its parts.
use Rattle.std.specs.Prelude.{◌≡◌, List, map}
use Rattle.std.specs.List.{AllByRecursion}
use Rattle.sasi_types.specs.declared.partitioner.Partitioner.{Partitioner}
use Rattle.sasi_layout.specs.Serving.{StoreInMemory}
use Rattle.sasi_memtable.specs.MemtableView.{MemtableView}
use Rattle.sasi_recover.specs.OpenedFolder.{used_numbers}
use Rattle.sasi_schema.specs.Numbers.{RisesFrom}
use Rattle.sasi_tables.specs.Held.{AreMapped, HasRegularIndexes, HeldTable, Subject, held_of, in_memory, subjects_of}
use Rattle.sasi_tables.specs.declared.parts.Parts.{Parts}

-- the tables with their maps
abbrev pub held_in : Parts → List HeldTable
held_in p = held_of p.maps p.tables.items

abbrev pub memory_of : Parts → StoreInMemory
memory_of p = record {
  definitions = p.schema.definitions;
  manifest = p.manifest;
  log = p.log;
  tables = map in_memory (held_in p);
  used = used_numbers p.numbers;
  max_timestamp = p.max_timestamp;
}

-- the tables are numbered from 1, and their maps are under the one partitioner
pub record AreTables (partitioner : Partitioner) (tables : List HeldTable) : Type 0 where
  pub numbers : RisesFrom 1 (map (λ (t : HeldTable). t.number) tables)
  pub under : AllByRecursion (λ (t : HeldTable). t.memtable.partitioner ≡ partitioner) tables
  pub frozen : AllByRecursion (λ (t : HeldTable). AllByRecursion (λ (m : MemtableView). m.partitioner ≡ partitioner) t.frozen) tables

-- the indexes that the maps of each table have
abbrev pub wanted_of : Parts → List (List Subject)
wanted_of p = map subjects_of p.manifest.listing.tables

-- **They are the parts of a store that can make a step**: each map has exactly the indexes that are listed for its table, and each of these has the terms of the cells that are current in the map.
pub record IsOfParts (p : Parts) : Type 0 where
  pub tables : AreTables p.manifest.listing.partitioner (held_in p)
  pub mapped : AreMapped p.maps p.last_map (wanted_of p) p.tables.items
  pub regular : AllByRecursion HasRegularIndexes p.manifest.listing.tables
