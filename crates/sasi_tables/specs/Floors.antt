-- The first live segment after the flush of a table, and what a flush leaves in memory.
use Rattle.std.specs.Prelude.{◌≡◌, ◌+◌, ◌-◌, ◌<◌, ◌≤◌, ℕ, suc, nat_eq, if◌then◌else◌, List, [], ◌∷◌, length, slice_get, Option, None, Some}
use Rattle.std.specs.FinMap as map_
use Rattle.sasi_cells.specs.Maps.{merged}
use Rattle.sasi_gated.specs.Handles.{Handle}
use Rattle.sasi_layout.specs.Moves.{lesser}
use Rattle.sasi_layout.specs.Serving.{StoreInMemory, TableInMemory}
use Rattle.sasi_manifest.specs.declared.files.PartNumber.{PartNumber}
use Rattle.sasi_manifest.specs.Listings.{at_number}
use Rattle.sasi_manifest.specs.OpenManifest.{ManifestState}
use Rattle.sasi_tables.specs.Held.{unflushed_maps}

-- the least segment that has a mutation of another table than this one, and else the last
abbrev pub floor_in_memory : ℕ → ℕ → ℕ → List TableInMemory → ℕ
floor_in_memory n table last [] = last
floor_in_memory n table last (t ∷ ts) = if nat_eq n table then floor_in_memory (suc n) table last ts else lesser t.first (floor_in_memory (suc n) table last ts)

-- the table has nothing in memory any more
abbrev pub flushed_in_memory : TableInMemory → TableInMemory
flushed_in_memory t = record { first = None; frozen = []; memtable = map_.empty }

-- the store after the flush of a table, whose manifest and log go on from there, and whose file has index files of these parts
abbrev pub memory_after_flush : ℕ → List PartNumber → ManifestState → Handle → StoreInMemory → StoreInMemory
memory_after_flush table parts manifest log store = record store {
  manifest = manifest;
  log = log;
  tables = at_number 1 table flushed_in_memory store.tables;
  used = record store.used { log = suc store.used.log; «data» = suc store.used.«data»; part = store.used.part + length parts };
}

-- the table is there, with something in its maps
pub record IsUnflushed (table : ℕ) (store : StoreInMemory) : Type 0 where
  pub some : 0 < table
  pub there_is : TableInMemory
  pub there : slice_get store.tables (table - 1) ≡ Some there_is
  pub held : 1 ≤ length (map_.entries (merged (unflushed_maps there_is)))

-- a floor, or the first segment of a table of this number where it is lower; that of the flushed table counts for nothing
abbrev pub lowered : ℕ → ℕ → ℕ → Option ℕ → ℕ
lowered table floor number first = if nat_eq number table then floor else lesser first floor
