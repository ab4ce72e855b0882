-- A store in memory: what it is, what it needs to make a change, and which layout it serves.
use Rattle.std.specs.Prelude.{◌≡◌, ◌+◌, ◌^◌, ◌<◌, ◌≤◌, ℕ, Bool, IsTrue, List, [], ◌∷◌, ◌++◌, map, Option, None, Some, length, ⊤}
use Rattle.std.specs.FinMap.{get}
use Rattle.std.specs.List.{AllByRecursion}
use Rattle.sasi_types.specs.declared.column.ColumnType.{ColumnType}
use Rattle.sasi_types.specs.declared.decorated_key.DecoratedKey.{DecoratedKey}
use Rattle.sasi_types.specs.declared.partitioner.Partitioner.{Partitioner}
use Rattle.sasi_types.specs.Token.{AreBytes}
use Rattle.sasi_host.specs.Names.{Folder, log_name, manifest_name}
use Rattle.sasi_host.specs.declared.name.FileName.{FileName}
use Rattle.sasi_host.specs.View.{IsTold, Reaches, View}
use Rattle.sasi_host.specs.Disk.{Each}
use Rattle.sasi_gated.specs.Handles.{Handle}
use Rattle.sasi_model.specs.Abbreviations.{Partitions, TIME_LIMIT, types_of}
use Rattle.sasi_model.specs.Cells.{Partition}
use Rattle.sasi_model.specs.Refusals.{Known}
use Rattle.sasi_model.specs.State.{Definition, decorated, max_timestamp}
use Rattle.sasi_model.specs.Stored.{IsBodyOf, column_types}
use Rattle.sasi_cells.specs.declared.mutation.Mutation.{Mutation}
use Rattle.sasi_commitlog.specs.LogPosition.{IsAtLogEnd}
use Rattle.sasi_manifest.specs.Consistent.{IsConsistent}
use Rattle.sasi_manifest.specs.Listings.{listed_definitions}
use Rattle.sasi_manifest.specs.OpenManifest.{ManifestState, ManifestStands}
use Rattle.sasi_layout.specs.Kept.{AreAside, HasExactly, HasKeptBeside, Kept}
use Rattle.sasi_layout.specs.Layout.{Layout, TableParts, Used, bare, listing_of, state_of}
use Rattle.sasi_layout.specs.Shape.{HasShape, IsOfShape}
use Rattle.sasi_layout.specs.Statements.{definitions_of}
use Rattle.sasi_layout.specs.NumbersInOrder.{HasFilesInOrder, HasIndexesNumbered, HasNumbersInOrder}

-- ---- a store in memory

-- what is in memory of a table
pub record TableInMemory : Type 0 where
  pub first : Option ℕ
  pub frozen : List Partitions
  pub memtable : Partitions

pub record StoreInMemory : Type 0 where
  pub definitions : List Definition
  pub manifest : ManifestState
  -- the last segment of the log
  pub log : Handle
  pub tables : List TableInMemory
  pub used : Used
  -- the largest timestamp of the state
  pub max_timestamp : ℕ

abbrev pub table_in_memory : TableParts → TableInMemory
table_in_memory t = record { first = t.first; frozen = t.frozen; memtable = t.memtable }

-- what it judges a piece by
abbrev pub known_in_memory : StoreInMemory → Known
known_in_memory store = record { tables = store.definitions; max_timestamp = store.max_timestamp }

abbrev pub kept_by : StoreInMemory → Kept
kept_by store = record { manifest = store.manifest.number; listing = store.manifest.listing }

-- ---- what it needs to make a change

-- the decorated key is that of its key, and the partition can be stored in a table of these columns
pub record IsStorable (partitioner : Partitioner) (types : List ColumnType) (e : DecoratedKey × Partition) : Type 0 where
  pub key_is : e.0 ≡ decorated partitioner e.0.key
  pub bytes : AreBytes e.0.key
  pub body : IsBodyOf types e.0.key e.1

-- and so of each partition of a map
abbrev pub AreStorable : Partitioner → List ColumnType → Partitions → Type 0
AreStorable partitioner types m = (key : DecoratedKey) (part : Partition) → get m key ≡ Some part → IsStorable partitioner types (key, part)

-- there is a key column, and there are at most 64 columns
pub record IsTyped (d : Definition) : Type 0 where
  pub types : column_types d ≡ Some (types_of d)
  pub few : length (types_of d) ≤ 64

-- the segment, if there is one, is from the floor to the last
abbrev pub IsLive : ℕ → ℕ → Option ℕ → Type 0
IsLive floor last None = ⊤
IsLive floor last (Some segment) = (floor ≤ segment) × (segment ≤ last)

-- what isn't flushed can be stored, and the table's first segment is live
pub record IsTableReady (partitioner : Partitioner) (floor last : ℕ) (d : Definition) (t : TableInMemory) : Type 0 where
  pub typed : IsTyped d
  pub first : IsLive floor last t.first
  pub frozen : AllByRecursion (AreStorable partitioner (types_of d)) t.frozen
  pub memtable : AreStorable partitioner (types_of d) t.memtable

-- a table in memory for each definition
abbrev pub AreTablesReady : Partitioner → ℕ → ℕ → List Definition → List TableInMemory → Type 0
AreTablesReady partitioner floor last [] [] = ⊤
AreTablesReady partitioner floor last [] (t ∷ ts) = ⊥
AreTablesReady partitioner floor last (d ∷ ds) [] = ⊥
AreTablesReady partitioner floor last (d ∷ ds) (t ∷ ts) = IsTableReady partitioner floor last d t × AreTablesReady partitioner floor last ds ts

-- the last used numbers are at least those that are listed, and have 32 bits
pub record AreNumbered (manifest : ManifestState) (used : Used) : Type 0 where
  pub manifest_is : used.manifest ≡ manifest.number
  pub log_is : used.log ≡ manifest.listing.last
  pub files : AllByRecursion (HasFilesInOrder used.«data» manifest.listing.last) manifest.listing.tables
  pub indexes : AllByRecursion (HasIndexesNumbered used.index) manifest.listing.tables
  pub fits : used.«data» < 2 ^ 32

-- the folder has the files that the store keeps, those aside, and no other
abbrev pub HasExactlyBeside : View → (FileName → Bool) → StoreInMemory → Type 0
HasExactlyBeside v aside store = (folder : Folder) → v.files ≡ Some folder → HasKeptBeside aside (kept_by store) folder

-- The store can make a change, whatever is known of the folder's contents: calls on the host find the names that they need, and no other file is there but those aside.
pub record CanChange (v : View) (store : StoreInMemory) : Type 0 where
  pub consistent : IsConsistent store.manifest.listing
  pub definitions : store.definitions ≡ listed_definitions store.manifest.listing.tables
  pub tables : AreTablesReady store.manifest.listing.partitioner store.manifest.listing.floor store.manifest.listing.last store.definitions store.tables
  pub numbered : AreNumbered store.manifest store.used
  pub timestamp : store.max_timestamp ≤ TIME_LIMIT
  pub log_file : store.log.file ≡ log_name store.manifest.listing.last
  pub manifest_room : Reaches v (manifest_name store.manifest.number) (store.manifest.at + 1)
  pub log_room : Reaches v store.log.file (store.log.at + 1)
  pub manifest_usable : IsTrue store.manifest.usable
  pub stands : IsTold v → ManifestStands v store.manifest.number store.manifest.at store.manifest.listing
  pub log_usable : IsTrue store.log.usable
  pub aside : FileName → Bool
  pub aside_are : AreAside store.used.«data» aside
  pub exactly : HasExactlyBeside v aside store

-- ---- the layout that it serves

-- The store serves the layout: it has in memory what the layout has there, the manifest and the log end where it goes on, and each image has the layout's shape.
pub record Serves (v : View) (store : StoreInMemory) (l : Layout) : Type 0 where
  pub told : IsTold v
  pub in_order : HasNumbersInOrder l
  pub definitions : store.definitions ≡ definitions_of l
  pub tables : store.tables ≡ map table_in_memory l.tables
  pub used : store.used ≡ l.used
  pub timestamp : store.max_timestamp ≡ max_timestamp (state_of l)
  pub listing : store.manifest.listing ≡ listing_of l
  pub manifest : store.manifest.number ≡ l.used.manifest
  pub log : store.log.file ≡ log_name l.last
  -- the mutations of the live segments, those of the last one apart
  pub older : List (List Mutation)
  pub current : List Mutation
  pub log_end : IsAtLogEnd v (log_name l.last) store.log.at current
  pub manifest_end : ManifestStands v l.used.manifest store.manifest.at (listing_of l)
  pub shape : Each v (λ x. HasShape x (bare l) (older ++ current ∷ []))

-- ---- the end

-- what the end of a script leaves of a layout: a cursor is the session's and has no file of its own, and there is
-- no task yet, so the layout as it is
abbrev pub closed : Layout → Layout
closed l = l

-- the folder has the files of the layout alone, and each image has its shape
pub record Ended (v : View) (l : Layout) : Type 0 where
  pub exactly : (folder : Folder) → v.files ≡ Some folder → HasExactly l folder
  pub shape : Each v (IsOfShape (bare l))
