-- The memtables of a replay: what each mutation makes of them.
use Rattle.std.specs.Prelude.{◌≡◌, ◌-◌, ◌<◌, ◌≤◌, ℕ, suc, length, max, slice_get, slice_set, if◌then◌else◌, List, [], ◌∷◌, None, Some, ⊤}
use Rattle.std.specs.List.{fold}
use Rattle.sasi_types.specs.declared.partitioner.Partitioner.{Partitioner}
use Rattle.std.specs.FinMap as map_
use Rattle.sasi_model.specs.Abbreviations.{TIME_LIMIT, max_timestamp_of_partitions, types_of}
use Rattle.sasi_model.specs.Cells.{max_timestamp_of}
use Rattle.sasi_model.specs.State.{Definition}
use Rattle.sasi_cells.specs.declared.mutation.Mutation.{Mutation}
use Rattle.sasi_memtable.specs.MemtableView.{empty_memtable, with_change}
use Rattle.sasi_manifest.specs.declared.listing.Listing.{Listing}
use Rattle.sasi_manifest.specs.ListedDefinition.{ListedDefinition}
use Rattle.sasi_manifest.specs.Listings.{at_number}
use Rattle.sasi_folder.specs.Replay.{is_replayed}
use Rattle.sasi_layout.specs.Moves.{or_else}
use Rattle.sasi_layout.specs.Serving.{AreStorable, IsLive, IsTyped}
use Rattle.sasi_recover.specs.declared.opened.TableMap.{TableMap}
use Rattle.sasi_recover.specs.declared.replay.Memtables.{Memtables}

-- What was replayed: the memtables in the order of the tables, and the largest timestamp
pub record ReplayState : Type 0 where
  pub tables : List TableMap
  pub max_timestamp : ℕ

abbrev pub seen : Memtables → ReplayState
seen r = record { tables = r.tables.items; max_timestamp = r.max_timestamp }

-- ---- mutations

-- the memtable of its table after a mutation of the segment
abbrev pub with_mutation : ℕ → Mutation → TableMap → TableMap
with_mutation segment m t = record t { memtable = with_change t.memtable m.key m.change; first = or_else t.first (Some segment) }

-- all of them after it
abbrev pub after_replayed : ℕ → ReplayState → Mutation → ReplayState
after_replayed segment s m = record { tables = at_number 1 m.table (with_mutation segment m) s.tables; max_timestamp = max s.max_timestamp (max_timestamp_of m.change) }

-- unless its table begins later
abbrev pub after_mutation : List ListedDefinition → ℕ → ReplayState → Mutation → ReplayState
after_mutation tables segment s m = if is_replayed tables segment m.table then after_replayed segment s m else s

-- after all of a segment
abbrev pub after_segment : List ListedDefinition → ℕ → ReplayState → List Mutation → ReplayState
after_segment tables segment s ms = fold (after_mutation tables segment) s ms

-- after segments with rising numbers from this one on
abbrev pub after_segments : List ListedDefinition → ℕ → ReplayState → List (List Mutation) → ReplayState
after_segments tables segment s [] = s
after_segments tables segment s (ms ∷ logs) = after_segments tables (suc segment) (after_segment tables segment s ms) logs

-- the table of the mutation exists
pub record HasTableFor (tables : List TableMap) (m : Mutation) : Type 0 where
  pub some : 0 < m.table
  pub inside : m.table ≤ length tables

-- the memtable at its position is the one after the mutation
abbrev pub IsPutAt : ℕ → Mutation → List TableMap → List TableMap → Type 0
IsPutAt segment m old new = (t : TableMap) → slice_get old (m.table - 1) ≡ Some t → new ≡ slice_set old (m.table - 1) (with_mutation segment m t)

-- ---- the start

-- empty memtables, numbered from this number on
abbrev pub empty_maps : Partitioner → ℕ → List ListedDefinition → List TableMap
empty_maps p number [] = []
empty_maps p number (t ∷ ts) = record { number = number; memtable = empty_memtable p; first = None } ∷ empty_maps p (suc number) ts

abbrev pub empty_state : Listing → ReplayState
empty_state listing = record { tables = empty_maps listing.partitioner 1 listing.tables; max_timestamp = 0 }

-- what a listing and its live segments make
unfoldable pub replayed_state : Listing → List (List Mutation) → ReplayState
replayed_state listing logs = after_segments listing.tables listing.floor (empty_state listing) logs

-- ---- what holds all along

-- the segment is from the floor to the last
abbrev pub IsLiveSegment : Listing → ℕ → Type 0
IsLiveSegment listing segment = (listing.floor ≤ segment) × (segment ≤ listing.last)

-- the memtable of the table with this number: what it has can be stored in the table
pub record IsMapOf (p : Partitioner) (floor last number : ℕ) (d : Definition) (t : TableMap) : Type 0 where
  pub number_is : t.number ≡ number
  pub typed : IsTyped d
  pub under : t.memtable.partitioner ≡ p
  pub storable : AreStorable p (types_of d) t.memtable.partitions
  pub first : IsLive floor last t.first

-- one for each table, numbered from this number on
abbrev pub AreMapsFrom : Partitioner → ℕ → ℕ → ℕ → List ListedDefinition → List TableMap → Type 0
AreMapsFrom p floor last number [] [] = ⊤
AreMapsFrom p floor last number [] (x ∷ xs) = ⊥
AreMapsFrom p floor last number (t ∷ ts) [] = ⊥
AreMapsFrom p floor last number (t ∷ ts) (x ∷ xs) = IsMapOf p floor last number t.definition x × AreMapsFrom p floor last (suc number) ts xs

-- **The memtables are those of the listed tables.**
abbrev pub AreMaps : Listing → List TableMap → Type 0
AreMaps listing xs = AreMapsFrom listing.partitioner listing.floor listing.last 1 listing.tables xs

-- the largest timestamp of memtables
abbrev pub tables_time : List TableMap → ℕ
tables_time [] = 0
tables_time (x ∷ xs) = max (max_timestamp_of_partitions (map_.values x.memtable.partitions)) (tables_time xs)

-- the memtables are those of the listed tables, and the timestamp is their largest
pub record IsReplayOf (listing : Listing) (s : ReplayState) : Type 0 where
  pub maps : AreMaps listing s.tables
  pub time : s.max_timestamp ≡ tables_time s.tables
  pub limit : s.max_timestamp ≤ TIME_LIMIT
