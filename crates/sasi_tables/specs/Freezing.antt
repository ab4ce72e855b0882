-- A freeze: the memtable of a table becomes its last frozen map, and a new one is empty.
use Rattle.std.specs.Prelude.{◌≡◌, ℕ, ◌-◌, Bool, true, false, if◌then◌else◌, List, [], ◌∷◌, ◌++◌, Some, slice_get, slice_set}
use Rattle.std.specs.Option.{option_map_or}
use Rattle.std.specs.FinMap as map_
use Rattle.sasi_layout.specs.Layout.{Layout, numbered}
use Rattle.sasi_layout.specs.Moves.{Freeze, Move}
use Rattle.sasi_layout.specs.Serving.{StoreInMemory, TableInMemory}
use Rattle.sasi_layout.specs.Statements.{any_partition}
use Rattle.sasi_manifest.specs.Listings.{at_number}
use Rattle.sasi_memtable.specs.MemtableView.{empty_memtable}
use Rattle.sasi_tables.specs.Held.{AreMapped, HeldTable}
use Rattle.sasi_tables.specs.TablesView.{held_in, wanted_of}
use Rattle.sasi_tables.specs.declared.parts.Parts.{Parts}

-- the memtable of the table with a number holds anything, if there is one
abbrev pub holds_any : ℕ → Layout → Bool
holds_any table l = option_map_or (λ t. any_partition (t.memtable ∷ [])) (numbered 1 table l.tables) false

-- a table is frozen if its memtable holds anything
abbrev pub freeze_where : ℕ → Layout → List Move
freeze_where table l = if holds_any table l then Freeze table ∷ [] else []

-- a table in memory whose memtable is frozen
abbrev pub frozen_in_memory : TableInMemory → TableInMemory
frozen_in_memory t = record t { frozen = t.frozen ++ t.memtable ∷ []; memtable = map_.empty }

-- the store then
abbrev pub memory_after_freeze : ℕ → StoreInMemory → StoreInMemory
memory_after_freeze table store = record store { tables = at_number 1 table frozen_in_memory store.tables }

-- the store, in which the table is frozen if its memtable holds anything
abbrev pub frozen_where : ℕ → StoreInMemory → StoreInMemory
frozen_where table store = if option_map_or (λ (t : TableInMemory). any_partition (t.memtable ∷ [])) (slice_get store.tables (table - 1)) false then memory_after_freeze table store else store

-- The memtable of the table at this index is its last frozen map, and it has an empty memtable with its indexes. Nothing else is changed.
pub record HasFrozen (index : ℕ) (t : HeldTable) (old new : Parts) : Type 0 where
  pub held : held_in new ≡ slice_set (held_in old) index (record t { frozen = t.frozen ++ t.memtable ∷ []; memtable = empty_memtable old.manifest.listing.partitioner })
  pub mapped : AreMapped new.maps new.last_map (wanted_of new) new.tables.items
  pub rest : new ≡ record old { tables = new.tables; maps = new.maps; last_map = new.last_map }

-- so where it holds anything, and else nothing is changed
abbrev pub HasFrozenIf : Bool → ℕ → HeldTable → Parts → Parts → Type 0
HasFrozenIf true index t old new = HasFrozen index t old new
HasFrozenIf false index t old new = new ≡ old

-- **The table with this number is frozen if its memtable holds anything.**
abbrev pub HasFrozenWhere : ℕ → Parts → Parts → Type 0
HasFrozenWhere table old new = (t : HeldTable) → slice_get (held_in old) (table - 1) ≡ Some t → HasFrozenIf (any_partition (t.memtable.partitions ∷ [])) (table - 1) t old new

-- its memtable holds nothing
abbrev pub HasEmptyMemtable : ℕ → Parts → Type 0
HasEmptyMemtable table p = (t : HeldTable) → slice_get (held_in p) (table - 1) ≡ Some t → any_partition (t.memtable.partitions ∷ []) ≡ false
