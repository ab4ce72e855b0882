-- The freeze of a table's memtable: what the store serves then, and that it is ready.
use Rattle.std.proofs.Common.{◌≡◌, ◌-◌, ◌<◌, Bool, true, false, cond, nat_eq, ℕ, suc, List, [], ◌∷◌, ◌++◌, map, slice_get, Option, Some, refl, sym, ap, subst, ◌∙◌, not, ◌||◌}
use Rattle.std.specs.FinMap as map_
use Rattle.std.specs.List.{AllByRecursion}
use Rattle.std.specs.Option.{option_map_or}
use Rattle.sasi_host.specs.View.{View}
use Rattle.sasi_layout.proofs.Freezes.{bare_freeze}
use Rattle.sasi_layout.proofs.LayoutLaws.{freeze_state}
use Rattle.sasi_layout.proofs.ListingLaws.{freeze_listing}
use Rattle.sasi_layout.proofs.MovesInOrder.{moved_in_order}
use Rattle.sasi_layout.proofs.Numbered.{seen_at, unseen_at}
use Rattle.sasi_layout.proofs.Storable.{none_storable}
use Rattle.sasi_layout.specs.Layout.{Layout, TableParts}
use Rattle.sasi_layout.specs.Moves.{Freeze, Move, after_freeze, after_moves, freeze_table}
use Rattle.sasi_layout.specs.Serving.{AreStorable, AreTablesReady, CanChange, IsTableReady, Serves, StoreInMemory, TableInMemory, table_in_memory}
use Rattle.sasi_layout.specs.Shape.{HasShape}
use Rattle.sasi_layout.specs.Statements.{any_partition}
use Rattle.sasi_manifest.specs.Listings.{at_number}
use Rattle.sasi_manifest.specs.OpenManifest.{ManifestStands}
use Rattle.sasi_manifest.specs.declared.listing.Listing.{Listing}
use Rattle.sasi_memtable.specs.MemtableView.{MemtableView}
use Rattle.sasi_model.specs.Abbreviations.{types_of}
use Rattle.sasi_model.specs.State.{Definition, max_timestamp}
use Rattle.sasi_schema.specs.Numbers.{RisesFrom}
use Rattle.sasi_tables.specs.Freezing.{HasFrozen, freeze_where, frozen_in_memory, frozen_where, holds_any, memory_after_freeze}
use Rattle.sasi_tables.specs.Held.{HasRegularIndexes, HeldTable, in_memory}
use Rattle.sasi_tables.specs.MakesMoves.{Knows}
use Rattle.sasi_tables.specs.TablesView.{AreTables, IsOfParts, held_in, memory_of}
use Rattle.sasi_tables.specs.declared.parts.Parts.{Parts}
use Rattle.sasi_tables.proofs.Composition.{numbered_at}
use Rattle.sasi_tables.proofs.TablesInMemory.{all_at, all_push, all_set, map_there, seen_as, set_numbered, unseen_set}
use Rattle.sasi_types.specs.declared.partitioner.Partitioner.{Partitioner}
use Rattle.sasi_tables.proofs.HeldMaps.{one_there, set_at}
use Rattle.std.specs.Prelude.{◌==◌}
use Rattle.sasi_model.specs.Cells.{Partition}
use Rattle.sasi_types.specs.DecoratedKey.{decorated_cmp}
use Rattle.std.proofs.lemmas.List.{map-append}

-- ---- the store in memory

module _ (table : ℕ) (store : StoreInMemory) where
  -- it serves the layout after the freeze
  freeze_serves : (v : View) (l : Layout) → Serves v store l → Serves v (memory_after_freeze table store) (after_freeze table l)
  freeze_serves v l serves = record {
    told = serves.told;
    in_order = moved_in_order (Freeze table) l tt serves.in_order;
    definitions = serves.definitions ∙ sym (unseen_at (λ (t : TableParts). t.definition) freeze_table (λ t. refl) 1 table l.tables);
    tables = ap (at_number 1 table frozen_in_memory) serves.tables ∙ sym (seen_at table_in_memory freeze_table frozen_in_memory (λ t. refl) 1 table l.tables);
    used = serves.used;
    timestamp = serves.timestamp ∙ sym (ap max_timestamp (freeze_state table l));
    listing = serves.listing ∙ sym (freeze_listing table l);
    manifest = serves.manifest;
    log = serves.log;
    older = serves.older;
    current = serves.current;
    log_end = serves.log_end;
    manifest_end = subst (λ (k : Listing). ManifestStands v l.used.manifest store.manifest.at k) (sym (freeze_listing table l)) serves.manifest_end;
    shape = λ x now. subst (λ (b : Layout). HasShape x b (serves.older ++ serves.current ∷ [])) (sym (bare_freeze table l)) (serves.shape x now);
  }

  -- it is ready after it
  freeze_ready : (v : View) → CanChange v store → CanChange v (memory_after_freeze table store)
  freeze_ready v ready =
      let k = store.manifest.listing in
      record {
        consistent = ready.consistent;
        definitions = ready.definitions;
        tables = each k.partitioner k.floor k.last 1 store.definitions store.tables ready.tables;
        numbered = ready.numbered;
        timestamp = ready.timestamp;
        log_file = ready.log_file;
        manifest_room = ready.manifest_room;
        log_room = ready.log_room;
        manifest_usable = ready.manifest_usable;
        stands = ready.stands;
        log_usable = ready.log_usable;
        aside = ready.aside;
        aside_are = ready.aside_are;
        exactly = ready.exactly;
      }
    where
      frozen_ready : (p : Partitioner) (floor last : ℕ) (d : Definition) (t : TableInMemory) → IsTableReady p floor last d t → IsTableReady p floor last d (frozen_in_memory t)
      frozen_ready p floor last d t is = record {
        typed = is.typed;
        first = is.first;
        frozen = all_push (AreStorable p (types_of d)) t.frozen t.memtable is.frozen is.memtable;
        memtable = none_storable p (types_of d);
      }

      one : (p : Partitioner) (floor last : ℕ) (d : Definition) (t : TableInMemory) (b : Bool) → IsTableReady p floor last d t → IsTableReady p floor last d (cond b (frozen_in_memory t) t)
      one p floor last d t true is = frozen_ready p floor last d t is
      one p floor last d t false is = is

      each : (p : Partitioner) (floor last n : ℕ) (ds : List Definition) (ts : List TableInMemory) → AreTablesReady p floor last ds ts → AreTablesReady p floor last ds (at_number n table frozen_in_memory ts)
      each p floor last n [] [] are = tt
      each p floor last n [] (t ∷ ts) are = absurd are
      each p floor last n (d ∷ ds) [] are = absurd are
      each p floor last n (d ∷ ds) (t ∷ ts) are = (one p floor last d t (nat_eq n table) are.0, each p floor last (suc n) ds ts are.1)

-- the store, where the memtable of the table holds anything, and where it doesn't
frozen_is : (table : ℕ) (store : StoreInMemory) (h : TableInMemory) → slice_get store.tables (table - 1) ≡ Some h → (b : Bool) → b ≡ any_partition (h.memtable ∷ []) → frozen_where table store ≡ cond b (memory_after_freeze table store) store
frozen_is table store h there b is =
    ap (λ (o : Option TableInMemory). cond (option_map_or (λ (t : TableInMemory). any_partition (t.memtable ∷ [])) o false) (memory_after_freeze table store) store) there
    ∙ ap (λ (t : Bool). cond t (memory_after_freeze table store) store) (sym is)

-- **It is ready after it, whatever the memtable holds.**
pub where_ready : (table : ℕ) (store : StoreInMemory) (h : TableInMemory) → slice_get store.tables (table - 1) ≡ Some h → (v : View) → CanChange v store → CanChange v (frozen_where table store)
where_ready table store h there v ready = by (any_partition (h.memtable ∷ [])) refl
  where
    by : (b : Bool) → b ≡ any_partition (h.memtable ∷ []) → CanChange v (frozen_where table store)
    by true is = subst (CanChange v) (sym (frozen_is table store h there true is)) (freeze_ready table store v ready)
    by false is = subst (CanChange v) (sym (frozen_is table store h there false is)) ready

-- ---- the moves

module _ (table : ℕ) (v : View) (store : StoreInMemory) (l : Layout) (serves : Serves v store l) (some : 0 < table) (h : TableInMemory) (there : slice_get store.tables (table - 1) ≡ Some h) where
  -- the layout's memtable holds anything where the store's does
  holds_are : holds_any table l ≡ any_partition (h.memtable ∷ [])
  holds_are =
      let t = seen_as table_in_memory l.tables (table - 1) h (ap (λ (ts : List TableInMemory). slice_get ts (table - 1)) (sym serves.tables) ∙ there) in
      ap (λ (o : Option TableParts). option_map_or (λ t. any_partition (t.memtable ∷ [])) o false) (numbered_at table l.tables t.0 some t.1)
      ∙ ap (λ (k : TableInMemory). any_partition (k.memtable ∷ [])) t.2

  freeze_is : (b : Bool) → any_partition (h.memtable ∷ []) ≡ b → freeze_where table l ≡ cond b (Freeze table ∷ []) []
  freeze_is b is = ap (λ (t : Bool). cond t (Freeze table ∷ []) []) (holds_are ∙ is)

  -- **The store whose table is frozen, if its memtable holds anything, serves the layout after the same moves.**
  pub where_serves : Serves v (frozen_where table store) (after_moves (freeze_where table l) l)
  where_serves = by (any_partition (h.memtable ∷ [])) refl
    where
      by : (b : Bool) → any_partition (h.memtable ∷ []) ≡ b → Serves v (frozen_where table store) (after_moves (freeze_where table l) l)
      by true is =
          subst (λ (ms : List Move). Serves v (frozen_where table store) (after_moves ms l)) (sym (freeze_is true is))
          (subst (λ (s : StoreInMemory). Serves v s (after_freeze table l)) (sym (frozen_is table store h there true (sym is))) (freeze_serves table store v l serves))
      by false is =
          subst (λ (ms : List Move). Serves v (frozen_where table store) (after_moves ms l)) (sym (freeze_is false is))
          (subst (λ (s : StoreInMemory). Serves v s l) (sym (frozen_is table store h there false (sym is))) serves)

-- ---- the parts

module _ (p new : Parts) (of : IsOfParts p) (table : ℕ) (some : 0 < table) (t : HeldTable) (there : slice_get (held_in p) (table - 1) ≡ Some t) (is : HasFrozen (table - 1) t p new) where
  abbrev p_partitioner : Partitioner
  p_partitioner = p.manifest.listing.partitioner

  abbrev frozen : HeldTable
  frozen = record t { frozen = t.frozen ++ t.memtable ∷ []; memtable = record { partitioner = p.manifest.listing.partitioner; partitions = map_.empty } }

  -- the store is that after the freeze
  frozen_memory : memory_of new ≡ memory_after_freeze table (memory_of p)
  frozen_memory =
      let seen : in_memory frozen ≡ frozen_in_memory (in_memory t) =
      ap (λ ms. record { first = t.first; frozen = ms; memtable = map_.empty }) (map-append (λ (m : MemtableView). m.partitions) t.frozen (t.memtable ∷ [])) in
      ap (λ (q : Parts). record (memory_of q) { tables = map in_memory (held_in new) }) is.rest
      ∙ ap (λ ts. record (memory_of p) { tables = ts }) (ap (map in_memory) is.held ∙ set_numbered in_memory frozen_in_memory table (held_in p) t frozen some there seen)

  -- and its parts stay parts
  pub frozen_parts : IsOfParts new
  frozen_parts =
      let manifest_is = ap (λ (q : Parts). q.manifest.listing) is.rest in
      let under = all_at (λ (t : HeldTable). t.memtable.partitioner ≡ p_partitioner) (table - 1) (held_in p) t of.tables.under there in
      let older = all_at (λ (t : HeldTable). AllByRecursion (λ (m : MemtableView). m.partitioner ≡ p_partitioner) t.frozen) (table - 1) (held_in p) t of.tables.frozen there in
      record {
        tables = subst (λ (k : Listing). AreTables k.partitioner (held_in new)) (sym manifest_is) (subst (AreTables p_partitioner) (sym is.held) (record {
          numbers = subst (RisesFrom 1) (sym (unseen_set (λ (t : HeldTable). t.number) (table - 1) (held_in p) t frozen there refl)) of.tables.numbers;
          under = all_set (λ (t : HeldTable). t.memtable.partitioner ≡ p_partitioner) (table - 1) (held_in p) frozen of.tables.under refl;
          frozen = all_set (λ (t : HeldTable). AllByRecursion (λ (m : MemtableView). m.partitioner ≡ p_partitioner) t.frozen) (table - 1) (held_in p) frozen of.tables.frozen
              (all_push (λ (m : MemtableView). m.partitioner ≡ p_partitioner) t.frozen t.memtable older under);
        }));
        mapped = is.mapped;
        regular = subst (λ (k : Listing). AllByRecursion HasRegularIndexes k.tables) (sym manifest_is) of.regular;
      }

  -- **A freeze of a memtable that holds anything.**
  pub held_memory : (b : Bool) → b ≡ true → b ≡ any_partition (t.memtable.partitions ∷ []) → memory_of new ≡ frozen_where table (memory_of p)
  held_memory b holds is = frozen_memory ∙ sym (frozen_is table (memory_of p) (in_memory t) (map_there in_memory (held_in p) (table - 1) t there) true (sym holds ∙ is))

  pub frozen_knows : Knows (memory_of new) p.schema.definitions p.max_timestamp
  frozen_knows = record { definitions_are = ap (λ (q : Parts). q.schema.definitions) is.rest; timestamp_is = ap (λ (q : Parts). q.max_timestamp) is.rest }

-- **A freeze of one that is empty changes nothing.**
pub empty_memory : (p : Parts) (table : ℕ) (t : HeldTable) → slice_get (held_in p) (table - 1) ≡ Some t → (b : Bool) → b ≡ false → b ≡ any_partition (t.memtable.partitions ∷ []) → memory_of p ≡ frozen_where table (memory_of p)
empty_memory p table t there b none is = sym (frozen_is table (memory_of p) (in_memory t) (map_there in_memory (held_in p) (table - 1) t there) false (sym none ∙ is))

-- ---- the memtable then

none_held : any_partition (map_.empty {X = Partition} {R = decorated_cmp} ∷ []) ≡ false
none_held = ap (λ (n : ℕ). not (n == 0) || false) (sym (map_.len-entries (map_.empty {X = Partition} {R = decorated_cmp})) ∙ map_.len-empty decorated_cmp Partition)

-- **It holds nothing.**
pub frozen_empty : (p new : Parts) (at : ℕ) (t : HeldTable) → slice_get (held_in p) at ≡ Some t → HasFrozen at t p new → (u : HeldTable) → slice_get (held_in new) at ≡ Some u → any_partition (u.memtable.partitions ∷ []) ≡ false
frozen_empty p new at t there is u found =
    let now = ap (λ (l : List HeldTable). slice_get l at) is.held ∙ set_at (held_in p) at t _ there in
    ap (λ (r : HeldTable). any_partition (r.memtable.partitions ∷ [])) (one_there u _ (slice_get (held_in new) at) found now) ∙ none_held
