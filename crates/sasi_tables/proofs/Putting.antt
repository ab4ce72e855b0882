-- A mutation that a store logs and merges into its memtable.
use Rattle.std.proofs.Common.{◌≡◌, ◌≢◌, Bool, ℕ, zero, suc, ◌+◌, ◌-◌, ◌<◌, List, [], ◌∷◌, ◌++◌, length, map, set, slice_get, Option, None, Some, refl, sym, ap, subst, ◌∙◌, true, arith}
use Rattle.std.specs.Prelude.{IsTrue, max, Ok, Err}
use Rattle.std.specs.FinMap.{get}
use Rattle.std.proofs.lemmas.List.{length-map}
use Rattle.sasi_types.specs.Token.{AreBytes}
use Rattle.sasi_types.specs.declared.class.Class.{Class}
use Rattle.sasi_memindex.specs.Book.{Book, CanChange as Changeable}
use Rattle.sasi_host.proofs.ContentLaws.{contents_other, reaches_where, told_after, told_before}
use Rattle.sasi_host.specs.Disk.{AnyChange, Changes, FileChange, LeftWith}
use Rattle.sasi_host.specs.declared.name.FileName.{FileName}
use Rattle.sasi_host.specs.Names.{log_name, manifest_name, rank}
use Rattle.sasi_host.specs.View.{IsSound, Reaches, View}
use Rattle.sasi_gated.specs.Handles.{Handle}
use Rattle.sasi_cells.specs.declared.mutation.Mutation.{Mutation}
use Rattle.sasi_commitlog.specs.Format.{IsMutationOf}
use Rattle.sasi_commitlog.specs.LogPosition.{IsAtLogEnd, IsLogBeforeOrAfter}
use Rattle.sasi_commitlog.specs.Reads.{GainsMutation}
use Rattle.sasi_folder.proofs.FolderLaws.{kinds_apart}
use Rattle.sasi_folder.proofs.Recording.{mutation_fits}
use Rattle.sasi_folder.specs.FolderContents.{types_listed}
use Rattle.sasi_layout.proofs.LayoutLaws.{put_state}
use Rattle.sasi_layout.proofs.ListingLaws.{put_listing}
use Rattle.sasi_layout.proofs.Numbered.{seen_at, unseen_at}
use Rattle.sasi_layout.proofs.Storable.{put_storable}
use Rattle.sasi_layout.proofs.Trails.{put_each, put_moves}
use Rattle.sasi_layout.proofs.MovesInOrder.{moved_in_order}
use Rattle.sasi_layout.specs.Between.{Between}
use Rattle.sasi_layout.specs.Classes.{KnowsClasses, KnowsIndexes}
use Rattle.sasi_layout.specs.Layout.{Layout, TableParts, listing_of, state_of, table_of}
use Rattle.sasi_layout.specs.Moves.{Put, after_put, or_else, put_table}
use Rattle.sasi_layout.specs.Kept.{is_kept}
use Rattle.sasi_layout.specs.Serving.{AreTablesReady, CanChange, HasExactlyBeside, IsLive, IsTableReady, Serves, StoreInMemory, TableInMemory, kept_by, table_in_memory}
use Rattle.sasi_manifest.specs.declared.listing.Listing.{Listing}
use Rattle.sasi_manifest.specs.ListedDefinition.{ListedDefinition}
use Rattle.sasi_manifest.specs.Listings.{at_number}
use Rattle.sasi_manifest.specs.OpenManifest.{ManifestStands}
use Rattle.sasi_manifest.specs.Types.{numbered_types}
use Rattle.sasi_cells.proofs.Laws.Times.{body_limit}
use Rattle.sasi_machine.proofs.StatementPreparing.{empty_definitions}
use Rattle.sasi_model.specs.Abbreviations.{types_of}
use Rattle.sasi_model.specs.Cells.{max_timestamp_of}
use Rattle.sasi_model.specs.Changes.{empty_table}
use Rattle.sasi_model.specs.State.{Definition, State, Table, max_timestamp}
use Rattle.sasi_model.specs.Stored.{IsBodyOf}
use Rattle.sasi_model.specs.State.{decorated}
use Rattle.sasi_recover.specs.OpenedFolder.{used_numbers}
use Rattle.sasi_tables.specs.Held.{in_memory}
use Rattle.sasi_tables.specs.Held.{HeldTable, partitions_of}
use Rattle.sasi_memtable.specs.MemtableView.{MemtableView}
use Rattle.std.proofs.lemmas.List.Elements.{Contains-push}
use Rattle.std.specs.List.{AllByRecursion}
use Rattle.sasi_schema.specs.Numbers.{RisesFrom}
use Rattle.sasi_types.specs.declared.partitioner.Partitioner.{Partitioner}
use Rattle.sasi_cells.specs.Maps.{put}
use Rattle.sasi_tables.specs.Faults.{StepCauses}
use Rattle.sasi_tables.specs.MakesMoves.{MakesMoves}
use Rattle.sasi_tables.specs.Held.{AreMapped, HasIndexes, HasMapFor, HasRegularIndexes, IsPutIn, KnowsMap, held_of, subjects_of}
use Rattle.sasi_tables.specs.TablesView.{AreTables, IsOfParts, held_in, memory_of, wanted_of}
use Rattle.sasi_tables.specs.declared.table_maps.TableMaps.{TableMaps}
use Rattle.sasi_tables.specs.declared.fault.StepFault.{StepFault}
use Rattle.sasi_tables.specs.declared.parts.Parts.{Parts}
use Rattle.sasi_tables.specs.Puts.{HasTableFor, IsPutAt, memory_after_put, put_in_memory, put_map}
use Rattle.sasi_tables.proofs.MoveCauses.{IsPlain, any_change, plain_present, plain_undamaged, plain_unspent}
use Rattle.sasi_tables.proofs.ListedFrames.{keeps_same, other_stays}
use Rattle.sasi_tables.specs.Writable.{IsWritableMutation}
use Rattle.sasi_layout.proofs.KeptLaws.{keeps_segment}
use Rattle.sasi_tables.proofs.Frames.{changed_kept, manifest_other, reached_there}
use Rattle.sasi_tables.proofs.HeldChanges.{has_map, put_held, put_mapped}
use Rattle.sasi_tables.proofs.IndexedTables.{can_put, knows_map}
use Rattle.sasi_tables.proofs.KnownClasses.{known_at}
use Rattle.sasi_tables.proofs.TablesInMemory.{all_at, all_set, as_many, at_numbered, inside_there, length_set, map_there, ready_changed, ready_there, seen_as, seen_there, set_numbered, there_inside, unseen_set}
use Rattle.sasi_tables.proofs.Timestamps.{put_timestamp}

-- ---- the mutation

empty_at : (ds : List Definition) (at : ℕ) (d : Definition) → slice_get ds at ≡ Some d → slice_get (map empty_table ds) at ≡ Some (empty_table d)
empty_at [] at d there = cc
empty_at (x ∷ ds) zero d there = let same : x ≡ d = cc in ap (λ (d : Definition). Some (empty_table d)) same
empty_at (x ∷ ds) (suc at) d there = empty_at ds at d there

module _ (a b : View) (sound : IsSound a) (store : StoreInMemory) (m : Mutation) (ready : CanChange a store) (writable : IsWritableMutation store m) (bytes : AreBytes m.key) where
  abbrev listing : Listing
  listing = store.manifest.listing

  -- the table is typed
  typed_at : (at : ℕ) (d : Definition) → slice_get store.definitions at ≡ Some d → (t : TableInMemory) × IsTableReady listing.partitioner listing.floor listing.last d t
  typed_at at d there = ready_there listing.partitioner listing.floor listing.last at store.definitions store.tables d ready.tables there

  fits : IsMutationOf (types_listed listing) m
  fits =
      let d = writable.definition in
      let s : State = record { partitioner = listing.partitioner; tables = map empty_table store.definitions } in
      mutation_fits listing s m (empty_table d) (empty_definitions store.definitions ∙ ready.definitions) writable.some writable.small (empty_at store.definitions (m.table - 1) d writable.there)
      (types_of d) (typed_at (m.table - 1) d writable.there).1.typed.types writable.body

  fits_layout : (l : Layout) → Serves a store l → IsMutationOf (numbered_types 1 (listing_of l).tables) m
  fits_layout l serves = subst (λ (k : Listing). IsMutationOf (types_listed k) m) serves.listing fits

  -- the table is there in the layout's state
  there_in : (l : Layout) → Serves a store l → (t : Table) × (slice_get (state_of l).tables (m.table - 1) ≡ Some t)
  there_in l serves =
      let t = seen_there (λ (t : TableParts). t.definition) l.tables (m.table - 1) writable.definition (ap (λ (ds : List Definition). slice_get ds (m.table - 1)) (sym serves.definitions) ∙ writable.there) in
      (table_of t.0, map_there table_of l.tables (m.table - 1) t.0 t.1)

  -- the log's change, as the layout's
  of_layout : (l : Layout) (serves : Serves a store l) → ((mutations : List Mutation) → IsAtLogEnd a store.log.file store.log.at mutations → Changes (FileChange store.log.file (LeftWith (IsLogBeforeOrAfter store.log.file mutations m))) a b)
      → Changes (FileChange (log_name l.last) (LeftWith (IsLogBeforeOrAfter (log_name l.last) serves.current m))) a b
  of_layout l serves moments =
      subst (λ f. Changes (FileChange f (LeftWith (IsLogBeforeOrAfter f serves.current m))) a b) serves.log
      (moments serves.current (subst (λ f. IsAtLogEnd a f store.log.at serves.current) (sym serves.log) serves.log_end))

  -- **Each moment is one of the put.**
  pub put_moment : ((mutations : List Mutation) → IsAtLogEnd a store.log.file store.log.at mutations → Changes (FileChange store.log.file (LeftWith (IsLogBeforeOrAfter store.log.file mutations m))) a b)
      → (l : Layout) → Serves a store l → Changes (λ x y. Between l (Put m ∷ []) y) a b
  put_moment moments l serves = put_moves l a b serves.older serves.current m sound serves.shape serves.in_order (fits_layout l serves) (of_layout l serves moments)

  -- **The store serves the layout after it.**
  pub put_serves : (log : Handle) → Changes (FileChange store.log.file AnyChange) a b → GainsMutation a b store.log.file store.log.at log.at m → log.file ≡ store.log.file
      → (l : Layout) → Serves a store l → Serves b (record (memory_after_put m store) { log = log }) (after_put m l)
  put_serves log change gains file l serves =
      let change_log : Changes (FileChange (log_name l.last) AnyChange) a b = subst (λ f. Changes (FileChange f AnyChange) a b) serves.log change in
      let end : IsAtLogEnd b (log_name l.last) log.at (serves.current ++ m ∷ []) =
      subst (λ f. IsAtLogEnd b f log.at (serves.current ++ m ∷ [])) serves.log (gains serves.current (subst (λ f. IsAtLogEnd a f store.log.at serves.current) (sym serves.log) serves.log_end)) in
      let change_table : TableParts → TableParts = put_table l.partitioner l.last m in
      record {
        told = told_after (FileChange store.log.file AnyChange) a b change serves.told;
        in_order = moved_in_order (Put m) l tt serves.in_order;
        definitions = serves.definitions ∙ sym (unseen_at (λ (t : TableParts). t.definition) change_table (λ t. refl) 1 m.table l.tables);
        tables =
            ap (λ (ts : List TableInMemory). at_number 1 m.table (put_in_memory listing.partitioner store.used.log m) ts) serves.tables
            ∙ ap (λ (k : Listing). at_number 1 m.table (put_in_memory k.partitioner store.used.log m) (map table_in_memory l.tables)) serves.listing
            ∙ ap (λ (n : ℕ). at_number 1 m.table (put_in_memory l.partitioner n m) (map table_in_memory l.tables)) (ready.numbered.log_is ∙ ap (λ (k : Listing). k.last) serves.listing)
            ∙ sym (seen_at table_in_memory change_table (put_in_memory l.partitioner l.last m) (λ t. refl) 1 m.table l.tables);
        used = serves.used;
        timestamp = ap (λ (n : ℕ). max n (max_timestamp_of m.change)) serves.timestamp ∙ sym (ap max_timestamp (put_state m l) ∙ put_timestamp (state_of l) m (there_in l serves).0 writable.some (there_in l serves).1);
        listing = serves.listing ∙ sym (put_listing m l);
        manifest = serves.manifest;
        log = file ∙ serves.log;
        older = serves.older;
        current = serves.current ++ m ∷ [];
        log_end = end;
        manifest_end = subst (λ (k : Listing). ManifestStands b l.used.manifest store.manifest.at k) (sym (put_listing m l)) (manifest_other a b (log_name l.last) l.used.manifest store.manifest.at (listing_of l) (kinds_apart _ _ (omega arith)) change_log serves.manifest_end);
        shape = put_each l m log.at a b serves.older serves.current serves.shape serves.in_order (fits_layout l serves) change_log end;
      }

  kept_log : is_kept (kept_by store) store.log.file ≡ true
  kept_log = ap (is_kept (kept_by store)) ready.log_file ∙ keeps_segment (kept_by store) listing.last ready.consistent.start.ordered (omega arith)

  -- no other file comes
  pub put_exactly : (log : Handle) → Changes (FileChange store.log.file AnyChange) a b → log.file ≡ store.log.file → Reaches b log.file (log.at + 1) → (aside : FileName → Bool) → HasExactlyBeside a aside store → HasExactlyBeside b aside (record (memory_after_put m store) { log = log })
  put_exactly log change file room aside has = changed_kept a b aside (kept_by store) store.log.file kept_log change (reached_there b store.log.file (log.at + 1) (subst (λ f. Reaches b f (log.at + 1)) file room)) has

  -- **It is ready after it.**
  pub put_ready : (log : Handle) → Changes (FileChange store.log.file AnyChange) a b → log.file ≡ store.log.file → Reaches b log.file (log.at + 1) → IsTrue log.usable → CanChange b (record (memory_after_put m store) { log = log })
  put_ready log change file room usable =
      let body = writable.body in
      record {
        consistent = ready.consistent;
        definitions = ready.definitions;
        tables = subst (λ (n : ℕ). AreTablesReady listing.partitioner listing.floor listing.last store.definitions (at_number 1 m.table (put_in_memory listing.partitioner n m) store.tables)) (sym ready.numbered.log_is)
            (ready_changed listing.partitioner (λ d. IsBodyOf (types_of d) m.key m.change) (put_in_memory listing.partitioner listing.last m) listing.floor listing.last listing.floor listing.last
            (λ d t fits_in is. record {
              typed = is.typed;
              first = live_put t.first is.first;
              frozen = is.frozen;
              memtable = put_storable listing.partitioner (types_of d) is.typed.few t.memtable m.key m.change is.memtable bytes fits_in;
            })
            (λ d t is. is)
            1 m.table store.definitions store.tables (at_numbered (λ d. IsBodyOf (types_of d) m.key m.change) m.table store.definitions writable.definition writable.some writable.there body) ready.tables);
        numbered = ready.numbered;
        timestamp = omega (arith, ready.timestamp, body_limit (types_of writable.definition) m.key m.change body);
        log_file = file ∙ ready.log_file;
        manifest_room = reaches_where a b (FileChange store.log.file AnyChange) (manifest_name store.manifest.number) (store.manifest.at + 1) change (contents_other a b store.log.file (manifest_name store.manifest.number) AnyChange apart change) ready.manifest_room;
        log_room = room;
        manifest_usable = ready.manifest_usable;
        log_usable = usable;
        stands = λ told. manifest_other a b store.log.file store.manifest.number store.manifest.at listing apart change (ready.stands (told_before (FileChange store.log.file AnyChange) a b change told));
        aside = ready.aside;
        aside_are = ready.aside_are;
        exactly = put_exactly log change file room ready.aside ready.exactly;
      }
    where
      live_put : (first : Option ℕ) → IsLive listing.floor listing.last first → IsLive listing.floor listing.last (or_else first (Some listing.last))
      live_put None live = (ready.consistent.start.ordered, omega arith)
      live_put (Some n) live = live

      apart : manifest_name store.manifest.number ≢ store.log.file
      apart = subst (λ f. manifest_name store.manifest.number ≢ f) (sym ready.log_file) (kinds_apart _ _ (omega arith))

  -- ---- what the store promises of it

  pub put_stopped : {T : Type 0} (new : StoreInMemory) (e : StepFault) → ((mutations : List Mutation) → IsAtLogEnd a store.log.file store.log.at mutations → Changes (FileChange store.log.file (LeftWith (IsLogBeforeOrAfter store.log.file mutations m))) a b)
      → Changes (FileChange store.log.file AnyChange) a b → b.reads ≡ a.reads → IsPlain e → StepCauses {T = T} a b (Err e) → MakesMoves {T = T} (λ l. Put m ∷ []) a b store new (Err e)
  put_stopped new e moments change reads plain causes = record {
    exactly = tt;
    any_moment = put_moment moments;
    serves = tt;
    ready = tt;
    unspent = tt;
    spent_is = plain_unspent _ e plain;
    undamaged = plain_undamaged e plain;
    present = plain_present _ e plain;
    changes = any_change (FileChange store.log.file AnyChange) a b change;
    files_stay = other_stays store.used.«data» store.log.file (subst (λ f. rank f.kind < 3) (sym ready.log_file) (omega arith)) a b change;
    listed_stay = tt;
    numbers_stay = tt;
    reads = reads;
    causes = causes;
  }

  pub put_made : {T : Type 0} (x : T) (log : Handle) → ((mutations : List Mutation) → IsAtLogEnd a store.log.file store.log.at mutations → Changes (FileChange store.log.file (LeftWith (IsLogBeforeOrAfter store.log.file mutations m))) a b)
      → Changes (FileChange store.log.file AnyChange) a b → GainsMutation a b store.log.file store.log.at log.at m → log.file ≡ store.log.file → Reaches b log.file (log.at + 1) → IsTrue log.usable → b.reads ≡ a.reads → StepCauses {T = T} a b (Ok x)
      → MakesMoves {T = T} (λ l. Put m ∷ []) a b store (record (memory_after_put m store) { log = log }) (Ok x)
  put_made x log moments change gains file room usable reads causes = record {
    exactly = λ aside are has. (are, put_exactly log change file room aside has);
    any_moment = put_moment moments;
    serves = put_serves log change gains file;
    ready = put_ready log change file room usable;
    unspent = λ l serves. refl;
    spent_is = tt;
    undamaged = tt;
    present = tt;
    changes = any_change (FileChange store.log.file AnyChange) a b change;
    files_stay = other_stays store.used.«data» store.log.file (subst (λ f. rank f.kind < 3) (sym ready.log_file) (omega arith)) a b change;
    listed_stay = keeps_same store.used.«data» store.used.«data» store.manifest.listing (omega arith);
    numbers_stay = omega arith;
    reads = reads;
    causes = causes;
  }

-- a table that can be written to has a memtable
pub has_table : (v : View) (p : Parts) (number : ℕ) (d : Definition) → CanChange v (memory_of p) → 0 < number → slice_get p.schema.definitions (number - 1) ≡ Some d → HasTableFor number (held_in p)
has_table v p number d ready some there =
    let listing = p.manifest.listing in
    let count = as_many listing.partitioner listing.floor listing.last p.schema.definitions (map in_memory (held_in p)) ready.tables in
    let size : length (map in_memory (held_in p)) ≡ length (held_in p) = length-map (held_in p) in_memory in
    record { some = some; inside = omega (arith, some, there_inside p.schema.definitions (number - 1) d there, count, size) }

-- ---- the maps

module _ (v : View) (p : Parts) (m : Mutation) (ready : CanChange v (memory_of p)) (of : IsOfParts p) (writable : IsWritableMutation (memory_of p) m) where
  abbrev at : ℕ
  at = m.table - 1

  pub table_there : HasTableFor m.table (held_in p)
  table_there = has_table v p m.table writable.definition ready writable.some writable.there

  pub map_there_for : HasMapFor m.table p.tables.items p.maps
  map_there_for = has_map p.maps p.last_map (wanted_of p) p.tables.items of.mapped m.table table_there

  listed : (t : ListedDefinition) × (slice_get p.manifest.listing.tables at ≡ Some t) × (t.definition ≡ writable.definition)
  listed = seen_as (λ (t : ListedDefinition). t.definition) p.manifest.listing.tables at writable.definition (ap (λ (ds : List Definition). slice_get ds at) (sym ready.definitions) ∙ writable.there)

  has : (t : TableMaps) → slice_get p.tables.items at ≡ Some t → HasIndexes (subjects_of listed.0) (get p.maps t.memtable)
  has t found = of.mapped.indexed at t (subjects_of listed.0) t.memtable found (map_there subjects_of p.manifest.listing.tables at listed.0 listed.1) (Contains-push t.frozen t.memtable)

  pub put_can : (t : TableMaps) → slice_get p.tables.items at ≡ Some t → Changeable (get p.maps t.memtable) m.change
  put_can t found =
      can_put listed.0 (get p.maps t.memtable) m.key m.change (has t found) (all_at HasRegularIndexes at p.manifest.listing.tables listed.0 of.regular listed.1)
      (subst (λ (d : Definition). IsBodyOf (types_of d) m.key m.change) (sym listed.2) writable.body)

  pub put_known : (kinds : List Class) → KnowsClasses kinds (memory_of p) → (t : TableMaps) → slice_get p.tables.items at ≡ Some t → KnowsMap kinds (get p.maps t.memtable)
  put_known kinds known t found =
      knows_map kinds listed.0 (get p.maps t.memtable) (has t found) (subst (KnowsIndexes kinds) (sym listed.2) (known_at kinds p.schema.definitions at writable.definition known writable.there))

  module _ (new : List TableMaps) (after : Book) (merged : (t : TableMaps) → slice_get p.tables.items at ≡ Some t → IsPutIn p.numbers.log m t p.tables.items new p.maps after) where
    own : (t : TableMaps) × (slice_get p.tables.items at ≡ Some t)
    own = inside_there p.tables.items at (omega (arith, map_there_for.some, map_there_for.inside))

    pub put_at : IsPutAt p.numbers.log m (held_in p) (held_of after new)
    put_at = put_held p.maps p.last_map (wanted_of p) p.tables.items of.mapped m p.numbers.log after new own.0 own.1 (merged own.0 own.1)

    pub put_maps : AreMapped after p.last_map (wanted_of p) new
    put_maps = put_mapped p.maps p.last_map (wanted_of p) p.tables.items of.mapped m p.numbers.log after new own.0 own.1 (merged own.0 own.1)

-- ---- the memtables

module _ (p : Parts) (m : Mutation) (of : IsOfParts p) (there : HasTableFor m.table (held_in p)) (tables : List HeldTable) (is : IsPutAt p.numbers.log m (held_in p) tables) where
  found : (t : HeldTable) × (slice_get (held_in p) (m.table - 1) ≡ Some t)
  found = inside_there (held_in p) (m.table - 1) (omega (arith, there.some, there.inside))

  under : found.0.memtable.partitioner ≡ p.manifest.listing.partitioner
  under = all_at (λ (t : HeldTable). t.memtable.partitioner ≡ p.manifest.listing.partitioner) (m.table - 1) (held_in p) found.0 of.tables.under found.1

  pub put_tables : map in_memory tables ≡ at_number 1 m.table (put_in_memory p.manifest.listing.partitioner p.numbers.log m) (map in_memory (held_in p))
  put_tables =
      let t = found.0 in
      let new : HeldTable = put_map p.numbers.log m.key m.change t in
      let seen : in_memory new ≡ put_in_memory p.manifest.listing.partitioner p.numbers.log m (in_memory t) =
      ap (λ (q : Partitioner). record { first = or_else t.first (Some p.numbers.log); frozen = partitions_of t.frozen; memtable = put t.memtable.partitions (decorated q m.key) m.change }) under in
      ap (map in_memory) (is t found.1) ∙ set_numbered in_memory (put_in_memory p.manifest.listing.partitioner p.numbers.log m) m.table (held_in p) t new there.some found.1 seen

  -- **The store is as it is after the put.**
  pub put_memory : (log : Handle) (n : ℕ) → n ≡ max p.max_timestamp (max_timestamp_of m.change)
      → record { definitions = p.schema.definitions; manifest = p.manifest; log = log; tables = map in_memory tables; used = used_numbers p.numbers; max_timestamp = n } ≡ record (memory_after_put m (memory_of p)) { log = log }
  put_memory log n time =
      ap (λ (ts : List TableInMemory). record { definitions = p.schema.definitions; manifest = p.manifest; log = log; tables = ts; used = used_numbers p.numbers; max_timestamp = n }) put_tables
      ∙ ap (λ (k : ℕ). record (memory_after_put m (memory_of p)) { log = log; max_timestamp = k }) time

  pub put_tables_are : AreTables p.manifest.listing.partitioner tables
  put_tables_are =
      let t = found.0 in
      let new : HeldTable = put_map p.numbers.log m.key m.change t in
      subst (AreTables p.manifest.listing.partitioner) (sym (is t found.1)) (record {
        numbers = subst (RisesFrom 1) (sym (unseen_set (λ (t : HeldTable). t.number) (m.table - 1) (held_in p) t new found.1 refl)) of.tables.numbers;
        under = all_set (λ (t : HeldTable). t.memtable.partitioner ≡ p.manifest.listing.partitioner) (m.table - 1) (held_in p) new of.tables.under under;
        frozen = all_set (λ (t : HeldTable). AllByRecursion (λ (m : MemtableView). m.partitioner ≡ p.manifest.listing.partitioner) t.frozen) (m.table - 1) (held_in p) new of.tables.frozen
            (all_at (λ (t : HeldTable). AllByRecursion (λ (m : MemtableView). m.partitioner ≡ p.manifest.listing.partitioner) t.frozen) (m.table - 1) (held_in p) t of.tables.frozen found.1);
      })

  pub put_there : HasTableFor m.table tables
  put_there =
      let size : length (set (held_in p) (m.table - 1) (put_map p.numbers.log m.key m.change found.0)) ≡ length (held_in p) = length_set (held_in p) (m.table - 1) (put_map p.numbers.log m.key m.change found.0) in
      record { some = there.some; inside = omega (arith, there.inside, size, ap length (is found.0 found.1)) }
