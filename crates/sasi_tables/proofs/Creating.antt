-- A table that a store lists and creates.
use Rattle.std.proofs.Common.{◌≡◌, ◌≢◌, ◌||◌, Bool, ℕ, suc, ◌+◌, List, [], ◌∷◌, ◌++◌, length, None, Some, refl, sym, ap, subst, ◌∙◌, arith}
use Rattle.std.specs.Prelude.{IsTrue, Ok, Err}
use Rattle.std.specs.FinMap as map_
use Rattle.std.specs.List.{flat_map, list_any}
use Rattle.std.proofs.lemmas.List.{length-map, map-append}
use Rattle.sasi_host.proofs.ContentLaws.{contents_other, reaches_where, told_after, told_before}
use Rattle.sasi_host.specs.Disk.{AnyChange, Changes, FileChange, LeftWith}
use Rattle.sasi_host.specs.declared.name.FileName.{FileName}
use Rattle.sasi_host.specs.Names.{Folder, log_name, manifest_name, name_eq, seal_name}
use Rattle.sasi_host.specs.View.{IsSound, Reaches, View}
use Rattle.sasi_folder.proofs.FolderLaws.{kinds_apart}
use Rattle.sasi_layout.proofs.LayoutLaws.{create_state}
use Rattle.sasi_layout.proofs.ListingLaws.{create_is_next}
use Rattle.sasi_layout.proofs.Storable.{none_storable}
use Rattle.sasi_layout.proofs.Trails.{create_each, create_moves}
use Rattle.sasi_layout.proofs.MovesInOrder.{moved_in_order}
use Rattle.sasi_layout.specs.Between.{Between}
use Rattle.sasi_layout.specs.Kept.{HasKeptBeside, has_segment, is_kept}
use Rattle.sasi_layout.specs.Layout.{Layout, TableParts, listing_of, state_of}
use Rattle.sasi_layout.specs.Moves.{Create, after_create, create_edits, new_parts}
use Rattle.sasi_layout.specs.Serving.{CanChange, HasExactlyBeside, IsTyped, Serves, StoreInMemory, TableInMemory, kept_by, table_in_memory}
use Rattle.sasi_layout.specs.NumbersInOrder.{HasFilesInOrder, HasIndexesNumbered}
use Rattle.sasi_machine.proofs.TableColumns.{small}
use Rattle.sasi_machine.proofs.MaxTimestamps.{max_timestamp_push, nothing_held}
use Rattle.sasi_manifest.proofs.Consistency.{record_consistent}
use Rattle.sasi_manifest.specs.declared.edit.Edit.{Edit}
use Rattle.sasi_manifest.specs.declared.edit.Edit.TheVariants.{CreateTable}
use Rattle.sasi_manifest.specs.declared.listing.Listing.{Listing}
use Rattle.sasi_manifest.specs.Edits.{encoded}
use Rattle.sasi_manifest.specs.Format.{IsNext}
use Rattle.sasi_manifest.specs.ListedDefinition.{ListedDefinition}
use Rattle.sasi_manifest.proofs.IndexLaws.{parts_push}
use Rattle.sasi_manifest.specs.FileNames.{has_name}
use Rattle.sasi_manifest.specs.ListedFiles.{names_of}
use Rattle.sasi_manifest.specs.Listings.{listed_definitions}
use Rattle.sasi_manifest.specs.OpenManifest.{IsEither, ManifestState, ManifestStands}
use Rattle.sasi_model.specs.Abbreviations.{types_of}
use Rattle.sasi_model.specs.Changes.{empty_table, with_new_table}
use Rattle.sasi_model.specs.State.{Definition, Index, State, max_timestamp}
use Rattle.sasi_schema.proofs.Keys.{column_types_are}
use Rattle.sasi_schema.specs.Defined.{definition}
use Rattle.sasi_schema.specs.declared.table.Table.{Table}
use Rattle.sasi_tables.specs.Faults.{StepCauses}
use Rattle.sasi_tables.specs.MakesMoves.{MakesMoves}
use Rattle.sasi_tables.specs.declared.fault.StepFault.{StepFault}
use Rattle.sasi_tables.specs.Writable.{IsCreatable}
use Rattle.sasi_tables.proofs.MoveCauses.{IsPlain, any_change, plain_present, plain_undamaged, plain_unspent}
use Rattle.sasi_tables.proofs.ListedFrames.{keeps_created, other_stays}
use Rattle.sasi_layout.proofs.KeptLaws.{keeps_manifest}
use Rattle.sasi_tables.proofs.Frames.{changed_kept, end_other, reached_there}
use Rattle.sasi_tables.proofs.TablesInMemory.{all_push, ready_push}

-- the edit that lists the table
abbrev pub edit_of : Table → ℕ → Edit
edit_of t since = CreateTable t.number t.name t.columns t.key since

abbrev pub edits_for : StoreInMemory → Table → List Edit
edits_for store t = edit_of t store.manifest.listing.last ∷ []

-- the table in memory, with nothing in it
abbrev pub nothing_held_yet : TableInMemory
nothing_held_yet = record { first = None; frozen = []; memtable = map_.empty }

-- the store after it, whose manifest goes on from there
abbrev pub memory_after_create : Table → ManifestState → StoreInMemory → StoreInMemory
memory_after_create t manifest store = record store { definitions = store.definitions ++ definition t ∷ []; manifest = manifest; tables = store.tables ++ nothing_held_yet ∷ [] }

one_listing : (x y : Listing) → Some x ≡ Some y → x ≡ y
one_listing x y e = cc

-- one record lists one thing
next_same : (former : Listing) (es : List Edit) (x y : Listing) → IsNext former es x → IsNext former es y → x ≡ y
next_same former es x y first second = one_listing x y (first ∙ sym second)

pub new_timestamp : (s : State) (d : Definition) → max_timestamp (with_new_table s d) ≡ max_timestamp s
unfolding max_timestamp
new_timestamp s d = max_timestamp_push s.tables (empty_table d) nothing_held

module _ (a b : View) (sound : IsSound a) (store : StoreInMemory) (t : Table) (ready : CanChange a store) (creatable : IsCreatable store t) where
  abbrev listing : Listing
  listing = store.manifest.listing

  -- the edit is that of the layout
  edits_are : (l : Layout) → Serves a store l → edits_for store t ≡ create_edits (definition t) l
  edits_are l serves =
      let count : length store.definitions ≡ length l.tables = ap length serves.definitions ∙ length-map l.tables (λ (t : TableParts). t.definition) in
      let number : t.number ≡ suc (length l.tables) = omega (arith, creatable.number, count) in
      ap (λ (n : ℕ). CreateTable n t.name t.columns t.key listing.last ∷ []) number
      ∙ ap (λ (k : Listing). CreateTable (suc (length l.tables)) t.name t.columns t.key k.last ∷ []) serves.listing

  next_is : (l : Layout) → Serves a store l → IsNext listing (edits_for store t) (listing_of (after_create (definition t) l))
  next_is l serves =
      subst (λ (k : Listing). IsNext k (edits_for store t) (listing_of (after_create (definition t) l))) (sym serves.listing)
      (subst (λ (es : List Edit). IsNext (listing_of l) es (listing_of (after_create (definition t) l))) (sym (edits_are l serves)) (create_is_next (definition t) l creatable.unindexed))

  stands_in : (l : Layout) → Serves a store l → ManifestStands a store.manifest.number store.manifest.at listing
  stands_in l serves = subst (λ (n : ℕ). ManifestStands a n store.manifest.at listing) (sym serves.manifest) (subst (ManifestStands a l.used.manifest store.manifest.at) (sym serves.listing) serves.manifest_end)

  -- **Each moment is one of the creation.**
  pub create_moment : ((next : Listing) → IsNext listing (edits_for store t) next → ManifestStands a store.manifest.number store.manifest.at listing → Changes (FileChange (manifest_name store.manifest.number) (LeftWith (IsEither store.manifest.number listing next))) a b)
      → (l : Layout) → Serves a store l → Changes (λ x y. Between l (Create (definition t) ∷ []) y) a b
  create_moment moments l serves =
      let next = listing_of (after_create (definition t) l) in
      let change = moments next (next_is l serves) (stands_in l serves) in
      create_moves l a b (definition t) (serves.older ++ serves.current ∷ []) sound serves.shape
      (subst (λ (n : ℕ). Changes (FileChange (manifest_name n) (LeftWith (IsEither n (listing_of l) next))) a b) serves.manifest
      (subst (λ (k : Listing). Changes (FileChange (manifest_name store.manifest.number) (LeftWith (IsEither store.manifest.number k next))) a b) serves.listing change))

  -- **The store serves the layout after it.**
  pub create_serves : (new : ManifestState) → Changes (FileChange (manifest_name store.manifest.number) AnyChange) a b → new.number ≡ store.manifest.number → IsNext listing (edits_for store t) new.listing
      → (ManifestStands a store.manifest.number store.manifest.at listing → ManifestStands b store.manifest.number new.at new.listing)
      → (l : Layout) → Serves a store l → Serves b (memory_after_create t new store) (after_create (definition t) l)
  create_serves new change number is stands l serves =
      let d = definition t in
      let next = listing_of (after_create d l) in
      let listed : new.listing ≡ next = next_same listing (edits_for store t) new.listing next is (next_is l serves) in
      let change_manifest : Changes (FileChange (manifest_name l.used.manifest) AnyChange) a b = subst (λ (n : ℕ). Changes (FileChange (manifest_name n) AnyChange) a b) serves.manifest change in
      let end : ManifestStands b l.used.manifest new.at next = subst (λ (n : ℕ). ManifestStands b n new.at next) serves.manifest (subst (ManifestStands b store.manifest.number new.at) listed (stands (stands_in l serves))) in
      record {
        told = told_after (FileChange (manifest_name store.manifest.number) AnyChange) a b change serves.told;
        in_order = moved_in_order (Create d) l creatable.unindexed serves.in_order;
        definitions = ap (λ (ds : List Definition). ds ++ d ∷ []) serves.definitions ∙ sym (map-append (λ (t : TableParts). t.definition) l.tables (new_parts d l.last ∷ []));
        tables = ap (λ (ts : List TableInMemory). ts ++ nothing_held_yet ∷ []) serves.tables ∙ sym (map-append table_in_memory l.tables (new_parts d l.last ∷ []));
        used = serves.used;
        timestamp = serves.timestamp ∙ sym (ap max_timestamp (create_state d l) ∙ new_timestamp (state_of l) d);
        listing = listed;
        manifest = number ∙ serves.manifest;
        log = serves.log;
        older = serves.older;
        current = serves.current;
        log_end = end_other a b (manifest_name l.used.manifest) (log_name l.last) store.log.at _ (kinds_apart _ _ (omega arith)) change_manifest serves.log_end;
        manifest_end = end;
        shape = create_each l d new.at a b (serves.older ++ serves.current ∷ []) serves.shape change_manifest end;
      }

  -- what is listed then
  pub listed_after : (next : Listing) → IsNext listing (edits_for store t) next → (next.partitioner ≡ listing.partitioner) × (next.floor ≡ listing.floor) × (next.last ≡ listing.last)
      × (next.tables ≡ listing.tables ++ record { definition = definition t; numbers = []; since = listing.last; files = [] } ∷ [])
  listed_after next is = (cc, cc, cc, tables_are ∙ ap (λ (indexes : List Index). listing.tables ++ row_with indexes ∷ []) (sym creatable.unindexed))
    where
      row_with : List Index → ListedDefinition
      row_with indexes = record { definition = record { name = t.name; columns = t.columns; key = t.key; indexes = indexes }; numbers = []; since = listing.last; files = [] }

      tables_are : next.tables ≡ listing.tables ++ row_with [] ∷ []
      tables_are = cc

  same_kept : (new : ManifestState) (name : FileName) → new.number ≡ store.manifest.number → new.listing.floor ≡ listing.floor → new.listing.last ≡ listing.last
      → new.listing.tables ≡ listing.tables ++ record { definition = definition t; numbers = []; since = listing.last; files = [] } ∷ [] → is_kept (record { manifest = new.number; listing = new.listing }) name ≡ is_kept (kept_by store) name
  same_kept new name number floor last tables =
      let kept_files : has_name new.listing.tables name ≡ has_name listing.tables name =
      ap (λ (ts : List ListedDefinition). has_name ts name) tables
      ∙ ap (list_any (name_eq name)) (parts_push (λ (t : ListedDefinition). flat_map names_of t.files) listing.tables (record { definition = definition t; numbers = []; since = listing.last; files = [] }) refl) in
      λ i. name_eq name (manifest_name (number i)) || (name_eq name (seal_name (number i)) || (has_segment (floor i) (last i) name || kept_files i))

  kept_same : (new : ManifestState) → new.number ≡ store.manifest.number → new.listing.floor ≡ listing.floor → new.listing.last ≡ listing.last
      → new.listing.tables ≡ listing.tables ++ record { definition = definition t; numbers = []; since = listing.last; files = [] } ∷ [] → (aside : FileName → Bool) (folder : Folder) → HasKeptBeside aside (kept_by store) folder → HasKeptBeside aside (record { manifest = new.number; listing = new.listing }) folder
  kept_same new number floor last tables aside folder has name = has name ∙ ap (λ b. aside name || b) (sym (same_kept new name number floor last tables))

  -- no other file comes
  pub create_exactly : (new : ManifestState) → Changes (FileChange (manifest_name store.manifest.number) AnyChange) a b → new.number ≡ store.manifest.number → IsNext listing (edits_for store t) new.listing
      → Reaches b (manifest_name new.number) (new.at + 1) → (aside : FileName → Bool) → HasExactlyBeside a aside store → HasExactlyBeside b aside (memory_after_create t new store)
  create_exactly new change number is room aside has folder files =
      let listed = listed_after new.listing is in
      kept_same new number listed.1 listed.2 listed.3 aside folder
      (changed_kept a b aside (kept_by store) (manifest_name store.manifest.number) (keeps_manifest (kept_by store)) change
      (reached_there b (manifest_name store.manifest.number) (new.at + 1) (subst (λ (n : ℕ). Reaches b (manifest_name n) (new.at + 1)) number room)) has folder files)

  -- **It is ready after it.**
  pub create_ready : (new : ManifestState) → Changes (FileChange (manifest_name store.manifest.number) AnyChange) a b → new.number ≡ store.manifest.number → IsNext listing (edits_for store t) new.listing
      → (ManifestStands a store.manifest.number store.manifest.at listing → ManifestStands b store.manifest.number new.at new.listing)
      → Reaches b (manifest_name new.number) (new.at + 1) → IsTrue new.usable → CanChange b (memory_after_create t new store)
  create_ready new change number is stands room usable =
      let d = definition t in
      let listed = listed_after new.listing is in
      let row : ListedDefinition = record { definition = d; numbers = []; since = listing.last; files = [] } in
      let consistent = record_consistent (Some listing) (encoded (edits_for store t)) (edits_for store t) new.listing (creatable.applies, tt) is ready.consistent in
      record {
        consistent = consistent;
        definitions = ap (λ (ds : List Definition). ds ++ d ∷ []) ready.definitions ∙ sym (map-append (λ (t : ListedDefinition). t.definition) listing.tables (row ∷ [])) ∙ ap listed_definitions (sym listed.3);
        tables = rw (listed.0, listed.1, listed.2) (ready_push listing.partitioner listing.floor listing.last store.definitions store.tables d nothing_held_yet ready.tables
            (record { typed = typed; first = tt; frozen = tt; memtable = none_storable listing.partitioner (types_of d) }));
        numbered = record {
          manifest_is = ready.numbered.manifest_is ∙ sym number;
          log_is = ready.numbered.log_is ∙ sym listed.2;
          files = rw (listed.2, listed.3) (all_push (HasFilesInOrder store.used.«data» listing.last) listing.tables row ready.numbered.files (record { rise = omega arith; since = omega arith }));
          indexes = rw listed.3 (all_push (HasIndexesNumbered store.used.index) listing.tables row ready.numbered.indexes (record { counted = sym (ap length creatable.unindexed); within = tt }));
          fits = ready.numbered.fits;
        };
        timestamp = ready.timestamp;
        log_file = ready.log_file ∙ ap log_name (sym listed.2);
        manifest_room = room;
        log_room = reaches_where a b (FileChange (manifest_name store.manifest.number) AnyChange) store.log.file (store.log.at + 1) change (contents_other a b (manifest_name store.manifest.number) store.log.file AnyChange apart change) ready.log_room;
        manifest_usable = usable;
        log_usable = ready.log_usable;
        stands = λ told. subst (λ (k : ℕ). ManifestStands b k new.at new.listing) (sym number) (stands (ready.stands (told_before (FileChange (manifest_name store.manifest.number) AnyChange) a b change told)));
        aside = ready.aside;
        aside_are = ready.aside_are;
        exactly = create_exactly new change number is room ready.aside ready.exactly;
      }
    where
      apart : store.log.file ≢ manifest_name store.manifest.number
      apart = subst (λ f. f ≢ manifest_name store.manifest.number) (sym ready.log_file) (kinds_apart _ _ (omega arith))

      typed : IsTyped (definition t)
      typed = record { types = column_types_are (definition t) t.key_is_there; few = (small (definition t) t.key_is_there t.few).types }

module _ (a b : View) (sound : IsSound a) (store : StoreInMemory) (t : Table) (ready : CanChange a store) (creatable : IsCreatable store t) where
  abbrev pub Moments : Type 0
  Moments = (next : Listing) → IsNext store.manifest.listing (edits_for store t) next → ManifestStands a store.manifest.number store.manifest.at store.manifest.listing → Changes (FileChange (manifest_name store.manifest.number) (LeftWith (IsEither store.manifest.number store.manifest.listing next))) a b

  pub create_stopped : {T : Type 0} (new : StoreInMemory) (e : StepFault) → Moments → Changes (FileChange (manifest_name store.manifest.number) AnyChange) a b → b.reads ≡ a.reads → IsPlain e → StepCauses {T = T} a b (Err e) → MakesMoves {T = T} (λ l. Create (definition t) ∷ []) a b store new (Err e)
  create_stopped new e moments change reads plain causes = record {
    exactly = tt;
    any_moment = create_moment a b sound store t ready creatable moments;
    serves = tt;
    ready = tt;
    unspent = tt;
    spent_is = plain_unspent _ e plain;
    undamaged = plain_undamaged e plain;
    present = plain_present _ e plain;
    changes = any_change (FileChange (manifest_name store.manifest.number) AnyChange) a b change;
    files_stay = other_stays store.used.«data» (manifest_name store.manifest.number) (omega arith) a b change;
    listed_stay = tt;
    numbers_stay = tt;
    reads = reads;
    causes = causes;
  }

  pub create_made : {T : Type 0} (x : T) (new : ManifestState) → Moments → Changes (FileChange (manifest_name store.manifest.number) AnyChange) a b → new.number ≡ store.manifest.number → IsNext store.manifest.listing (edits_for store t) new.listing
      → (ManifestStands a store.manifest.number store.manifest.at store.manifest.listing → ManifestStands b store.manifest.number new.at new.listing)
      → Reaches b (manifest_name new.number) (new.at + 1) → IsTrue new.usable → b.reads ≡ a.reads → StepCauses {T = T} a b (Ok x) → MakesMoves {T = T} (λ l. Create (definition t) ∷ []) a b store (memory_after_create t new store) (Ok x)
  create_made x new moments change number is stands room usable reads causes = record {
    exactly = λ aside are has. (are, create_exactly a b sound store t ready creatable new change number is room aside has);
    any_moment = create_moment a b sound store t ready creatable moments;
    serves = create_serves a b sound store t ready creatable new change number is stands;
    ready = create_ready a b sound store t ready creatable new change number is stands room usable;
    unspent = λ l serves. refl;
    spent_is = tt;
    undamaged = tt;
    present = tt;
    changes = any_change (FileChange (manifest_name store.manifest.number) AnyChange) a b change;
    files_stay = other_stays store.used.«data» (manifest_name store.manifest.number) (omega arith) a b change;
    listed_stay = keeps_created store.used.«data» (record { definition = definition t; numbers = []; since = store.manifest.listing.last; files = [] }) store.manifest.listing new.listing refl (listed_after a b sound store t ready creatable new.listing is).0 (listed_after a b sound store t ready creatable new.listing is).3;
    numbers_stay = omega arith;
    reads = reads;
    causes = causes;
  }
