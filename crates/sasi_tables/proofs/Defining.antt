-- An index that a store lists and adds to its table.
use Rattle.std.proofs.Common.{◌≡◌, ◌≢◌, ◌||◌, Bool, true, false, cond, ℕ, zero, suc, ◌+◌, ◌-◌, ◌<◌, ◌≤◌, ◌^◌, nat_eq, List, [], ◌∷◌, ◌++◌, map, slice_get, Option, None, Some, refl, sym, ap, subst, ◌∙◌, arith}
use Rattle.std.specs.Prelude.{IsTrue, Ok, Err}
use Rattle.std.specs.List.{AllByRecursion, flat_map, list_any}
use Rattle.std.specs.Option.{option_map_or}
use Rattle.std.proofs.lemmas.List.{length-append}
use Rattle.sasi_host.proofs.ContentLaws.{contents_other, reaches_where, told_after, told_before}
use Rattle.sasi_host.specs.Disk.{AnyChange, Changes, FileChange, LeftWith}
use Rattle.sasi_host.specs.declared.name.FileName.{FileName}
use Rattle.sasi_host.specs.Names.{Folder, log_name, manifest_name, name_eq, seal_name}
use Rattle.sasi_host.specs.View.{IsSound, Reaches, View}
use Rattle.sasi_folder.proofs.FolderLaws.{kinds_apart}
use Rattle.sasi_layout.proofs.LayoutLaws.{define_state}
use Rattle.sasi_layout.proofs.Defines.{define_each, define_is_next, define_moves}
use Rattle.sasi_layout.proofs.Numbered.{all_changed, seen_at, unseen_at}
use Rattle.sasi_layout.proofs.MovesInOrder.{moved_in_order}
use Rattle.sasi_layout.specs.Between.{Between}
use Rattle.sasi_layout.specs.Kept.{HasKeptBeside, has_segment, is_kept}
use Rattle.sasi_layout.specs.Layout.{Layout, TableParts, Used, listing_of, numbered, state_of}
use Rattle.sasi_layout.specs.Moves.{Define, after_define, define_edits, define_table}
use Rattle.sasi_layout.specs.NumbersInOrder.{HasFilesInOrder, HasIndexesNumbered}
use Rattle.sasi_layout.specs.Serving.{AreTablesReady, CanChange, HasExactlyBeside, IsTableReady, Serves, StoreInMemory, TableInMemory, kept_by, table_in_memory}
use Rattle.sasi_layout.specs.Spent.{first_spent}
use Rattle.sasi_layout.specs.declared.number_kind.NumberKind.{NumberKind}
use Rattle.sasi_layout.specs.declared.number_kind.NumberKind.TheVariants as kinds
use Rattle.sasi_machine.proofs.DefinedIndexes.{times_indexed}
use Rattle.sasi_manifest.proofs.Consistency.{record_consistent}
use Rattle.sasi_manifest.specs.declared.edit.Edit.{Edit}
use Rattle.sasi_manifest.specs.declared.listing.Listing.{Listing}
use Rattle.sasi_manifest.specs.Edits.{encoded}
use Rattle.sasi_manifest.specs.Format.{IsNext}
use Rattle.sasi_manifest.specs.ListedDefinition.{ListedDefinition}
use Rattle.sasi_manifest.proofs.IndexLaws.{parts_same}
use Rattle.sasi_manifest.specs.FileNames.{has_name}
use Rattle.sasi_manifest.specs.ListedFiles.{names_of}
use Rattle.sasi_manifest.specs.Listings.{at_number, index_edit, listed_definitions, listed_with_index}
use Rattle.sasi_manifest.specs.OpenManifest.{IsEither, ManifestState, ManifestStands}
use Rattle.sasi_model.specs.Abbreviations.{kind_of}
use Rattle.sasi_model.specs.Changes.{state_with_index}
use Rattle.sasi_model.specs.State.{Definition, Index, State, max_timestamp, with_index}
use Rattle.sasi_schema.specs.SchemaViews.{index_of_new, numbered_def}
use Rattle.sasi_schema.specs.declared.index.NewIndex.{NewIndex}
use Rattle.sasi_tables.specs.Faults.{StepCauses}
use Rattle.sasi_tables.specs.MakesMoves.{MakesMoves}
use Rattle.sasi_tables.specs.Numbers.{IsSpentIndex}
use Rattle.sasi_tables.specs.declared.fault.StepFault.{StepFault}
use Rattle.sasi_tables.specs.declared.fault.StepFault.TheVariants.{NumbersSpent}
use Rattle.sasi_tables.specs.Writable.{IsDefinable}
use Rattle.sasi_tables.proofs.Composition.{numbered_at}
use Rattle.sasi_tables.proofs.MoveCauses.{IsPlain, any_change, makes_nothing, plain_present, plain_undamaged, plain_unspent}
use Rattle.sasi_tables.proofs.ListedFrames.{keeps_defined, other_stays}
use Rattle.sasi_layout.proofs.KeptLaws.{keeps_manifest}
use Rattle.sasi_tables.proofs.Frames.{changed_kept, end_other, reached_there}
use Rattle.sasi_tables.proofs.TablesInMemory.{all_push}

-- the edit that lists the index
abbrev pub edits_for : ℕ → NewIndex → List Edit
edits_for number new = index_edit (numbered_def number new) ∷ []

-- the store after it, whose manifest goes on from there
abbrev pub memory_after_define : NewIndex → ManifestState → StoreInMemory → StoreInMemory
memory_after_define new manifest store = record store { definitions = at_number 1 new.table (with_index (index_of_new new)) store.definitions; manifest = manifest; used = record store.used { index = suc store.used.index } }

one_listing : (x y : Listing) → Some x ≡ Some y → x ≡ y
one_listing x y e = cc

-- one record lists one thing
next_same : (former : Listing) (es : List Edit) (x y : Listing) → IsNext former es x → IsNext former es y → x ≡ y
next_same former es x y first second = one_listing x y (first ∙ sym second)

pub index_timestamp : (s : State) (number : ℕ) (i : Index) → max_timestamp (state_with_index s number i) ≡ max_timestamp s
unfolding max_timestamp
index_timestamp s number i = times_indexed 1 number i s.tables

-- the item that is seen at a position
seen_there : {A B : Type 0} (f : A → B) (xs : List A) (at : ℕ) (y : B) → slice_get (map f xs) at ≡ Some y → (x : A) × (slice_get xs at ≡ Some x) × (f x ≡ y)
seen_there f [] at y there = absurd (let never : None ≡ Some y = there in cc)
seen_there f (x ∷ xs) zero y there = (x, refl, let same : f x ≡ y = cc in same)
seen_there f (x ∷ xs) (suc at) y there = seen_there f xs at y there

-- the numbers of the indexes, and one more
numbers_higher : (high : ℕ) (ns : List ℕ) → AllByRecursion (λ (n : ℕ). n ≤ high) ns → AllByRecursion (λ (n : ℕ). n ≤ suc high) ns
numbers_higher high [] all = tt
numbers_higher high (n ∷ ns) all = (omega (arith, all.0), numbers_higher high ns all.1)

one_numbered : (high : ℕ) (new : NewIndex) (t : ListedDefinition) → HasIndexesNumbered high t → HasIndexesNumbered (suc high) (listed_with_index (numbered_def (suc high) new) t)
one_numbered high new t is = record {
  counted = length-append t.numbers (suc high ∷ []) ∙ ap (λ n. n + 1) is.counted ∙ sym (length-append t.definition.indexes (index_of_new new ∷ []));
  within = all_push (λ (n : ℕ). n ≤ suc high) t.numbers (suc high) (numbers_higher high t.numbers is.within) (omega arith);
}

module _ (a b : View) (sound : IsSound a) (store : StoreInMemory) (new : NewIndex) (ready : CanChange a store) (definable : IsDefinable store new) (fits : suc store.used.index < 2 ^ 32) where
  abbrev listing : Listing
  listing = store.manifest.listing

  abbrev next_number : ℕ
  next_number = suc store.used.index

  abbrev index : Index
  index = index_of_new new

  abbrev edits : List Edit
  edits = edits_for next_number new

  -- its table in the layout
  table_in : (l : Layout) → Serves a store l → (t : TableParts) × (numbered 1 new.table l.tables ≡ Some t) × (t.definition ≡ definable.definition)
  table_in l serves =
      let there : slice_get (map (λ (t : TableParts). t.definition) l.tables) (new.table - 1) ≡ Some definable.definition = subst (λ (ds : List Definition). slice_get ds (new.table - 1) ≡ Some definable.definition) serves.definitions definable.there in
      let found = seen_there (λ (t : TableParts). t.definition) l.tables (new.table - 1) definable.definition there in
      (found.0, numbered_at new.table l.tables found.0 definable.some found.1, found.2)

  -- the edit is that of the layout
  edits_are : (l : Layout) → Serves a store l → edits ≡ define_edits new.table index l
  edits_are l serves =
      let found = table_in l serves in
      let number_is : next_number ≡ suc l.used.index = ap (λ (u : Used). suc u.index) serves.used in
      let kind_is : new.kind ≡ kind_of found.0.definition new.column = definable.kind ∙ ap (λ (d : Definition). kind_of d new.column) (sym found.2) in
      let named : edits ≡ index_edit (record (numbered_def (suc l.used.index) new) { kind = kind_of found.0.definition new.column }) ∷ [] = λ i. index_edit (record (numbered_def (number_is i) new) { kind = kind_is i }) ∷ [] in
      named ∙ ap (λ (o : Option TableParts). option_map_or (λ (t : TableParts). index_edit (record (numbered_def (suc l.used.index) new) { kind = kind_of t.definition new.column }) ∷ []) o []) (sym found.1)

  next_is : (l : Layout) → Serves a store l → IsNext listing edits (listing_of (after_define new.table index l))
  next_is l serves =
      let found = table_in l serves in
      subst (λ (k : Listing). IsNext k edits (listing_of (after_define new.table index l))) (sym serves.listing)
      (subst (λ (es : List Edit). IsNext (listing_of l) es (listing_of (after_define new.table index l))) (sym (edits_are l serves)) (define_is_next new.table index l found.0 found.1))

  stands_in : (l : Layout) → Serves a store l → ManifestStands a store.manifest.number store.manifest.at listing
  stands_in l serves = subst (λ (n : ℕ). ManifestStands a n store.manifest.at listing) (sym serves.manifest) (subst (ManifestStands a l.used.manifest store.manifest.at) (sym serves.listing) serves.manifest_end)

  -- **Each moment is one of the definition.**
  pub define_moment : ((next : Listing) → IsNext listing edits next → ManifestStands a store.manifest.number store.manifest.at listing → Changes (FileChange (manifest_name store.manifest.number) (LeftWith (IsEither store.manifest.number listing next))) a b)
      → (l : Layout) → Serves a store l → Changes (λ x y. Between l (Define new.table index ∷ []) y) a b
  define_moment moments l serves =
      let next = listing_of (after_define new.table index l) in
      let change = moments next (next_is l serves) (stands_in l serves) in
      define_moves l new.table index (serves.older ++ serves.current ∷ []) a b sound serves.shape
      (subst (λ (n : ℕ). Changes (FileChange (manifest_name n) (LeftWith (IsEither n (listing_of l) next))) a b) serves.manifest
      (subst (λ (k : Listing). Changes (FileChange (manifest_name store.manifest.number) (LeftWith (IsEither store.manifest.number k next))) a b) serves.listing change))

  -- **The store serves the layout after it.**
  pub define_serves : (made : ManifestState) → Changes (FileChange (manifest_name store.manifest.number) AnyChange) a b → made.number ≡ store.manifest.number → IsNext listing edits made.listing
      → (ManifestStands a store.manifest.number store.manifest.at listing → ManifestStands b store.manifest.number made.at made.listing)
      → (l : Layout) → Serves a store l → Serves b (memory_after_define new made store) (after_define new.table index l)
  define_serves made change number is stands l serves =
      let next = listing_of (after_define new.table index l) in
      let listed : made.listing ≡ next = next_same listing edits made.listing next is (next_is l serves) in
      let change_manifest : Changes (FileChange (manifest_name l.used.manifest) AnyChange) a b = subst (λ (n : ℕ). Changes (FileChange (manifest_name n) AnyChange) a b) serves.manifest change in
      let end : ManifestStands b l.used.manifest made.at next = subst (λ (n : ℕ). ManifestStands b n made.at next) serves.manifest (subst (ManifestStands b store.manifest.number made.at) listed (stands (stands_in l serves))) in
      record {
        told = told_after (FileChange (manifest_name store.manifest.number) AnyChange) a b change serves.told;
        in_order = moved_in_order (Define new.table index) l tt serves.in_order;
        definitions = ap (at_number 1 new.table (with_index index)) serves.definitions ∙ sym (seen_at (λ (t : TableParts). t.definition) (define_table (suc l.used.index) index) (with_index index) (λ t. refl) 1 new.table l.tables);
        tables = serves.tables ∙ sym (unseen_at table_in_memory (define_table (suc l.used.index) index) (λ t. refl) 1 new.table l.tables);
        used = ap (λ (u : Used). record u { index = suc u.index }) serves.used;
        timestamp = serves.timestamp ∙ sym (ap max_timestamp (define_state new.table index l) ∙ index_timestamp (state_of l) new.table index);
        listing = listed;
        manifest = number ∙ serves.manifest;
        log = serves.log;
        older = serves.older;
        current = serves.current;
        log_end = end_other a b (manifest_name l.used.manifest) (log_name l.last) store.log.at _ (kinds_apart _ _ (omega arith)) change_manifest serves.log_end;
        manifest_end = end;
        shape = define_each l new.table index made.at a b (serves.older ++ serves.current ∷ []) serves.shape change_manifest end;
      }

  -- what is listed then
  pub listed_after : (next : Listing) → IsNext listing edits next → (next.partitioner ≡ listing.partitioner) × (next.floor ≡ listing.floor) × (next.last ≡ listing.last)
      × (next.tables ≡ at_number 1 new.table (listed_with_index (numbered_def next_number new)) listing.tables)
  listed_after next is = (cc, cc, cc, cc)

  same_kept : (made : ManifestState) (name : FileName) → made.number ≡ store.manifest.number → made.listing.floor ≡ listing.floor → made.listing.last ≡ listing.last
      → made.listing.tables ≡ at_number 1 new.table (listed_with_index (numbered_def next_number new)) listing.tables → is_kept (record { manifest = made.number; listing = made.listing }) name ≡ is_kept (kept_by store) name
  same_kept made name number floor last tables =
      let kept_files : has_name made.listing.tables name ≡ has_name listing.tables name =
      ap (λ (ts : List ListedDefinition). has_name ts name) tables
      ∙ ap (list_any (name_eq name)) (parts_same (λ (t : ListedDefinition). flat_map names_of t.files) (listed_with_index (numbered_def next_number new)) (λ t. refl) 1 new.table listing.tables) in
      λ i. name_eq name (manifest_name (number i)) || (name_eq name (seal_name (number i)) || (has_segment (floor i) (last i) name || kept_files i))

  kept_same : (made : ManifestState) → made.number ≡ store.manifest.number → made.listing.floor ≡ listing.floor → made.listing.last ≡ listing.last
      → made.listing.tables ≡ at_number 1 new.table (listed_with_index (numbered_def next_number new)) listing.tables → (aside : FileName → Bool) (folder : Folder) → HasKeptBeside aside (kept_by store) folder → HasKeptBeside aside (record { manifest = made.number; listing = made.listing }) folder
  kept_same made number floor last tables aside folder has name = has name ∙ ap (λ b. aside name || b) (sym (same_kept made name number floor last tables))

  -- no other file comes
  pub define_exactly : (made : ManifestState) → Changes (FileChange (manifest_name store.manifest.number) AnyChange) a b → made.number ≡ store.manifest.number → IsNext listing edits made.listing
      → Reaches b (manifest_name made.number) (made.at + 1) → (aside : FileName → Bool) → HasExactlyBeside a aside store → HasExactlyBeside b aside (memory_after_define new made store)
  define_exactly made change number is room aside has folder files =
      let listed = listed_after made.listing is in
      kept_same made number listed.1 listed.2 listed.3 aside folder
      (changed_kept a b aside (kept_by store) (manifest_name store.manifest.number) (keeps_manifest (kept_by store)) change
      (reached_there b (manifest_name store.manifest.number) (made.at + 1) (subst (λ (n : ℕ). Reaches b (manifest_name n) (made.at + 1)) number room)) has folder files)

  -- **It is ready after it.**
  pub define_ready : (made : ManifestState) → Changes (FileChange (manifest_name store.manifest.number) AnyChange) a b → made.number ≡ store.manifest.number → IsNext listing edits made.listing
      → (ManifestStands a store.manifest.number store.manifest.at listing → ManifestStands b store.manifest.number made.at made.listing)
      → Reaches b (manifest_name made.number) (made.at + 1) → IsTrue made.usable → CanChange b (memory_after_define new made store)
  define_ready made change number is stands room usable =
      let listed = listed_after made.listing is in
      let applies = definable.applies next_number (omega arith) fits in
      record {
        consistent = record_consistent (Some listing) (encoded edits) edits made.listing (applies, tt) is ready.consistent;
        definitions = ap (at_number 1 new.table (with_index index)) ready.definitions
            ∙ sym (seen_at (λ (t : ListedDefinition). t.definition) (listed_with_index (numbered_def next_number new)) (with_index index) (λ t. refl) 1 new.table listing.tables)
            ∙ ap listed_definitions (sym listed.3);
        tables = rw (listed.0, listed.1, listed.2) (tables_ready 1 store.definitions store.tables ready.tables);
        numbered = record {
          manifest_is = ready.numbered.manifest_is ∙ sym number;
          log_is = ready.numbered.log_is ∙ sym listed.2;
          files = rw (listed.2, listed.3) (all_changed (HasFilesInOrder store.used.«data» listing.last) (HasFilesInOrder store.used.«data» listing.last) (listed_with_index (numbered_def next_number new))
              (λ t is. record { rise = is.rise; since = is.since }) (λ t is. is) 1 new.table listing.tables ready.numbered.files);
          indexes = rw listed.3 (all_changed (HasIndexesNumbered store.used.index) (HasIndexesNumbered next_number) (listed_with_index (numbered_def next_number new))
              (λ t is. one_numbered store.used.index new t is) (λ t is. record { counted = is.counted; within = numbers_higher store.used.index t.numbers is.within }) 1 new.table listing.tables ready.numbered.indexes);
          fits = ready.numbered.fits;
        };
        timestamp = ready.timestamp;
        log_file = ready.log_file ∙ ap log_name (sym listed.2);
        manifest_room = room;
        log_room = reaches_where a b (FileChange (manifest_name store.manifest.number) AnyChange) store.log.file (store.log.at + 1) change (contents_other a b (manifest_name store.manifest.number) store.log.file AnyChange apart change) ready.log_room;
        manifest_usable = usable;
        log_usable = ready.log_usable;
        stands = λ told. subst (λ (k : ℕ). ManifestStands b k made.at made.listing) (sym number) (stands (ready.stands (told_before (FileChange (manifest_name store.manifest.number) AnyChange) a b change told)));
        aside = ready.aside;
        aside_are = ready.aside_are;
        exactly = define_exactly made change number is room ready.aside ready.exactly;
      }
    where
      apart : store.log.file ≢ manifest_name store.manifest.number
      apart = subst (λ f. f ≢ manifest_name store.manifest.number) (sym ready.log_file) (kinds_apart _ _ (omega arith))

      tables_ready : (n : ℕ) (ds : List Definition) (ts : List TableInMemory) → AreTablesReady listing.partitioner listing.floor listing.last ds ts → AreTablesReady listing.partitioner listing.floor listing.last (at_number n new.table (with_index index) ds) ts
      tables_ready n [] [] are = tt
      tables_ready n [] (t ∷ ts) are = absurd are
      tables_ready n (d ∷ ds) [] are = absurd are
      tables_ready n (d ∷ ds) (t ∷ ts) are = (
        elim (nat_eq n new.table) as (λ b. IsTableReady listing.partitioner listing.floor listing.last (cond b (with_index index d) d) t) [
          | true ↦ record { typed = record { types = are.0.typed.types; few = are.0.typed.few }; first = are.0.first; frozen = are.0.frozen; memtable = are.0.memtable }
          | false ↦ are.0
        ],
        tables_ready (suc n) ds ts are.1,
      )

  abbrev pub Moments : Type 0
  Moments = (next : Listing) → IsNext listing edits next → ManifestStands a store.manifest.number store.manifest.at listing → Changes (FileChange (manifest_name store.manifest.number) (LeftWith (IsEither store.manifest.number listing next))) a b

  pub define_stopped : {T : Type 0} (after : StoreInMemory) (e : StepFault) → Moments → Changes (FileChange (manifest_name store.manifest.number) AnyChange) a b → b.reads ≡ a.reads → IsPlain e → StepCauses {T = T} a b (Err e)
      → MakesMoves {T = T} (λ l. Define new.table index ∷ []) a b store after (Err e)
  define_stopped after e moments change reads plain causes = record {
    exactly = tt;
    any_moment = define_moment moments;
    serves = tt;
    ready = tt;
    unspent = tt;
    spent_is = plain_unspent _ e plain;
    undamaged = plain_undamaged e plain;
    present = plain_present _ e plain;
    changes = any_change (FileChange (manifest_name store.manifest.number) AnyChange) a b change;
    files_stay = other_stays store.used.«data» (manifest_name store.manifest.number) (omega arith) a b change;
    listed_stay = tt;
    numbers_stay = tt;
    reads = reads;
    causes = causes;
  }

  pub define_made : {T : Type 0} (x : T) (made : ManifestState) → first_spent ((kinds.Index, store.used.index) ∷ []) None ≡ None → Moments → Changes (FileChange (manifest_name store.manifest.number) AnyChange) a b → made.number ≡ store.manifest.number → IsNext listing edits made.listing
      → (ManifestStands a store.manifest.number store.manifest.at listing → ManifestStands b store.manifest.number made.at made.listing)
      → Reaches b (manifest_name made.number) (made.at + 1) → IsTrue made.usable → b.reads ≡ a.reads → StepCauses {T = T} a b (Ok x) → MakesMoves {T = T} (λ l. Define new.table index ∷ []) a b store (memory_after_define new made store) (Ok x)
  define_made x made unspent moments change number is stands room usable reads causes = record {
    exactly = λ aside are has. (are, define_exactly made change number is room aside has);
    any_moment = define_moment moments;
    serves = define_serves made change number is stands;
    ready = define_ready made change number is stands room usable;
    unspent = λ l serves. ap (λ (u : Used). first_spent ((kinds.Index, u.index) ∷ []) None) (sym serves.used) ∙ unspent;
    spent_is = tt;
    undamaged = tt;
    present = tt;
    changes = any_change (FileChange (manifest_name store.manifest.number) AnyChange) a b change;
    files_stay = other_stays store.used.«data» (manifest_name store.manifest.number) (omega arith) a b change;
    listed_stay = keeps_defined store.used.«data» (numbered_def next_number new) new.table listing made.listing (listed_after made.listing is).0 (listed_after made.listing is).3;
    numbers_stay = omega arith;
    reads = reads;
    causes = causes;
  }

-- no number of an index is left
pub define_spent : {T : Type 0} (v : View) (sound : IsSound v) (store : StoreInMemory) (new : NewIndex) (kind : NumberKind) → IsSpentIndex store.used.index kind → MakesMoves {T = T} (λ l. Define new.table (index_of_new new) ∷ []) v v store store (Err (NumbersSpent kind))
define_spent v sound store new kind is = makes_nothing (λ l. Define new.table (index_of_new new) ∷ []) v sound store store (NumbersSpent kind) tt tt (λ l serves. ap (λ (u : Used). first_spent ((kinds.Index, u.index) ∷ []) None) (sym serves.used) ∙ is) (λ e. cc)
