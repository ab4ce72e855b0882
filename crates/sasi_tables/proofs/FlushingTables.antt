-- The flush of a table of a store: what it needs, and what the store is afterwards.
use Rattle.std.proofs.Common.{◌≡◌, ◌||◌, ◌&&◌, not, inr, drop, Bool, true, false, cond, nat_eq, nat_le, is_some, ℕ, suc, ◌+◌, ◌-◌, ◌^◌, ◌<◌, ◌≤◌, List, [], ◌∷◌, ◌++◌, length, map, slice_get, Option, None, Some, refl, sym, ap, subst, ◌∙◌, arith}
use Rattle.std.specs.Prelude.{IsTrue}
use Rattle.std.proofs.lemmas.Bool.Decides.{nat_tests}
use Rattle.std.proofs.lemmas.List.{length-map}
use Rattle.std.specs.FinMap as map_
use Rattle.std.specs.List.{AllByRecursion, list_any}
use Rattle.sasi_host.specs.declared.name.FileName.{FileName}
use Rattle.sasi_host.proofs.ContentLaws.{told_after, told_before, told_files}
use Rattle.sasi_host.specs.Disk.{Changes, Relation}
use Rattle.sasi_host.specs.Names.{Bytes, Folder, log_name, manifest_name}
use Rattle.sasi_host.specs.View.{IsAbsent, IsThere, Reaches, View}
use Rattle.sasi_cells.specs.Maps.{merged}
use Rattle.sasi_cells.specs.declared.mutation.Mutation.{Mutation}
use Rattle.sasi_gated.specs.Handles.{Handle}
use Rattle.sasi_layout.proofs.FileNameLaws.{all_names, names_flushed, unlisted_above}
use Rattle.sasi_layout.proofs.KeptLaws.{aside_higher, aside_kind, aside_number, dead_segment, free_name, kept_there, keeps_listed, keeps_manifest, keeps_segment, number_above}
use Rattle.sasi_layout.proofs.KeptOn.{dropped_apart, flush_turns, kept_on}
use Rattle.sasi_layout.proofs.LayoutLaws.{flush_state}
use Rattle.sasi_commitlog.specs.LogPosition.{IsAtLogEnd}
use Rattle.sasi_layout.proofs.ListingLaws.{rising_bound}
use Rattle.sasi_layout.proofs.NewFiles.{ready_flush}
use Rattle.sasi_layout.proofs.Numbered.{all_changed, seen_at, unseen_at}
use Rattle.sasi_layout.proofs.Storable.{none_storable}
use Rattle.sasi_layout.proofs.MovesInOrder.{moved_in_order}
use Rattle.sasi_layout.specs.Flushed.{flush_drops, flush_makes}
use Rattle.sasi_layout.specs.Kept.{AreAside, HasKeptBeside, Kept}
use Rattle.sasi_layout.specs.Layout.{Layout, TableParts, Used, listing_of, unflushed}
use Rattle.sasi_layout.specs.Moves.{Flush, after_flush, flush_parts, flush_table, floor_without, lesser, next_floor}
use Rattle.sasi_layout.specs.Serving.{AreStorable, AreTablesReady, CanChange, HasExactlyBeside, IsLive, IsTableReady, Serves, StoreInMemory, TableInMemory, kept_by, table_in_memory}
use Rattle.sasi_layout.specs.NumbersInOrder.{HasFilesInOrder, HasIndexesNumbered, Rising}
use Rattle.sasi_manifest.proofs.Applying.{replace_applies}
use Rattle.sasi_manifest.proofs.Consistency.{record_consistent}
use Rattle.sasi_manifest.specs.declared.listing.Listing.{Listing}
use Rattle.sasi_manifest.proofs.Replacing.{At}
use Rattle.sasi_manifest.specs.Consistent.{IsConsistent}
use Rattle.sasi_manifest.specs.declared.files.ListedFile.{ListedFile}
use Rattle.sasi_manifest.specs.declared.files.PartNumber.{PartNumber}
use Rattle.sasi_manifest.specs.FileNames.{has_name}
use Rattle.sasi_manifest.specs.ListedFiles.{FitParts, has_file, is_among, with_file, with_files, without}
use Rattle.sasi_manifest.specs.Edits.{Applies, are_within, encoded, is_new, numbers_at}
use Rattle.sasi_manifest.specs.Format.{IsNext}
use Rattle.sasi_manifest.specs.ListedDefinition.{ListedDefinition}
use Rattle.sasi_manifest.specs.Listings.{at_number, listed_definitions, replaced}
use Rattle.sasi_manifest.specs.OpenManifest.{ManifestState, ManifestStands}
use Rattle.sasi_memtable.specs.MemtableView.{AreDecorated, MemtableView}
use Rattle.sasi_model.specs.Abbreviations.{Partitions, types_of}
use Rattle.sasi_model.specs.State.{Definition, max_timestamp}
use Rattle.sasi_types.specs.declared.index_def.IndexDef.{IndexDef}
use Rattle.sasi_types.specs.declared.partitioner.Partitioner.{Partitioner}
use Rattle.sasi_tables.specs.Floors.{IsUnflushed, floor_in_memory, flushed_in_memory, memory_after_flush}
use Rattle.sasi_tables.proofs.Unflushed.{storable_bodies, storable_decorated, unflushed_storable}
use Rattle.sasi_tables.specs.Held.{unflushed_maps}
use Rattle.sasi_tables.specs.Flushing.{AreTableIndexes, CanFlush, ChangesInFlush, HasFlushedFiles, HaveBodies, IsFlushOf, IsFlushed, edit_of, file_of}
use Rattle.sasi_tables.specs.declared.flush.FlushNumbers.{FlushNumbers}
use Rattle.sasi_tables.proofs.FlushedNames.{flush_turned}
use Rattle.sasi_tables.proofs.TablesInMemory.{as_many, at_numbered, ready_in_memory, seen_as, there_inside}

-- ---- the floor

-- a floor below which no live segment is needed
floor_most : (n table last : ℕ) (ts : List TableInMemory) → floor_in_memory n table last ts ≤ last
floor_most n table last [] = omega arith
floor_most n table last (t ∷ ts) =
    let rest = floor_most (suc n) table last ts in
    elim (nat_eq n table) as (λ b. cond b (floor_in_memory (suc n) table last ts) (lesser t.first (floor_in_memory (suc n) table last ts)) ≤ last) [
      | true ↦ rest
      | false ↦ by t.first rest
    ]
  where
    by : (o : Option ℕ) → floor_in_memory (suc n) table last ts ≤ last → lesser o (floor_in_memory (suc n) table last ts) ≤ last
    by None is = is
    by (Some k) is = omega (arith, is)

floor_least : (p : Partitioner) (floor most n table last : ℕ) (ds : List Definition) (ts : List TableInMemory) → AreTablesReady p floor most ds ts → floor ≤ last → floor ≤ floor_in_memory n table last ts
floor_least p floor most n table last ds [] ready under = under
floor_least p floor most n table last [] (t ∷ ts) ready under = absurd ready
floor_least p floor most n table last (d ∷ ds) (t ∷ ts) ready under =
    let rest = floor_least p floor most (suc n) table last ds ts ready.1 under in
    elim (nat_eq n table) as (λ b. floor ≤ cond b (floor_in_memory (suc n) table last ts) (lesser t.first (floor_in_memory (suc n) table last ts))) [
      | true ↦ rest
      | false ↦ by t.first ready.0.first rest
    ]
  where
    by : (o : Option ℕ) → IsLive floor most o → floor ≤ floor_in_memory (suc n) table last ts → floor ≤ lesser o (floor_in_memory (suc n) table last ts)
    by None live is = is
    by (Some k) live is = omega (arith, live.0, is)

-- that of a layout
floor_is : (n table last : ℕ) (ts : List TableParts) → floor_in_memory n table last (map table_in_memory ts) ≡ floor_without n table last ts
floor_is n table last [] = refl
floor_is n table last (t ∷ ts) = let rest = floor_is (suc n) table last ts in λ i. cond (nat_eq n table) (rest i) (lesser t.first (rest i))

-- the flushed table holds nothing, and the first segments of the others stay live
flushed_ready : (p : Partitioner) (floor most new n table last : ℕ) (ds : List Definition) (ts : List TableInMemory) → AreTablesReady p floor most ds ts → new ≤ floor_in_memory n table last ts → most ≤ last → AreTablesReady p new last ds (at_number n table flushed_in_memory ts)
flushed_ready p floor most new n table last [] [] ready above on = tt
flushed_ready p floor most new n table last [] (t ∷ ts) ready above on = absurd ready
flushed_ready p floor most new n table last (d ∷ ds) [] ready above on = absurd ready
flushed_ready p floor most new n table last (d ∷ ds) (t ∷ ts) ready above on =
    elim (nat_eq n table) as (λ b. new ≤ cond b (floor_in_memory (suc n) table last ts) (lesser t.first (floor_in_memory (suc n) table last ts)) → IsTableReady p new last d (cond b (flushed_in_memory t) t) × AreTablesReady p new last ds (at_number (suc n) table flushed_in_memory ts)) [
      | true ↦ λ over. (record { typed = ready.0.typed; first = tt; frozen = tt; memtable = none_storable p (types_of d) }, flushed_ready p floor most new (suc n) table last ds ts ready.1 over on)
      | false ↦ λ over.
          let parts = by t.first ready.0.first over in
          (record { typed = ready.0.typed; first = parts.0; frozen = ready.0.frozen; memtable = ready.0.memtable }, flushed_ready p floor most new (suc n) table last ds ts ready.1 parts.1 on)
    ] above
  where
    by : (o : Option ℕ) → IsLive floor most o → new ≤ lesser o (floor_in_memory (suc n) table last ts) → IsLive new last o × (new ≤ floor_in_memory (suc n) table last ts)
    by None live over = (tt, over)
    by (Some k) live over = ((omega (arith, over), omega (arith, live.1, on)), omega (arith, over))

-- ---- files

rising_higher : (low a b : ℕ) (fs : List ListedFile) → a ≤ b → Rising low a fs → Rising low b fs
rising_higher low a b [] le rise = omega (arith, le, rise)
rising_higher low a b (f ∷ fs) le rise = (rise.0, rising_higher f.number a b fs le rise.1)

pub none_without : (fs : List ListedFile) → without [] fs ≡ fs
none_without [] = refl
none_without (f ∷ fs) = ap (λ (l : List ListedFile). f ∷ l) (none_without fs)

rising_put : (f : ListedFile) (low high : ℕ) (fs : List ListedFile) → Rising low high fs → high < f.number → Rising low f.number (with_file f fs)
rising_put f low high [] rise above = (omega (arith, rise, above), omega arith)
rising_put f low high (g ∷ gs) rise above =
    let bound = rising_bound g.number high gs rise.1 in
    let other : nat_le f.number g.number ≡ false = grind (arith, nat_tests, bound, above) in
    subst (λ b. Rising low f.number (cond b (f ∷ g ∷ gs) (g ∷ with_file f gs))) (sym other) (rise.0, rising_put f g.number high gs rise.1 above)

rising_with : (f : ListedFile) (low high : ℕ) (fs : List ListedFile) → Rising low high fs → high < f.number → Rising low f.number (with_files (f ∷ []) (without [] fs))
rising_with f low high fs rise above = subst (λ (l : List ListedFile). Rising low f.number (with_file f l)) (sym (none_without fs)) (rising_put f low high fs rise above)

one_folder : (x y : Folder) → Some x ≡ Some y → x ≡ y
one_folder x y e = cc

never : true ≡ false → ⊥
never e = cc

-- ---- what it needs

within_all : (last table n : ℕ) (ts : List ListedDefinition) → AllByRecursion (λ t. t.since ≤ last) ts → are_within (suc last) table n ts ≡ true
within_all last table n [] all = refl
within_all last table n (t ∷ ts) all =
    let le : nat_le t.since (suc last) ≡ true = grind (arith, nat_tests, all.0) in
    ap (λ b. (nat_eq n table || b) && are_within (suc last) table (suc n) ts) le ∙ both (nat_eq n table) (within_all last table (suc n) ts all.1)
  where
    both : (a : Bool) {b : Bool} → b ≡ true → ((a || true) && b) ≡ true
    both true is = is
    both false is = is

module _ (a : View) (store : StoreInMemory) (ready : CanChange a store) (n : FlushNumbers) (m : MemtableView) (held : IsUnflushed n.table store) (file : n.file ≡ suc store.used.«data») (last : n.last ≡ suc store.manifest.listing.last)
    (floor : n.floor ≡ floor_in_memory 1 n.table n.last store.tables) (fits : (n.table < 2 ^ 32) × (n.file < 2 ^ 32) × (n.last < 2 ^ 32))
    (memtable : m.partitions ≡ merged (unflushed_maps held.there_is)) (under : m.partitioner ≡ store.manifest.listing.partitioner)
    (parts : List PartNumber) (fit : FitParts (numbers_at store.manifest.listing.tables n.table) parts) where
  abbrev pub listing : Listing
  listing = store.manifest.listing

  abbrev pub kept : Kept
  kept = kept_by store

  -- the table is one of the listed ones
  pub inside : n.table ≤ length listing.tables
  inside =
      let count = as_many listing.partitioner listing.floor listing.last store.definitions store.tables ready.tables in
      let definitions : length store.definitions ≡ length listing.tables = ap length ready.definitions ∙ length-map listing.tables (λ (t : ListedDefinition). t.definition) in
      omega (arith, there_inside store.tables (n.table - 1) held.there_is held.there, count, definitions, held.some)

  raised : listing.floor ≤ n.floor
  raised = subst (λ (k : ℕ). listing.floor ≤ k) (sym floor) (floor_least listing.partitioner listing.floor listing.last 1 n.table n.last store.definitions store.tables ready.tables (omega (arith, last, ready.consistent.start.ordered)))

  below : n.floor ≤ n.last
  below = subst (λ (k : ℕ). k ≤ n.last) (sym floor) (floor_most 1 n.table n.last store.tables)

  -- the table in memory with its definition
  defined : (d : Definition) × IsTableReady listing.partitioner listing.floor listing.last d held.there_is
  defined = ready_in_memory listing.partitioner listing.floor listing.last (n.table - 1) store.definitions store.tables held.there_is ready.tables held.there

  storable : AreStorable listing.partitioner (types_of defined.0) (merged (unflushed_maps held.there_is))
  storable = unflushed_storable listing.partitioner listing.floor listing.last defined.0 held.there_is defined.1

  new_number : list_any (λ t. has_file t.files n.file) listing.tables ≡ false
  new_number = number_above store.used.«data» listing.last n.file listing.tables ready.numbered.files (omega (arith, file))

  new_name : (name : FileName) → name.number ≡ n.file → has_name listing.tables name ≡ false
  new_name name own = unlisted_above store.used.«data» listing.last name listing.tables ready.numbered.files (omega (arith, file, own))

  applies : Applies (Some listing) (edit_of n parts)
  applies = replace_applies listing n.table [] (file_of n parts ∷ []) n.last n.floor n.last (record {
    some = held.some;
    within = inside;
    table_fits = fits.0;
    few_removed = omega arith;
    current = tt;
    few_added = omega arith;
    new = (record { some = omega (arith, file); number_fits = fits.1; free = new_is listing.tables n.file new_number; parts = fit }, tt);
    since_some = omega (arith, last);
    since_within = omega arith;
    floor_some = omega (arith, raised, ready.consistent.start.floor_some);
    floor_within = below;
    last_fits = fits.2;
    others = subst (λ (k : ℕ). are_within k n.table 1 listing.tables ≡ true) (sym last) (within_all listing.last n.table 1 listing.tables ready.consistent.since);
  })
    where
      new_is : (ts : List ListedDefinition) (number : ℕ) → list_any (λ t. has_file t.files number) ts ≡ false → is_new ts [] [] number ≡ true
      new_is ts number none = ap (λ b. not (b && not (is_among [] number)) && not (has_file [] number)) none

  -- **The flush can be made.**
  pub can_flush : CanFlush a store.manifest m n parts
  can_flush = record {
    files = all_names (λ name. IsAbsent a name) (file_of n parts) (λ name kind own. free_name a ready.aside kept name ready.exactly (aside_number store.used.«data» ready.aside name ready.aside_are (omega (arith, file, own))) (keeps_listed kept name kind ∙ new_name name own));
    segment = free_name a ready.aside kept (log_name n.last) ready.exactly (aside_kind store.used.«data» ready.aside (log_name n.last) ready.aside_are (omega arith)) (dead_segment kept n.last (inr (omega (arith, last))));
    former = λ segment above under. kept_there a ready.aside kept (log_name segment) ready.exactly (keeps_segment kept segment above (omega (arith, under, below, last)));
    room = ready.manifest_room;
    usable = ready.manifest_usable;
    partitioner = under;
    decorated = subst (λ (q : Partitioner). AreDecorated q m.partitions) (sym under) (subst (AreDecorated listing.partitioner) (sym memtable) (storable_decorated listing.partitioner (types_of defined.0) (merged (unflushed_maps held.there_is)) storable));
    some = subst (λ (k : Partitions). 1 ≤ length (map_.entries k)) (sym memtable) held.held;
    bodies = subst HaveBodies (sym memtable) (storable_bodies listing.partitioner (types_of defined.0) (merged (unflushed_maps held.there_is)) storable);
    applies = applies;
  }

  -- ---- what the manifest lists then

  module _ (next : Listing) (is : IsNext listing (edit_of n parts ∷ []) next) where
    pub listed_after : (next.partitioner ≡ listing.partitioner) × (next.floor ≡ n.floor) × (next.last ≡ n.last) × (next.tables ≡ at_number 1 n.table (replaced [] (file_of n parts ∷ []) n.last) listing.tables)
    listed_after = (cc, cc, cc, cc)

    pub next_consistent : IsConsistent next
    next_consistent = record_consistent (Some listing) (encoded (edit_of n parts ∷ [])) (edit_of n parts ∷ []) next (applies, tt) is ready.consistent

    pub next_definitions : store.definitions ≡ listed_definitions next.tables
    next_definitions = ready.definitions ∙ sym (unseen_at (λ (t : ListedDefinition). t.definition) (replaced [] (file_of n parts ∷ []) n.last) (λ t. refl) 1 n.table listing.tables) ∙ ap listed_definitions (sym listed_after.3)

    pub next_files : AllByRecursion (HasFilesInOrder n.file next.last) next.tables
    next_files = rw (listed_after.2, listed_after.3) (all_changed (HasFilesInOrder store.used.«data» listing.last) (HasFilesInOrder n.file n.last) (replaced [] (file_of n parts ∷ []) n.last)
        (λ t in_order. record { rise = rising_with (file_of n parts) 0 store.used.«data» t.files in_order.rise (omega (arith, file)); since = omega arith })
        (λ t in_order. record { rise = rising_higher 0 store.used.«data» n.file t.files (omega (arith, file)) in_order.rise; since = omega (arith, in_order.since, last) })
        1 n.table listing.tables ready.numbered.files)

    pub next_indexes : AllByRecursion (HasIndexesNumbered store.used.index) next.tables
    next_indexes = rw listed_after.3 (all_changed (HasIndexesNumbered store.used.index) (HasIndexesNumbered store.used.index) (replaced [] (file_of n parts ∷ []) n.last)
        (λ t numbered. record { counted = numbered.counted; within = numbered.within }) (λ t numbered. numbered) 1 n.table listing.tables ready.numbered.indexes)

    -- the files of the folder afterwards
    next_kept : (b : View) (manifest : ManifestState) (aside : FileName → Bool) → AreAside store.used.«data» aside → HasExactlyBeside a aside store → manifest.listing ≡ next → manifest.number ≡ store.manifest.number → Changes (ChangesInFlush store.manifest.number listing.floor n parts) a b → HasFlushedFiles b listing.floor n parts
        → Reaches b (manifest_name manifest.number) (manifest.at + 1) → (folder : Folder) → b.files ≡ Some folder → HasKeptBeside aside (record { manifest = manifest.number; listing = manifest.listing }) folder
    next_kept b manifest aside are has listed number change flushed room folder files =
        let was = told_files a (told_before (ChangesInFlush store.manifest.number listing.floor n parts) a b change (ap (λ (o : Option Folder). is_some o) files)) in
        let before : IsThere a (manifest_name store.manifest.number) = kept_there a aside kept (manifest_name store.manifest.number) has (keeps_manifest kept) in
        let after : IsThere b (manifest_name store.manifest.number) = subst (λ (k : ℕ). IsThere b (manifest_name k)) number (λ told. (let there = room told in ap (λ (o : Option Bytes). is_some o) there.1)) in
        let turned = flush_turned n parts store.manifest.number listing.floor a b was.0 folder was.1 files before after flushed change in
        subst (λ (k : ℕ). HasKeptBeside aside (record { manifest = k; listing = manifest.listing }) folder) (sym number)
        (subst (λ (e : Listing). HasKeptBeside aside (record { manifest = store.manifest.number; listing = e }) folder) (sym listed)
        (kept_on (flush_makes (file_of n parts) next.last) (flush_drops listing.floor next.floor) aside kept (record { manifest = store.manifest.number; listing = next }) was.0 folder
        (λ name goes. dropped_apart store.used.«data» listing.floor next.floor aside name are goes)
        (flush_turns kept (record { manifest = store.manifest.number; listing = next }) (file_of n parts) refl (listed_after.2 ∙ last)
        (subst (λ (k : ℕ). listing.floor ≤ k) (sym listed_after.1) raised)
        (rw (listed_after.1, listed_after.2) below)
        (λ name. ap (λ (ts : List ListedDefinition). has_name ts name) listed_after.3 ∙ names_flushed name (file_of n parts) n.table n.last listing.tables held.some (omega (arith, inside))))
        (rw (listed_after.1, listed_after.2) turned) (has was.0 was.1)))

  -- ---- the layout

  module _ (b : View) (l : Layout) (serves : Serves a store l) where
    abbrev pub logs : List (List Mutation)
    logs = serves.older ++ serves.current ∷ []

    last_is : n.last ≡ suc l.last
    last_is = last ∙ ap (λ (e : Listing). suc e.last) serves.listing

    floor_of : n.floor ≡ next_floor n.table l
    floor_of = floor ∙ ap (floor_in_memory 1 n.table n.last) serves.tables ∙ floor_is 1 n.table n.last l.tables ∙ ap (λ (k : ℕ). floor_without 1 n.table k l.tables) last_is

    file_is : n.file ≡ suc l.used.«data»
    file_is = file ∙ ap (λ (u : Used). suc u.«data») serves.used

    unflushed_is : At 1 n.table (λ t. merged (unflushed t) ≡ m.partitions) l.tables
    unflushed_is =
        let t = seen_as table_in_memory l.tables (n.table - 1) held.there_is (ap (λ (ts : List TableInMemory). slice_get ts (n.table - 1)) (sym serves.tables) ∙ held.there) in
        at_numbered (λ (t : TableParts). merged (unflushed t) ≡ m.partitions) n.table l.tables t.0 held.some t.1 (ap (λ (h : TableInMemory). merged (unflushed_maps h)) t.2 ∙ sym memtable)

    -- **It is the flush of the layout's table.**
    pub flush_of : (defs : List IndexDef) → parts ≡ flush_parts n.table l → At 1 n.table (AreTableIndexes defs) l.tables → IsFlushOf a store.manifest m n defs parts l logs
    flush_of defs parts_are indexes = record {
      shape = serves.shape;
      in_order = serves.in_order;
      number = serves.manifest;
      listing = serves.listing;
      stands = subst (λ (k : ℕ). ManifestStands a k store.manifest.at listing) (sym serves.manifest) (subst (ManifestStands a l.used.manifest store.manifest.at) (sym serves.listing) serves.manifest_end);
      file = file_is;
      last = last_is;
      floor = floor_of;
      parts_are = parts_are;
      holds = unflushed_is;
      storable = ready_flush a store l n.table ready serves;
      indexes = indexes;
    }

    -- **The store serves the layout after it.**
    pub flush_serves : {S : Relation} (manifest : ManifestState) (log : Handle) → Changes S a b → manifest.number ≡ store.manifest.number → log.file ≡ log_name n.last → parts ≡ flush_parts n.table l → IsFlushed b manifest log n l logs → Serves b (memory_after_flush n.table parts manifest log store) (after_flush n.table l)
    flush_serves {S} manifest log change number log_file parts_are flushed =
        let used_log : store.used.log ≡ l.last = ready.numbered.log_is ∙ ap (λ (e : Listing). e.last) serves.listing in
        let change_table : TableParts → TableParts = flush_table (suc l.used.«data») l.used.part (suc l.last) in
        record {
          told = told_after S a b change serves.told;
          in_order = moved_in_order (Flush n.table) l tt serves.in_order;
          definitions = serves.definitions ∙ sym (unseen_at (λ (t : TableParts). t.definition) change_table (λ t. refl) 1 n.table l.tables);
          tables = ap (at_number 1 n.table flushed_in_memory) serves.tables ∙ sym (seen_at table_in_memory change_table flushed_in_memory (λ t. refl) 1 n.table l.tables);
          used = ap (λ (k : ℕ). record store.used { log = suc k; «data» = suc store.used.«data»; part = store.used.part + length parts }) used_log
              ∙ ap (λ (u : Used). record u { log = suc l.last; «data» = suc u.«data»; part = u.part + length parts }) serves.used
              ∙ ap (λ (ps : List PartNumber). record l.used { log = suc l.last; «data» = suc l.used.«data»; part = l.used.part + length ps }) parts_are;
          timestamp = serves.timestamp ∙ sym (ap max_timestamp (flush_state n.table l));
          listing = flushed.listing;
          manifest = number ∙ serves.manifest;
          log = log_file ∙ ap log_name last_is;
          older = drop (next_floor n.table l - l.floor) logs;
          current = [];
          log_end = subst (λ (k : ℕ). IsAtLogEnd b (log_name k) log.at []) last_is flushed.log_end;
          manifest_end = subst (λ (k : ℕ). ManifestStands b k manifest.at (listing_of (after_flush n.table l))) (number ∙ serves.manifest) (subst (ManifestStands b manifest.number manifest.at) flushed.listing flushed.stands);
          shape = flushed.shape;
        }

  -- no other file comes than its own
  pub flush_exactly : (b : View) (manifest : ManifestState) (log : Handle) → IsNext listing (edit_of n parts ∷ []) manifest.listing → manifest.number ≡ store.manifest.number → Reaches b (manifest_name manifest.number) (manifest.at + 1)
      → Changes (ChangesInFlush store.manifest.number listing.floor n parts) a b → HasFlushedFiles b listing.floor n parts → (aside : FileName → Bool) → AreAside store.used.«data» aside → HasExactlyBeside a aside store → HasExactlyBeside b aside (memory_after_flush n.table parts manifest log store)
  flush_exactly b manifest log is number room change flushed aside are has = next_kept manifest.listing is b manifest aside are has refl number change flushed room

  -- **It is ready after it.**
  pub flush_ready : (b : View) (manifest : ManifestState) (log : Handle) → IsNext listing (edit_of n parts ∷ []) manifest.listing → manifest.number ≡ store.manifest.number → Reaches b (manifest_name manifest.number) (manifest.at + 1) → IsTrue manifest.usable
      → log.file ≡ log_name n.last → Reaches b log.file (log.at + 1) → IsTrue log.usable → Changes (ChangesInFlush store.manifest.number listing.floor n parts) a b → HasFlushedFiles b listing.floor n parts
      → (ManifestStands a store.manifest.number store.manifest.at listing → ManifestStands b manifest.number manifest.at manifest.listing) → CanChange b (memory_after_flush n.table parts manifest log store)
  flush_ready b manifest log is number room usable log_file log_room log_usable change flushed stands =
      let after = listed_after manifest.listing is in
      record {
        consistent = next_consistent manifest.listing is;
        definitions = next_definitions manifest.listing is;
        tables = rw (after.0, after.1, after.2) (flushed_ready listing.partitioner listing.floor listing.last n.floor 1 n.table n.last store.definitions store.tables ready.tables
            (subst (λ (k : ℕ). k ≤ floor_in_memory 1 n.table n.last store.tables) (sym floor) (omega arith)) (omega (arith, last)));
        numbered = record {
          manifest_is = ready.numbered.manifest_is ∙ sym number;
          log_is = ap (λ (k : ℕ). suc k) ready.numbered.log_is ∙ sym last ∙ sym after.2;
          files = subst (λ (k : ℕ). AllByRecursion (HasFilesInOrder k manifest.listing.last) manifest.listing.tables) file (next_files manifest.listing is);
          indexes = next_indexes manifest.listing is;
          fits = subst (λ (k : ℕ). k < 2 ^ 32) file fits.1;
        };
        timestamp = ready.timestamp;
        log_file = log_file ∙ ap log_name (sym after.2);
        manifest_room = room;
        log_room = log_room;
        manifest_usable = usable;
        log_usable = log_usable;
        stands = λ told. stands (ready.stands (told_before (ChangesInFlush store.manifest.number listing.floor n parts) a b change told));
        aside = ready.aside;
        aside_are = aside_higher store.used.«data» (suc store.used.«data») ready.aside (omega arith) ready.aside_are;
        exactly = flush_exactly b manifest log is number room change flushed ready.aside ready.aside_are ready.exactly;
      }
