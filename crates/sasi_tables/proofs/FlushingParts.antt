-- The flush of a table, from the parts of a store.
use Rattle.std.proofs.Common.{◌≡◌, ◌+◌, ◌-◌, ◌^◌, ◌<◌, ◌≤◌, ℕ, suc, List, [], ◌∷◌, ◌++◌, length, map, slice_get, None, Some, Ok, Err, refl, sym, ap, subst, ◌∙◌, arith}
use Rattle.std.specs.Prelude.{Contains, IsSome, IsTrue, slice_set}
use Rattle.std.proofs.lemmas.List.{length-map}
use Rattle.std.specs.FinMap as map_
use Rattle.std.specs.List.{AllByRecursion}
use Rattle.sasi_cells.specs.declared.mutation.Mutation.{Mutation}
use Rattle.sasi_gated.specs.Handles.{Handle}
use Rattle.sasi_host.specs.declared.fault.HostFault.{HostFault}
use Rattle.sasi_host.specs.Disk.{Changes}
use Rattle.sasi_host.specs.Names.{log_name, manifest_name}
use Rattle.sasi_host.specs.View.{IsSound, ListCauses, Reaches, View}
use Rattle.sasi_layout.specs.Between.{Between}
use Rattle.sasi_layout.specs.Layout.{Layout, Used}
use Rattle.sasi_layout.specs.Moves.{Flush, flush_parts, new_listed_file}
use Rattle.sasi_layout.proofs.KeptLaws.{aside_higher}
use Rattle.sasi_layout.specs.Serving.{AreStorable, CanChange, IsTableReady, Serves, StoreInMemory, TableInMemory}
use Rattle.sasi_layout.specs.Spent.{first_spent, part_draws, spent}
use Rattle.sasi_cells.specs.Maps.{merged}
use Rattle.sasi_model.specs.Abbreviations.{types_of}
use Rattle.sasi_model.specs.State.{Definition}
use Rattle.std.specs.FinMap.{get}
use Rattle.sasi_layout.specs.declared.number_kind.NumberKind.{NumberKind}
use Rattle.sasi_layout.specs.declared.number_kind.NumberKind.TheVariants as kinds
use Rattle.sasi_manifest.proofs.Replacing.{At}
use Rattle.sasi_manifest.specs.declared.files.PartNumber.{PartNumber}
use Rattle.sasi_manifest.specs.Edits.{numbers_at}
use Rattle.sasi_manifest.specs.Format.{IsNext}
use Rattle.sasi_manifest.specs.ListedFiles.{FitParts}
use Rattle.sasi_manifest.specs.Listings.{at_number, replaced}
use Rattle.sasi_manifest.specs.OpenManifest.{ManifestState, ManifestStands}
use Rattle.sasi_memtable.specs.MemtableView.{MemtableView}
use Rattle.sasi_model.specs.Abbreviations.{Partitions}
use Rattle.sasi_recover.specs.OpenedFolder.{used_numbers}
use Rattle.sasi_tables.specs.Held.{CanMerge, HeldTable, held_by, in_memory, map_in, merged_in, numbers_of, unflushed_maps}
use Rattle.sasi_tables.specs.declared.table_maps.TableMaps.{TableMaps}
use Rattle.sasi_tables.proofs.HeldChanges.{maps_there}
use Rattle.sasi_tables.proofs.HeldMaps.{first_in, held_there, numbers_all, unflushed_numbers}
use Rattle.sasi_tables.proofs.OneMap.{one_map}
use Rattle.sasi_recover.specs.declared.opened.Numbers.{Numbers}
use Rattle.sasi_schema.specs.Numbers.{RisesFrom}
use Rattle.sasi_types.specs.declared.index_def.IndexDef.{IndexDef}
use Rattle.sasi_types.specs.declared.partitioner.Partitioner.{Partitioner}
use Rattle.sasi_tables.specs.Faults.{fault_of_call}
use Rattle.sasi_tables.specs.Floors.{IsUnflushed, floor_in_memory, flushed_in_memory, memory_after_flush}
use Rattle.sasi_tables.specs.Flushing.{AreTableIndexes, CanFlush, ChangesInFlush, HasFlushedFiles, IsFlushOf, IsFlushed, edit_of, whole_of}
use Rattle.sasi_tables.specs.MakesMoves.{MakesMoves}
use Rattle.sasi_tables.specs.Numbers.{AreNext, AreSpent, flush_draws}
use Rattle.sasi_tables.specs.Puts.{HasTableFor}
use Rattle.sasi_tables.specs.TablesView.{AreTables, IsOfParts, held_in, memory_of, wanted_of}
use Rattle.sasi_tables.specs.declared.fault.StepFault.TheVariants.{NumbersSpent, OutOfMemory}
use Rattle.sasi_tables.specs.declared.flush.FlushNumbers.{FlushNumbers}
use Rattle.sasi_tables.specs.declared.parts.Parts.{Parts}
use Rattle.sasi_tables.proofs.FlushingTables.{can_flush, flush_exactly, flush_of, flush_ready, flush_serves, inside, listed_after}
use Rattle.sasi_tables.proofs.ListedFrames.{flush_stays, keeps_flushed}
use Rattle.sasi_tables.proofs.MoveCauses.{any_change, call_failed, call_made, call_plain, made_then_full, makes_nothing, plain_present, plain_undamaged, plain_unspent}
use Rattle.sasi_tables.proofs.TablesInMemory.{all_set, inside_there, map_there, ready_in_memory, set_numbered, there_inside, unseen_set}

-- ---- the table

module _ (p : Parts) (number : ℕ) where
  pub table_at : HasTableFor number (held_in p) → (t : HeldTable) × (slice_get (held_in p) (number - 1) ≡ Some t)
  table_at there = inside_there (held_in p) (number - 1) (omega (arith, there.some, there.inside))

  pub memory_at : (t : HeldTable) → slice_get (held_in p) (number - 1) ≡ Some t → slice_get (memory_of p).tables (number - 1) ≡ Some (in_memory t)
  memory_at t there = map_there in_memory (held_in p) (number - 1) t there

  pub is_unflushed : 0 < number → (t : HeldTable) → slice_get (held_in p) (number - 1) ≡ Some t → 1 ≤ length (map_.entries (merged (unflushed_maps (in_memory t)))) → IsUnflushed number (memory_of p)
  is_unflushed some t there held = record { some = some; there_is = in_memory t; there = memory_at t there; held = held }

  pub unflushed_there : IsUnflushed number (memory_of p) → HasTableFor number (held_in p)
  unflushed_there held =
      let size : length (map in_memory (held_in p)) ≡ length (held_in p) = length-map (held_in p) in_memory in
      record { some = held.some; inside = omega (arith, held.some, there_inside (memory_of p).tables (number - 1) held.there_is held.there, size) }

-- the maps with its numbers, merged, are what isn't flushed
pub whole_there : (p : Parts) (x : TableMaps) (own : List ℕ) → own ≡ numbers_of x → merged_in p.maps own ≡ merged (unflushed_maps (in_memory (held_by p.maps x)))
whole_there p x own own_is = ap (merged_in p.maps) own_is ∙ ap merged (unflushed_numbers p.maps x)

-- ---- the numbers

-- the parts are those that a flush of the table draws, whichever layout the store serves
abbrev pub ArePartsOf : View → Parts → ℕ → List PartNumber → Type 0
ArePartsOf v p number parts = (l : Layout) → Serves v (memory_of p) l → parts ≡ flush_parts number l

-- the definitions are those of indexes of the table
abbrev pub AreIndexesOf : View → Parts → ℕ → List IndexDef → Type 0
AreIndexesOf v p number defs = (l : Layout) → Serves v (memory_of p) l → At 1 number (AreTableIndexes defs) l.tables

-- **What a flush of the table draws was drawn**: the parts of its indexes, which fit its record, and the next numbers.
pub record HasDrawn (v : View) (p : Parts) (number : ℕ) (defs : List IndexDef) (parts : List PartNumber) (next : Numbers) : Type 0 where
  pub fit : FitParts (numbers_at p.manifest.listing.tables number) parts
  pub indexes : AreIndexesOf v p number defs
  pub parts_are : ArePartsOf v p number parts
  pub next_is : AreNext parts p.numbers next

spent_as : (v : View) (p : Parts) (number : ℕ) (parts : List PartNumber) → ArePartsOf v p number parts → (l : Layout) → Serves v (memory_of p) l → spent l (Flush number ∷ []) ≡ first_spent (flush_draws p.numbers parts) None
spent_as v p number parts of l serves =
    ap (λ (ps : List PartNumber). first_spent ((kinds.Data, l.used.«data») ∷ (part_draws l.used.part ps ++ (kinds.Log, l.used.log) ∷ [])) None) (sym (of l serves))
    ∙ ap (λ (u : Used). first_spent ((kinds.Data, u.«data») ∷ (part_draws u.part parts ++ (kinds.Log, u.log) ∷ [])) None) (sym serves.used)

-- no number is left
pub numbers_spent : {T : Type 0} (v : View) (sound : IsSound v) (p : Parts) (number : ℕ) (parts : List PartNumber) (kind : NumberKind) → ArePartsOf v p number parts → AreSpent parts p.numbers kind
    → MakesMoves {T = T} (λ l. Flush number ∷ []) v v (memory_of p) (memory_of p) (Err (NumbersSpent kind))
numbers_spent v sound p number parts kind of is = makes_nothing (λ l. Flush number ∷ []) v sound (memory_of p) (memory_of p) (NumbersSpent kind) tt tt (λ l serves. spent_as v p number parts of l serves ∙ is) (λ e. cc)

-- ---- the flush

module _ (a : View) (sound : IsSound a) (p : Parts) (of : IsOfParts p) (ready : CanChange a (memory_of p)) (number : ℕ) (small : number < 2 ^ 32) (held : IsUnflushed number (memory_of p)) (defs : List IndexDef) (parts : List PartNumber) (next : Numbers) (has : HasDrawn a p number defs parts next)
    (floor : ℕ) (floor_is : floor ≡ floor_in_memory 1 number next.log (map in_memory (held_in p))) (x : TableMaps) (there : slice_get p.tables.items (number - 1) ≡ Some x) (own : List ℕ) (own_is : own ≡ numbers_of x) where
  is : AreNext parts p.numbers next
  is = has.next_is

  fit : FitParts (numbers_at p.manifest.listing.tables number) parts
  fit = has.fit

  abbrev pub numbers : FlushNumbers
  numbers = record { table = number; file = next.«data»; floor = floor; last = next.log }

  abbrev t : HeldTable
  t = held_by p.maps x

  -- its maps, as one memtable
  abbrev whole : MemtableView
  whole = whole_of p.manifest.listing.partitioner p.maps own

  row_is : in_memory t ≡ held.there_is
  row_is = one (in_memory t) held.there_is (sym (memory_at p number t (held_there p.maps p.tables.items (number - 1) x there)) ∙ held.there)
    where
      one : (x y : TableInMemory) → Some x ≡ Some y → x ≡ y
      one x y e = cc

  last_is : next.log ≡ suc p.manifest.listing.last
  last_is = is.log ∙ ap (λ (n : ℕ). suc n) ready.numbered.log_is

  whole_is : whole.partitions ≡ merged (unflushed_maps held.there_is)
  whole_is = whole_there p x own own_is ∙ ap (λ (h : TableInMemory). merged (unflushed_maps h)) row_is

  fits : (number < 2 ^ 32) × (next.«data» < 2 ^ 32) × (next.log < 2 ^ 32)
  fits = (small, is.file_fits, is.log_fits)

  -- the maps are there, and one alone is what it is merged into
  pub can_merge : CanMerge p.maps own
  can_merge = record {
    there = subst (AllByRecursion (λ n. IsSome (get p.maps n))) (sym own_is) (maps_there p.maps p.last_map (wanted_of p) p.tables.items of.mapped (number - 1) x there);
    alone = λ n is. ap (merged_in p.maps) is ∙ one_map p.manifest.listing.partitioner (types_of defined.0) (map_in p.maps n).partitions (storable_one n (subst (λ (l : List ℕ). Contains l n) (sym is ∙ own_is) (first_in n [])));
  }
    where
      defined : (d : Definition) × IsTableReady p.manifest.listing.partitioner p.manifest.listing.floor p.manifest.listing.last d (in_memory t)
      defined =
          ready_in_memory p.manifest.listing.partitioner p.manifest.listing.floor p.manifest.listing.last (number - 1) (memory_of p).definitions (memory_of p).tables (in_memory t) ready.tables
          (memory_at p number t (held_there p.maps p.tables.items (number - 1) x there))

      storable_one : (n : ℕ) → Contains (numbers_of x) n → AreStorable p.manifest.listing.partitioner (types_of defined.0) (map_in p.maps n).partitions
      storable_one n has = numbers_all (AreStorable p.manifest.listing.partitioner (types_of defined.0)) p.maps x defined.1.frozen defined.1.memtable n has

  pub can : CanFlush a p.manifest whole numbers parts
  can = can_flush a (memory_of p) ready numbers whole held is.file last_is floor_is fits whole_is refl parts fit

  pub partitioner_after : (manifest : ManifestState) → IsNext p.manifest.listing (edit_of numbers parts ∷ []) manifest.listing → manifest.listing.partitioner ≡ p.manifest.listing.partitioner
  partitioner_after manifest listed = (listed_after a (memory_of p) ready numbers whole held is.file last_is floor_is fits whole_is refl parts fit manifest.listing listed).0

  within : number ≤ length p.manifest.listing.tables
  within = inside a (memory_of p) ready numbers whole held is.file last_is floor_is fits whole_is refl parts fit

  pub tables_after : (manifest : ManifestState) → IsNext p.manifest.listing (edit_of numbers parts ∷ []) manifest.listing → manifest.listing.tables ≡ at_number 1 number (replaced [] (new_listed_file next.«data» parts ∷ []) next.log) p.manifest.listing.tables
  tables_after manifest listed = (listed_after a (memory_of p) ready numbers whole held is.file last_is floor_is fits whole_is refl parts fit manifest.listing listed).3

  module _ (b : View) (moments : (l : Layout) (logs : List (List Mutation)) → IsFlushOf a p.manifest whole numbers defs parts l logs → Changes (λ x y. Between l (Flush number ∷ []) y) a b)
      (change : Changes (ChangesInFlush p.manifest.number p.manifest.listing.floor numbers parts) a b) where
    flush_at : (l : Layout) (serves : Serves a (memory_of p) l) → IsFlushOf a p.manifest whole numbers defs parts l (serves.older ++ serves.current ∷ [])
    flush_at l serves = flush_of a (memory_of p) ready numbers whole held is.file last_is floor_is fits whole_is refl parts fit b l serves defs (has.parts_are l serves) (has.indexes l serves)

    -- a call failed, or memory ran out
    pub flush_stopped : {T U : Type 0} (new : StoreInMemory) (f : HostFault) → ListCauses {T = T} a b (Err f) → MakesMoves {T = U} (λ l. Flush number ∷ []) a b (memory_of p) new (Err (fault_of_call f))
    flush_stopped new f causes = record {
      exactly = tt;
      any_moment = λ l serves. moments l (serves.older ++ serves.current ∷ []) (flush_at l serves);
      serves = tt;
      ready = tt;
      unspent = tt;
      spent_is = plain_unspent _ (fault_of_call f) (call_plain f);
      undamaged = plain_undamaged (fault_of_call f) (call_plain f);
      present = plain_present _ (fault_of_call f) (call_plain f);
      changes = any_change (ChangesInFlush p.manifest.number p.manifest.listing.floor numbers parts) a b change;
      files_stay = flush_stays p.manifest.number p.numbers.«data» p.manifest.listing.floor numbers parts is.file a b change;
      listed_stay = tt;
      numbers_stay = tt;
      reads = causes.reads;
      causes = call_failed a b f causes;
    }

    -- the flush was made, and then memory ran out
    pub flush_unfinished : {T U : Type 0} (new : StoreInMemory) (x : T) → ListCauses {T = T} a b (Ok x) → MakesMoves {T = U} (λ l. Flush number ∷ []) a b (memory_of p) new (Err OutOfMemory)
    flush_unfinished new x causes = record {
      exactly = tt;
      any_moment = λ l serves. moments l (serves.older ++ serves.current ∷ []) (flush_at l serves);
      serves = tt;
      ready = tt;
      unspent = tt;
      spent_is = tt;
      undamaged = tt;
      present = tt;
      changes = any_change (ChangesInFlush p.manifest.number p.manifest.listing.floor numbers parts) a b change;
      files_stay = flush_stays p.manifest.number p.numbers.«data» p.manifest.listing.floor numbers parts is.file a b change;
      listed_stay = tt;
      numbers_stay = tt;
      reads = causes.reads;
      causes = made_then_full a b x causes;
    }

    -- **The flush was made.**
    pub flush_made : {T U : Type 0} (x : T) (y : U) (manifest : ManifestState) (log : Handle)
        → ((l : Layout) (logs : List (List Mutation)) → IsFlushOf a p.manifest whole numbers defs parts l logs → IsFlushed b manifest log numbers l logs)
        → IsNext p.manifest.listing (edit_of numbers parts ∷ []) manifest.listing → manifest.number ≡ p.manifest.number → Reaches b (manifest_name manifest.number) (manifest.at + 1) → IsTrue manifest.usable
        → log.file ≡ log_name next.log → Reaches b log.file (log.at + 1) → IsTrue log.usable → HasFlushedFiles b p.manifest.listing.floor numbers parts
        → (ManifestStands a p.manifest.number p.manifest.at p.manifest.listing → ManifestStands b manifest.number manifest.at manifest.listing)
        → ListCauses {T = T} a b (Ok x) → MakesMoves {T = U} (λ l. Flush number ∷ []) a b (memory_of p) (memory_after_flush number parts manifest log (memory_of p)) (Ok y)
    flush_made x y manifest log flushed listed same room usable file log_room log_usable files stands causes = record {
      exactly = λ aside are own. (
        aside_higher p.numbers.«data» (suc p.numbers.«data») aside (omega arith) are,
        flush_exactly a (memory_of p) ready numbers whole held is.file last_is floor_is fits whole_is refl parts fit b manifest log listed same room change files aside are own,
      );
      any_moment = λ l serves. moments l (serves.older ++ serves.current ∷ []) (flush_at l serves);
      serves = λ l serves. flush_serves a (memory_of p) ready numbers whole held is.file last_is floor_is fits whole_is refl parts fit b l serves manifest log change same file (has.parts_are l serves) (flushed l (serves.older ++ serves.current ∷ []) (flush_at l serves));
      ready = flush_ready a (memory_of p) ready numbers whole held is.file last_is floor_is fits whole_is refl parts fit b manifest log listed same room usable file log_room log_usable change files stands;
      unspent = λ l serves. spent_as a p number parts has.parts_are l serves ∙ is.unspent;
      spent_is = tt;
      undamaged = tt;
      present = tt;
      changes = any_change (ChangesInFlush p.manifest.number p.manifest.listing.floor numbers parts) a b change;
      files_stay = flush_stays p.manifest.number p.numbers.«data» p.manifest.listing.floor numbers parts is.file a b change;
      listed_stay = keeps_flushed p.numbers.«data» p.manifest.listing.last (new_listed_file next.«data» parts) next.log number p.manifest.listing manifest.listing is.file ready.numbered.files held.some (omega (arith, within))
          (partitioner_after manifest listed) (tables_after manifest listed);
      numbers_stay = omega arith;
      reads = causes.reads;
      causes = call_made a b x y causes;
    }

-- ---- what the store has in memory then

module _ (p : Parts) (of : IsOfParts p) (number : ℕ) (some : 0 < number) (t : HeldTable) (there : slice_get (held_in p) (number - 1) ≡ Some t) (memtable : MemtableView) (tables : List HeldTable)
    (cleared : tables ≡ slice_set (held_in p) (number - 1) (record t { frozen = []; memtable = memtable; first = None })) where
  abbrev emptied : HeldTable
  emptied = record t { frozen = []; memtable = memtable; first = None }

  pub flushed_memory : (parts : List PartNumber) (manifest : ManifestState) (log : Handle) (next : Numbers) → AreNext parts p.numbers next → memtable.partitions ≡ map_.empty
      → record { definitions = p.schema.definitions; manifest = manifest; log = log; tables = map in_memory tables; used = used_numbers next; max_timestamp = p.max_timestamp } ≡ memory_after_flush number parts manifest log (memory_of p)
  flushed_memory parts manifest log next is empty =
      let seen : in_memory emptied ≡ flushed_in_memory (in_memory t) = ap (λ (m : Partitions). record { first = None; frozen = []; memtable = m }) empty in
      let tables_are : map in_memory tables ≡ at_number 1 number flushed_in_memory (map in_memory (held_in p)) =
      ap (map in_memory) cleared ∙ set_numbered in_memory flushed_in_memory number (held_in p) t emptied some there seen in
      let used_are : used_numbers next ≡ record (used_numbers p.numbers) { log = suc p.numbers.log; «data» = suc p.numbers.«data»; part = p.numbers.part + length parts } =
      λ i. record { manifest = is.manifest i; log = is.log i; «data» = is.file i; index = is.index i; part = is.part i } in
      λ i. record { definitions = p.schema.definitions; manifest = manifest; log = log; tables = tables_are i; used = used_are i; max_timestamp = p.max_timestamp }

  pub flushed_parts : (partitioner : Partitioner) → partitioner ≡ p.manifest.listing.partitioner → memtable.partitioner ≡ partitioner → AreTables partitioner tables
  flushed_parts partitioner same is =
      subst (AreTables partitioner) (sym cleared) (record {
        numbers = subst (RisesFrom 1) (sym (unseen_set (λ (t : HeldTable). t.number) (number - 1) (held_in p) t emptied there refl)) of.tables.numbers;
        under = all_set (λ (t : HeldTable). t.memtable.partitioner ≡ partitioner) (number - 1) (held_in p) emptied
            (subst (λ (q : Partitioner). AllByRecursion (λ (t : HeldTable). t.memtable.partitioner ≡ q) (held_in p)) (sym same) of.tables.under) is;
        frozen = all_set (λ (t : HeldTable). AllByRecursion (λ (m : MemtableView). m.partitioner ≡ partitioner) t.frozen) (number - 1) (held_in p) emptied
            (subst (λ (q : Partitioner). AllByRecursion (λ (t : HeldTable). AllByRecursion (λ (m : MemtableView). m.partitioner ≡ q) t.frozen) (held_in p)) (sym same) of.tables.frozen) tt;
      })
