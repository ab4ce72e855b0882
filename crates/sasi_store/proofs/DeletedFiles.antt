-- A store of which files are deleted that no table lists and no task writes: it serves what it did, and its tasks can go on.
use Rattle.std.proofs.Common.{◌≡◌, ◌<◌, ◌+◌, ◌-◌, ℕ, zero, suc, Bool, true, false, List, [], ◌∷◌, length, map, slice_get, take, Some, sym, ap, subst, ◌∙◌, arith}
use Rattle.std.specs.Prelude.{Contains}
use Rattle.std.specs.FinMap.{get}
use Rattle.std.specs.List.{AllByRecursion}
use Rattle.sasi_host.proofs.ChangeLaws.{each_on}
use Rattle.sasi_host.proofs.ContentLaws.{contents_kept, reaches_where, told_after, told_before}
use Rattle.sasi_host.specs.declared.name.FileName.{FileName}
use Rattle.sasi_host.specs.Disk.{Changes, IsFileDurable, Within}
use Rattle.sasi_host.specs.Names.{Bytes, Folder, data_name, log_name, manifest_name, rank, seal_name}
use Rattle.sasi_host.specs.View.{IsSound, View, contents}
use Rattle.sasi_compact.proofs.TaskLaws.{still_compacting, still_goes_on}
use Rattle.sasi_compact.specs.Tasks.{CanGoOn as TaskCanGoOn, StaysForTask, files_numbered}
use Rattle.sasi_manifest.proofs.Laws.{manifest_stays}
use Rattle.sasi_gated.proofs.HandleLaws.{end_stays}
use Rattle.sasi_manifest.specs.FileNames.{has_name}
use Rattle.sasi_manifest.specs.ListedDefinition.{ListedDefinition}
use Rattle.sasi_manifest.specs.declared.files.ListedFile.{ListedFile}
use Rattle.sasi_manifest.specs.declared.listing.Listing.{Listing}
use Rattle.sasi_layout.proofs.LayoutLaws.{bare_listing}
use Rattle.sasi_layout.proofs.Trails.{no_move, still_shape}
use Rattle.sasi_layout.specs.Between.{Between}
use Rattle.sasi_layout.specs.Frames.{AgreeOn}
use Rattle.sasi_layout.specs.Kept.{AreAside}
use Rattle.sasi_layout.specs.Layout.{Layout, bare, listing_of}
use Rattle.sasi_layout.specs.Serving.{CanChange, HasExactlyBeside, Serves, StoreInMemory}
use Rattle.sasi_recover.proofs.KeptShapes.{agree_where}
use Rattle.sasi_tables.specs.declared.parts.Parts.{Parts}
use Rattle.sasi_tasks.specs.Running.{AreTasksOf, IsTaskOf, IsTaskReady}
use Rattle.sasi_tasks.specs.Tasks.{Task}
use Rattle.sasi_tasks.specs.declared.running.RunningTask.{RunningTask}
use Rattle.sasi_store.proofs.ViewDamage.{each_in}
use Rattle.sasi_store.proofs.ViewFiles.{table_lists}

-- only these files change, which are data and index files
module _ (a b : View) (mine : FileName → Bool) (change : Changes (Within mine) a b) (low : (name : FileName) → rank name.kind < 3 → mine name ≡ false) where
  durable : (name : FileName) → mine name ≡ false → (bytes : Bytes) → IsFileDurable a name bytes → IsFileDurable b name bytes
  durable name other bytes kept = each_on a b (Within mine) (λ x. get x name ≡ Some bytes) change (λ x y step is. step name other ∙ is) kept

  -- ---- none of them listed

  module _ (l : Layout) (unlisted : (name : FileName) → has_name (listing_of l).tables name ≡ true → mine name ≡ false) where
    agree : (x y : Folder) → Within mine x y → AgreeOn (bare l) x y
    agree x y step = record {
      seals = λ other. step (seal_name other) (low (seal_name other) (omega arith));
      manifest = step (manifest_name l.used.manifest) (low (manifest_name l.used.manifest) (omega arith));
      logs = λ segment above below. step (log_name segment) (low (log_name segment) (omega arith));
      files = agree_where x y (bare l) (λ name is. step name (unlisted name (ap (λ (k : Listing). has_name k.tables name) (sym (bare_listing l)) ∙ is)));
    }

    -- **The layout is served still,**
    pub serves_deleted : (store : StoreInMemory) → Serves a store l → Serves b store l
    serves_deleted store serves = record {
      told = told_after (Within mine) a b change serves.told;
      in_order = serves.in_order;
      definitions = serves.definitions;
      tables = serves.tables;
      used = serves.used;
      timestamp = serves.timestamp;
      listing = serves.listing;
      manifest = serves.manifest;
      log = serves.log;
      older = serves.older;
      current = serves.current;
      log_end = end_stays a b (log_name l.last) store.log.at _ (durable (log_name l.last) (low (log_name l.last) (omega arith))) serves.log_end;
      manifest_end = manifest_stays a b l.used.manifest store.manifest.at (listing_of l) (durable (manifest_name l.used.manifest) (low (manifest_name l.used.manifest) (omega arith))) serves.manifest_end;
      shape = still_shape l a b (Within mine) _ serves.shape change agree;
    }

    -- **and no move was made.**
    pub nothing_moved : (store : StoreInMemory) → IsSound a → Serves a store l → Changes (λ x y. Between l [] y) a b
    nothing_moved store sound serves = no_move l a b (Within mine) _ sound serves.shape change agree

  -- **The store can make a change still.**
  pub can_deleted : (store : StoreInMemory) → CanChange a store → (aside : FileName → Bool) → AreAside store.used.«data» aside → HasExactlyBeside b aside store → CanChange b store
  can_deleted store can aside are exactly = record {
    consistent = can.consistent;
    definitions = can.definitions;
    tables = can.tables;
    numbered = can.numbered;
    timestamp = can.timestamp;
    log_file = can.log_file;
    manifest_room = reaches_where a b (Within mine) (manifest_name store.manifest.number) (store.manifest.at + 1) change (other (manifest_name store.manifest.number) (low (manifest_name store.manifest.number) (omega arith))) can.manifest_room;
    log_room = reaches_where a b (Within mine) store.log.file (store.log.at + 1) change (other store.log.file (low store.log.file (subst (λ (n : FileName). rank n.kind < 3) (sym can.log_file) (omega arith)))) can.log_room;
    manifest_usable = can.manifest_usable;
    stands = λ told. manifest_stays a b store.manifest.number store.manifest.at store.manifest.listing (durable (manifest_name store.manifest.number) (low (manifest_name store.manifest.number) (omega arith))) (can.stands (told_before (Within mine) a b change told));
    log_usable = can.log_usable;
    aside = aside;
    aside_are = are;
    exactly = exactly;
  }
    where
      other : (name : FileName) → mine name ≡ false → contents b name ≡ contents a name
      other name is = contents_kept a b (Within mine) name (λ x y step. step name is) change

  -- ---- none of them a task's

  module _ (p : Parts) (unlisted : (name : FileName) → has_name p.manifest.listing.tables name ≡ true → mine name ≡ false) where
    same : (name : FileName) → mine name ≡ false → contents b name ≡ contents a name
    same name is = contents_kept a b (Within mine) name (λ x y step. step name is) change

    -- the first files of a table are listed
    firsts_same : (table : ℕ) (row : ListedDefinition) → slice_get p.manifest.listing.tables (table - 1) ≡ Some row → (fs : List ListedFile) → AllByRecursion (λ (f : ListedFile). Contains row.files f) fs → (k : ℕ)
        → AllByRecursion (λ (f : ListedFile). contents b (data_name f.number) ≡ contents a (data_name f.number)) (files_numbered (map (λ (f : ListedFile). f.number) (take k fs)))
    firsts_same table row there [] all zero = tt
    firsts_same table row there [] all (suc k) = tt
    firsts_same table row there (f ∷ fs) all zero = tt
    firsts_same table row there (f ∷ fs) all (suc k) = (same (data_name f.number) (unlisted (data_name f.number) (table_lists p.manifest.listing.tables (table - 1) row there f all.0)), firsts_same table row there fs all.1 k)

    task_stays : (r : RunningTask) → IsTaskReady a p r → mine (data_name r.task.compaction.number) ≡ false → StaysForTask r.task.compaction a b
    task_stays r is apart = record {
      told = told_before (Within mine) a b change;
      sources = subst (λ (ns : List ℕ). AllByRecursion (λ (f : ListedFile). contents b (data_name f.number) ≡ contents a (data_name f.number)) (files_numbered ns)) is.firsts
          (firsts_same r.table is.row is.there is.row.files (each_in is.row.files) (length r.task.compaction.sources));
      output = same (data_name r.task.compaction.number) apart;
    }

    abbrev pub AreApartFrom : List RunningTask → Type 0
    AreApartFrom rs = AllByRecursion (λ (r : RunningTask). mine (data_name r.task.compaction.number) ≡ false) rs

    -- **Each task can go on,**
    pub tasks_can_still : (rs : List RunningTask) → AllByRecursion (IsTaskReady a p) rs → AreApartFrom rs → AllByRecursion (λ (r : RunningTask). TaskCanGoOn b r.task) rs
    tasks_can_still [] all apart = tt
    tasks_can_still (r ∷ rs) all apart = (still_goes_on a b r.task (task_stays r all.0 apart.0) all.0.can, tasks_can_still rs all.1 apart.1)

    -- **and is the one of the layout that it was.**
    pub tasks_deleted : (l : Layout) (rs : List RunningTask) (ks : List Task) → AllByRecursion (IsTaskReady a p) rs → AreApartFrom rs → AreTasksOf a l rs ks → AreTasksOf b l rs ks
    tasks_deleted l [] [] all apart are = tt
    tasks_deleted l [] (k ∷ ks) all apart are = absurd are
    tasks_deleted l (r ∷ rs) [] all apart are = absurd are
    tasks_deleted l (r ∷ rs) (k ∷ ks) all apart are = (one are.0, tasks_deleted l rs ks all.1 apart.1 are.1)
      where
        one : IsTaskOf a l r k → IsTaskOf b l r k
        one is = record {
          is = is.is;
          runs = is.runs;
          passed = is.passed;
          left = is.left;
          compacting = still_compacting a b r.task (task_stays r all.0 apart.0) is.passed is.left all.0.can is.compacting;
          passed_is = is.passed_is;
          whole = is.whole;
          begun = is.begun;
        }
