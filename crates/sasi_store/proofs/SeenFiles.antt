-- Where the folder reads as before and no image comes, as after an emit: a store serves what it did, and its tasks can go on.
use Rattle.std.proofs.Common.{◌≡◌, List, [], ◌∷◌, Option, IsSome, refl, ap, subst}
use Rattle.std.specs.List.{AllByRecursion}
use Rattle.sasi_host.specs.declared.name.FileName.{FileName}
use Rattle.sasi_host.specs.Names.{Folder, data_name}
use Rattle.sasi_host.specs.View.{View, contents, contents_in}
use Rattle.sasi_compact.proofs.TaskLaws.{still_compacting, still_goes_on}
use Rattle.sasi_compact.specs.Tasks.{CanGoOn as TaskCanGoOn, StaysForTask, files_numbered}
use Rattle.sasi_compact.specs.declared.task.CompactTask.{CompactTask}
use Rattle.sasi_manifest.specs.declared.files.ListedFile.{ListedFile}
use Rattle.sasi_layout.proofs.Fewer.{manifest_fewer}
use Rattle.sasi_layout.specs.Layout.{Layout}
use Rattle.sasi_layout.specs.Serving.{CanChange, StoreInMemory}
use Rattle.sasi_tables.specs.TablesView.{memory_of}
use Rattle.sasi_tables.specs.declared.parts.Parts.{Parts}
use Rattle.sasi_tasks.specs.MakesTaskMoves.{CanGoOn}
use Rattle.sasi_tasks.specs.Running.{AreTasksOf, IsTaskOf, IsTaskReady}
use Rattle.sasi_tasks.specs.Tasks.{Task}
use Rattle.sasi_tasks.specs.declared.running.RunningTask.{RunningTask}
use Rattle.sasi_views.specs.Books.{Book}
use Rattle.sasi_store.proofs.OpenedTasks.{tasks_alike}

module _ (a b : View) (seen : b.files ≡ a.files) where
  same : (name : FileName) → contents b name ≡ contents a name
  same name = ap (λ (o : Option Folder). contents_in o name) seen

  sources_same : (fs : List ListedFile) → AllByRecursion (λ (f : ListedFile). contents b (data_name f.number) ≡ contents a (data_name f.number)) fs
  sources_same [] = tt
  sources_same (f ∷ fs) = (same (data_name f.number), sources_same fs)

  task_stays : (task : CompactTask) → StaysForTask task.compaction a b
  task_stays task = record {
    told = λ told. subst (λ (o : Option Folder). IsSome o) seen told;
    sources = sources_same (files_numbered task.compaction.sources);
    output = same (data_name task.compaction.number);
  }

  -- **The tasks are those of the layout that they were.**
  pub tasks_seen : (p : Parts) (l : Layout) (rs : List RunningTask) (ks : List Task) → AllByRecursion (IsTaskReady a p) rs → AreTasksOf a l rs ks → AreTasksOf b l rs ks
  tasks_seen p l [] [] all are = tt
  tasks_seen p l [] (k ∷ ks) all are = absurd are
  tasks_seen p l (r ∷ rs) [] all are = absurd are
  tasks_seen p l (r ∷ rs) (k ∷ ks) all are = (one are.0, tasks_seen p l rs ks all.1 are.1)
    where
      one : IsTaskOf a l r k → IsTaskOf b l r k
      one is = record {
        is = is.is;
        runs = is.runs;
        passed = is.passed;
        left = is.left;
        compacting = still_compacting a b r.task (task_stays r.task) is.passed is.left all.0.can is.compacting;
        passed_is = is.passed_is;
        whole = is.whole;
        begun = is.begun;
      }

  each_can : (p : Parts) (rs : List RunningTask) → AllByRecursion (IsTaskReady a p) rs → AllByRecursion (λ (r : RunningTask). TaskCanGoOn b r.task) rs
  each_can p [] all = tt
  each_can p (r ∷ rs) all = (still_goes_on a b r.task (task_stays r.task) all.0.can, each_can p rs all.1)

  module _ (fewer : (x : Folder) → b.image x → a.image x) where
    can_seen : (store : StoreInMemory) → CanChange a store → CanChange b store
    can_seen store can = record {
      consistent = can.consistent;
      definitions = can.definitions;
      tables = can.tables;
      numbered = can.numbered;
      timestamp = can.timestamp;
      log_file = can.log_file;
      manifest_room = rw seen can.manifest_room;
      log_room = rw seen can.log_room;
      manifest_usable = can.manifest_usable;
      stands = λ told. manifest_fewer a b fewer store.manifest.number store.manifest.at store.manifest.listing (can.stands (subst (λ (f : Option Folder). IsSome f) seen told));
      log_usable = can.log_usable;
      aside = can.aside;
      aside_are = can.aside_are;
      exactly = rw seen can.exactly;
    }

    -- **The store can go on with them.**
    pub goes_on_seen : (views : Book) (p : Parts) (tasks : List RunningTask) → CanGoOn a views p tasks → CanGoOn b views p tasks
    goes_on_seen views p tasks on = record {
      can = can_seen (memory_of p) on.can;
      parts = on.parts;
      ready = tasks_alike a b p p refl refl tasks (each_can p tasks on.ready.each) on.ready;
      held_are = on.held_are;
      unheld = on.unheld;
      exactly = rw seen on.exactly;
    }
