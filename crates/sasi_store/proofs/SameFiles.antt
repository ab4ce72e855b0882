-- Where nothing changes in the folder, a store serves what it did, and can make a step.
use Rattle.std.proofs.Common.{◌≡◌, List, Option, None, Some, refl, sym, ap, subst, ◌∙◌, arith}
use Rattle.std.specs.FinMap.{get}
use Rattle.std.specs.List.{AllByRecursion}
use Rattle.sasi_host.proofs.ChangeLaws.{changes_as}
use Rattle.sasi_host.proofs.ContentLaws.{contents_same, reaches_where, told_after, told_before}
use Rattle.sasi_host.specs.Disk.{Changes, Same}
use Rattle.sasi_host.specs.Names.{Folder, manifest_name}
use Rattle.sasi_host.specs.View.{View}
use Rattle.sasi_layout.proofs.Fewer.{manifest_fewer, serves_fewer}
use Rattle.sasi_layout.specs.Layout.{Layout}
use Rattle.sasi_layout.specs.Serving.{CanChange, Serves, StoreInMemory}
use Rattle.sasi_tables.proofs.ListedFrames.{keeps_same, same_used}
use Rattle.sasi_tables.specs.Frames.{KeepsTables}
use Rattle.sasi_tables.specs.TablesView.{memory_of}
use Rattle.sasi_tables.specs.declared.parts.Parts.{Parts}
use Rattle.sasi_tasks.specs.MakesTaskMoves.{CanGoOn, KeepsHeld}
use Rattle.sasi_tasks.specs.Running.{AreTasksOf, IsTaskReady}
use Rattle.sasi_tasks.specs.Tasks.{Task}
use Rattle.sasi_tasks.specs.declared.running.RunningTask.{RunningTask}
use Rattle.sasi_views.specs.Books.{Book}
use Rattle.sasi_store.proofs.KeptTasks.{goes_on_made, tasks_still}

module _ (a b : View) (change : Changes Same a b) where
  -- each image was one before
  image_before : (y : Folder) → b.image y → a.image y
  image_before y now = let from = change.image y now in subst a.image (sym from.2) from.1

  pub serves_same : (store : StoreInMemory) (l : Layout) → Serves a store l → Serves b store l
  serves_same store l serves = serves_fewer a b image_before store l (told_after Same a b change serves.told) serves

  -- what is told of the folder stays
  pub files_same : b.files ≡ a.files
  files_same = from a.files refl
    where
      from : (o : Option Folder) → a.files ≡ o → b.files ≡ a.files
      from None is = change.untold is ∙ sym is
      from (Some f) is = (let g = change.seen f is in g.1 ∙ ap Some g.2 ∙ sym is)

  pub files_before : (folder : Folder) → b.files ≡ Some folder → a.files ≡ Some folder
  files_before folder files = sym files_same ∙ files

  ready_same : (store : StoreInMemory) → CanChange a store → CanChange b store
  ready_same store ready = record {
    consistent = ready.consistent;
    definitions = ready.definitions;
    tables = ready.tables;
    numbered = ready.numbered;
    timestamp = ready.timestamp;
    log_file = ready.log_file;
    manifest_room = reaches_where a b Same (manifest_name store.manifest.number) _ change (contents_same a b (manifest_name store.manifest.number) change) ready.manifest_room;
    log_room = reaches_where a b Same store.log.file _ change (contents_same a b store.log.file change) ready.log_room;
    manifest_usable = ready.manifest_usable;
    log_usable = ready.log_usable;
    stands = λ told. manifest_fewer a b image_before store.manifest.number store.manifest.at _ (ready.stands (told_before Same a b change told));
    aside = ready.aside;
    aside_are = ready.aside_are;
    exactly = λ folder files. ready.exactly folder (files_before folder files);
  }

  -- the files that views list stay
  pub same_held : (views : Book) → Changes (KeepsHeld views) a b
  same_held views = changes_as a b Same (KeepsHeld views) change (λ x y same name held. ap (λ (f : Folder). get f name) same)

  module _ (p : Parts) where
    same_tables : KeepsTables p.numbers.«data» p.numbers.«data» p.manifest.listing p.manifest.listing
    same_tables = keeps_same p.numbers.«data» p.numbers.«data» p.manifest.listing (omega arith)

    -- **The store can go on with its tasks,**
    pub goes_on_same : (views : Book) (tasks : List RunningTask) → CanGoOn a views p tasks → CanGoOn b views p tasks
    goes_on_same views tasks on =
        goes_on_made a b p p (omega arith) same_tables (same_used p.numbers.«data» a b change) views tasks on (ready_same (memory_of p) on.can) on.parts (λ aside are has. (are, λ folder files. has folder (files_before folder files)))

    -- **and they are those of the layout that they were.**
    pub tasks_same : (l : Layout) (rs : List RunningTask) (ks : List Task) → AllByRecursion (IsTaskReady a p) rs → AreTasksOf a l rs ks → AreTasksOf b l rs ks
    tasks_same l = tasks_still a b p p (omega arith) same_tables (same_used p.numbers.«data» a b change) l l (λ c runs. (runs, refl))
