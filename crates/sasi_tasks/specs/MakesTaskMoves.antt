-- What a call promises that goes on with tasks of a store.
use Rattle.std.specs.Prelude.{◌≡◌, ◌≤◌, true, List, IfErr, OnOk, None, Some, Result}
use Rattle.std.specs.FinMap.{get}
use Rattle.std.specs.List.{AllByRecursion}
use Rattle.sasi_types.specs.declared.class.Class.{Class}
use Rattle.sasi_folder.specs.Damages.{FolderShows}
use Rattle.sasi_host.specs.Disk.{Changes}
use Rattle.sasi_host.specs.declared.name.FileName.{FileName}
use Rattle.sasi_host.specs.Names.{Folder}
use Rattle.sasi_host.specs.View.{View}
use Rattle.sasi_layout.specs.Between.{Between}
use Rattle.sasi_layout.specs.Classes.{KnowsClasses}
use Rattle.sasi_layout.specs.Kept.{AreAside}
use Rattle.sasi_layout.specs.Layout.{Layout}
use Rattle.sasi_layout.specs.Moves.{Move, after_moves}
use Rattle.sasi_layout.specs.Serving.{CanChange, HasExactlyBeside, Serves}
use Rattle.sasi_layout.specs.Spent.{spent}
use Rattle.sasi_recover.specs.OpenedFolder.{AnyFolderChange}
use Rattle.sasi_views.specs.Books.{Book}
use Rattle.sasi_tables.specs.Faults.{OnMissing, OnSpent, OnStepDamage, StepCauses}
use Rattle.sasi_tables.specs.MakesMoves.{Knows}
use Rattle.sasi_tables.specs.TablesView.{IsOfParts, memory_of}
use Rattle.sasi_tables.specs.declared.fault.StepFault.{StepFault}
use Rattle.sasi_tables.specs.declared.parts.Parts.{Parts}
use Rattle.sasi_tasks.specs.Running.{AreTasksOf, AreTasksReady, IsUnheld, KeepsPlaces, KnowsTasks, is_aside, is_held}
use Rattle.sasi_tasks.specs.Tasks.{Task}
use Rattle.sasi_tasks.specs.declared.running.RunningTask.{RunningTask}

-- a store with these parts and tasks serves a layout with these tasks
pub record ServesTasks (v : View) (p : Parts) (tasks : List RunningTask) (l : Layout) (ks : List Task) : Type 0 where
  pub serves : Serves v (memory_of p) l
  pub tasks_are : AreTasksOf v l tasks ks

-- it can go on with them, and the folder has the files that are listed, those beside them, and no other
pub record CanGoOn (v : View) (views : Book) (p : Parts) (tasks : List RunningTask) : Type 0 where
  pub can : CanChange v (memory_of p)
  pub parts : IsOfParts p
  pub ready : AreTasksReady v p tasks
  -- what views list are data and index files of used numbers, and none of a task's number
  pub held_are : AreAside p.numbers.«data» (is_held views)
  pub unheld : AllByRecursion (λ (r : RunningTask). IsUnheld views r.task.compaction.number) tasks
  pub exactly : HasExactlyBeside v (is_aside views tasks p.manifest.listing) (memory_of p)

-- what is in memory of the tables stays
pub record HasSameMaps (old new : Parts) : Type 0 where
  pub maps_are : new.maps ≡ old.maps
  pub tables_are : new.tables ≡ old.tables
  pub last_is : new.last_map ≡ old.last_map
  pub schema_is : new.schema ≡ old.schema

-- the files that a view lists which is out are as they were
abbrev pub KeepsHeld : Book → Folder → Folder → Type 0
KeepsHeld views old new = (name : FileName) → is_held views name ≡ true → get new name ≡ get old name

-- Whichever layout and tasks the store serves, each moment is one between the moves. Afterwards it serves the layout after them, with the tasks as they are then. It ends early only where a number is spent that the moves need, where a source is damaged, or where a call or memory fails.
pub record MakesTaskMoves (moves : Layout → List Task → List Move) (after : Layout → List Task → List Task) (views : Book) (a b : View) (old new : Parts) (was now : List RunningTask) (result : Result Unit StepFault) : Type 0 where
  pub any_moment : (l : Layout) (ks : List Task) → ServesTasks a old was l ks → Changes (λ x y. Between l (moves l ks) y) a b
  pub serves : OnOk result ((l : Layout) (ks : List Task) → ServesTasks a old was l ks → ServesTasks b new now (after_moves (moves l ks) l) (after l ks))
  pub ready : OnOk result (CanGoOn b views new now)
  pub knows : OnOk result (Knows (memory_of new) old.schema.definitions old.max_timestamp)
  pub maps : OnOk result (HasSameMaps old new)
  -- each used number stays used, and where a file that a view lists is listed no more, no other comes of its number
  pub numbers_stay : OnOk result (old.numbers.«data» ≤ new.numbers.«data»)
  pub listed_stay : OnOk result (KeepsPlaces views old.manifest.listing new.manifest.listing)
  pub unspent : OnOk result ((l : Layout) (ks : List Task) → ServesTasks a old was l ks → spent l (moves l ks) ≡ None)
  pub spent_is : IfErr result (OnSpent (λ kind. (l : Layout) (ks : List Task) → ServesTasks a old was l ks → spent l (moves l ks) ≡ Some kind))
  pub damaged : (folder : Folder) → b.files ≡ Some folder → IfErr result (OnStepDamage (FolderShows folder))
  pub undamaged : (l : Layout) (ks : List Task) → ServesTasks a old was l ks → IfErr result (OnStepDamage (λ _. ⊥))
  pub present : IfErr result (OnMissing (λ _. ⊥))
  pub held : Changes (KeepsHeld views) a b
  pub changes : Changes AnyFolderChange a b
  -- an analyzer is there for each index of a task, where one is there for each of the tables and of the tasks before
  pub known : OnOk result ((kinds : List Class) → KnowsClasses kinds (memory_of old) → KnowsTasks kinds was → KnowsTasks kinds now)
  pub causes : StepCauses a b result
