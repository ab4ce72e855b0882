-- A step of a task makes no move: its file alone changes.
use Rattle.std.proofs.Common.{◌≡◌, ◌∙◌, ℕ, List, [], is_some, slice_get, Option, Some, Ok, Err, refl, sym, ap, subst, arith}
use Rattle.std.specs.List.{AllByRecursion, slice_set}
use Rattle.sasi_types.specs.declared.class.Class.{Class}
use Rattle.sasi_host.specs.declared.damage.Damage.{Damage}
use Rattle.sasi_host.specs.Disk.{AnyChange, Changes, FileChange}
use Rattle.sasi_host.specs.Names.{Folder, data_name}
use Rattle.sasi_host.specs.View.{IsSound, View}
use Rattle.sasi_host.proofs.ContentLaws.{told_before, told_files}
use Rattle.sasi_datawrite.specs.declared.fault.PairFault.{PairFault}
use Rattle.sasi_datawrite.specs.declared.fault.PairFault.TheVariants as pair
use Rattle.sasi_folder.specs.Damages.{FolderShows}
use Rattle.sasi_pairs.specs.Gathered.{LacksClass}
use Rattle.sasi_merge.specs.Streams.{Entries}
use Rattle.sasi_scan.specs.Parts.{ShowsListed}
use Rattle.sasi_compact.specs.Tasks.{CompactCauses, IsCompacting, OnPairDamage, sources_of}
use Rattle.sasi_compact.specs.Tasks as task_
use Rattle.sasi_compact.specs.declared.compaction.Compaction.{Compaction}
use Rattle.sasi_compact.specs.declared.task.CompactTask.{CompactTask}
use Rattle.sasi_layout.proofs.Trails.{moves_early}
use Rattle.sasi_layout.specs.Layout.{Layout}
use Rattle.sasi_layout.specs.Moves.{Move}
use Rattle.sasi_layout.specs.Spent.{spent}
use Rattle.sasi_tables.proofs.MoveCauses.{any_change}
use Rattle.sasi_tables.proofs.PushFaults.{lacks_none}
use Rattle.sasi_tables.proofs.TablesInMemory.{all_at}
use Rattle.sasi_tables.specs.Faults.{OnMissing, OnSpent, OnStepDamage, StepCauses, fault_of_pair}
use Rattle.sasi_tables.specs.Held.{KnowsDef}
use Rattle.sasi_tables.specs.declared.parts.Parts.{Parts}
use Rattle.sasi_layout.specs.declared.number_kind.NumberKind.{NumberKind}
use Rattle.sasi_tasks.proofs.SourceDamage.{source_shows}
use Rattle.sasi_tasks.proofs.StepFrames.{held_stays, no_moment, other_task, own_ready, still_serves}
use Rattle.sasi_tasks.proofs.StepReady.{goes_on_stepped}
use Rattle.sasi_tasks.proofs.SteppedTasks.{each_after, stepped}
use Rattle.sasi_tasks.proofs.TasksOn.{going_on, own_running, tasks_on}
use Rattle.sasi_tasks.specs.MakesTaskMoves.{CanGoOn, MakesTaskMoves, ServesTasks}
use Rattle.sasi_tasks.specs.Running.{IsTaskOf, IsTaskReady, KnowsTasks}
use Rattle.sasi_tasks.specs.Tasks.{Task}
use Rattle.sasi_tasks.specs.declared.running.RunningTask.{RunningTask}
use Rattle.sasi_views.specs.Books.{Book}

-- ---- the faults of a task, as those of a step

damaged_as : (P : Damage → Type 0) (f : PairFault) → OnPairDamage P f → OnStepDamage P (fault_of_pair f)
damaged_as P pair.Failed on = tt
damaged_as P pair.OutOfMemory on = tt
damaged_as P (pair.Damaged damage) on = on
damaged_as P (pair.Missing class) on = tt

damage_then : (P Q : Damage → Type 0) (f : PairFault) → ((damage : Damage) → P damage → Q damage) → OnPairDamage P f → OnStepDamage Q (fault_of_pair f)
damage_then P Q pair.Failed follows on = tt
damage_then P Q pair.OutOfMemory follows on = tt
damage_then P Q (pair.Damaged damage) follows on = follows damage on
damage_then P Q (pair.Missing class) follows on = tt

unspent_pair : (P : NumberKind → Type 0) (f : PairFault) → OnSpent P (fault_of_pair f)
unspent_pair P pair.Failed = tt
unspent_pair P pair.OutOfMemory = tt
unspent_pair P (pair.Damaged damage) = tt
unspent_pair P (pair.Missing class) = tt

present_pair : {T : Type 0} (Lacks : Class → Type 0) (a b : View) (f : PairFault) → ((class : Class) → Lacks class → ⊥) → CompactCauses {T = T} Lacks a b (Err f) → OnMissing (λ _. ⊥) (fault_of_pair f)
present_pair Lacks a b pair.Failed none causes = tt
present_pair Lacks a b pair.OutOfMemory none causes = tt
present_pair Lacks a b (pair.Damaged damage) none causes = tt
present_pair Lacks a b (pair.Missing class) none causes = none class (causes.missing class refl)

step_causes : {T U : Type 0} (Lacks : Class → Type 0) (a b : View) (f : PairFault) → CompactCauses {T = T} Lacks a b (Err f) → StepCauses {T = U} a b (Err (fault_of_pair f))
step_causes Lacks a b pair.Failed causes = record { disk = causes.disk; out = causes.out; ok = tt; failed = λ _. causes.failed refl; others = λ other. absurd (other refl) }
step_causes Lacks a b pair.OutOfMemory causes = record { disk = causes.disk; out = causes.out; ok = tt; failed = λ is. cc; others = λ _. causes.other (λ is. cc) }
step_causes Lacks a b (pair.Damaged damage) causes = record { disk = causes.disk; out = causes.out; ok = tt; failed = λ is. cc; others = λ _. causes.other (λ is. cc) }
step_causes Lacks a b (pair.Missing class) causes = record { disk = causes.disk; out = causes.out; ok = tt; failed = λ is. cc; others = λ _. causes.other (λ is. cc) }

one_folder : (x y : Folder) → Some x ≡ Some y → x ≡ y
one_folder x y e = cc

module _ (a : View) (sound : IsSound a) (views : Book) (p : Parts) (tasks : List RunningTask) (ready : CanGoOn a views p tasks) (at : ℕ) (r : RunningTask) (there : slice_get tasks at ≡ Some r) (b : View)
    (change : Changes (FileChange (data_name r.task.compaction.number) AnyChange) a b) where
  abbrev number : ℕ
  number = r.task.compaction.number

  -- ---- it fails

  module _ (f : PairFault) (damaged : OnPairDamage (ShowsListed a.files (sources_of r.task.compaction) r.task.compaction.types) f) where
    shown : (folder : Folder) → b.files ≡ Some folder → OnStepDamage (FolderShows folder) (fault_of_pair f)
    shown folder files =
        let was = told_files a (told_before (FileChange (data_name number) AnyChange) a b change (ap (λ (o : Option Folder). is_some o) files)) in
        let now = change.seen was.0 was.1 in
        let is : now.0 ≡ folder = one_folder now.0 folder (sym now.1 ∙ files) in
        damage_then (ShowsListed a.files (sources_of r.task.compaction) r.task.compaction.types) (FolderShows folder) f
        (λ damage shows. subst (λ (y : Folder). FolderShows y damage) is (source_shows a sound views p tasks ready r (own_ready a views p tasks ready at r there b change) was.0 now.0 was.1 now.2 damage shows)) damaged

    -- **No move is made.**
    pub step_stopped : {T : Type 0} (moves : Layout → List Task → List Move) (after : Layout → List Task → List Task) (now : List RunningTask) (kinds : List Class)
        → ((passed left : Entries) → IsCompacting a r.task passed left → OnPairDamage (λ _. ⊥) f) → CompactCauses {T = T} (LacksClass kinds r.task.compaction.indexes) a b (Err f) → KnowsTasks kinds tasks
        → MakesTaskMoves moves after views a b p p tasks now (Err (fault_of_pair f))
    step_stopped {T} moves after now kinds undamaged causes known = record {
      any_moment = λ l ks serves. moves_early l a b [] (moves l ks) (no_moment a views p tasks ready at r there b change sound l serves.serves);
      serves = tt;
      ready = tt;
      knows = tt;
      maps = tt;
      numbers_stay = tt;
      listed_stay = tt;
      unspent = tt;
      spent_is = unspent_pair (λ kind. (l : Layout) (ks : List Task) → ServesTasks a p tasks l ks → spent l (moves l ks) ≡ Some kind) f;
      damaged = shown;
      undamaged = λ l ks serves. (let k = own_running a l r tasks ks at ready.ready.apart serves.tasks_are there in damaged_as (λ _. ⊥) f (undamaged k.2.passed k.2.left k.2.compacting));
      present = present_pair (LacksClass kinds r.task.compaction.indexes) a b f (lacks_none kinds r.task.compaction.indexes (all_at (λ (o : RunningTask). AllByRecursion (KnowsDef kinds) o.task.compaction.indexes) at tasks r known there)) causes;
      held = held_stays a views p tasks ready at r there b change;
      changes = any_change (FileChange (data_name number) AnyChange) a b change;
      known = tt;
      causes = step_causes (LacksClass kinds r.task.compaction.indexes) a b f causes;
    }

  -- ---- it is made

  module _ (task : CompactTask) (same : task.compaction ≡ r.task.compaction) (can : task_.CanGoOn b task) (f : Layout → Task → ℕ)
      (own : (l : Layout) (k : Task) → IsTaskOf a l r k → IsTaskOf b l (stepped r task) (record k { passed = f l k })) where
    known_after : (kinds : List Class) → KnowsTasks kinds tasks → KnowsTasks kinds (slice_set tasks at (stepped r task))
    known_after kinds known =
        each_after r task (λ (o : RunningTask). AllByRecursion (KnowsDef kinds) o.task.compaction.indexes) (λ (o : RunningTask). AllByRecursion (KnowsDef kinds) o.task.compaction.indexes)
        (subst (λ (c : Compaction). AllByRecursion (KnowsDef kinds) c.indexes) (sym same) (all_at (λ (o : RunningTask). AllByRecursion (KnowsDef kinds) o.task.compaction.indexes) at tasks r known there))
        (λ o other is. is) tasks at there ready.ready.apart known

    -- **No move is made, and the task goes on.**
    pub step_made : b.disk_faults ≡ a.disk_faults → b.out_faults ≡ a.out_faults
        → MakesTaskMoves (λ l ks. []) (λ l ks. going_on r.table (f l) ks) views a b p p tasks (slice_set tasks at (stepped r task)) (Ok tt)
    step_made disk out = record {
      any_moment = λ l ks serves. no_moment a views p tasks ready at r there b change sound l serves.serves;
      serves = λ l ks serves. record {
        serves = still_serves a views p tasks ready at r there b change l serves.serves;
        tasks_are = tasks_on a b l r task (f l) (IsTaskReady a p) (own l) (λ o k other is of. other_task a views p tasks ready at r there b change o is other l k of) tasks ks at there ready.ready.apart ready.ready.each serves.tasks_are;
      };
      ready = goes_on_stepped a views p tasks ready at r there b change task same can;
      knows = record { definitions_are = refl; timestamp_is = refl };
      maps = record { maps_are = refl; tables_are = refl; last_is = refl; schema_is = refl };
      numbers_stay = omega arith;
      listed_stay = λ table file held place. place;
      unspent = λ l ks serves. refl;
      spent_is = tt;
      damaged = λ folder told. tt;
      undamaged = λ l ks serves. tt;
      present = tt;
      held = held_stays a views p tasks ready at r there b change;
      changes = any_change (FileChange (data_name number) AnyChange) a b change;
      known = λ kinds tables known. known_after kinds known;
      causes = record { disk = omega (arith, disk); out = out; ok = disk; failed = tt; others = tt };
    }
