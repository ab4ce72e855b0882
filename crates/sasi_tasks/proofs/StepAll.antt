-- What becomes of the tasks of a layout where one of them is stepped, and ended where it has passed all keys.
use Rattle.std.proofs.Common.{◌≡◌, ◌∙◌, ◌+◌, ◌<◌, ◌≤◌, ℕ, zero, suc, true, false, if◌then◌else◌, nat_eq, List, [], ◌∷◌, ◌++◌, drop, length, slice_get, take, Option, None, Some, Result, Ok, append-nil, refl, sym, ap, arith}
use Rattle.std.proofs.lemmas.Bool.Decides.{nat_tests}
use Rattle.std.specs.List.{position, slice_set}
use Rattle.std.specs.Option.{option_map_or}
use Rattle.sasi_host.specs.Disk.{AnyChange, Changes, FileChange}
use Rattle.sasi_host.specs.Names.{data_name}
use Rattle.sasi_host.specs.View.{IsSound, View}
use Rattle.sasi_merge.specs.Streams.{Entries}
use Rattle.sasi_compact.specs.Tasks.{HasPassed, IsCompacting}
use Rattle.sasi_compact.specs.Tasks as task_
use Rattle.sasi_compact.specs.declared.progress.Progress.{Progress}
use Rattle.sasi_compact.specs.declared.progress.Progress.TheVariants.{Ready}
use Rattle.sasi_compact.specs.declared.task.CompactTask.{CompactTask}
use Rattle.sasi_layout.specs.Layout.{Layout}
use Rattle.sasi_layout.specs.Moves.{Compact}
use Rattle.sasi_tables.proofs.TablesInMemory.{there_inside}
use Rattle.sasi_tables.specs.declared.fault.StepFault.{StepFault}
use Rattle.sasi_tables.specs.declared.parts.Parts.{Parts}
use Rattle.sasi_tasks.proofs.MovesAfterMoves.{both_moves, both_tasks, made_as, then_made}
use Rattle.sasi_tasks.proofs.NothingDone.{nothing_done}
use Rattle.sasi_tasks.proofs.PassingAll.{PassesSome}
use Rattle.sasi_tasks.proofs.StepFrames.{own_ready}
use Rattle.sasi_tasks.proofs.StepMakes.{step_made}
use Rattle.sasi_tasks.proofs.SteppedTasks.{stepped}
use Rattle.sasi_tasks.proofs.TaskPositions.{is_in, none_advanced, none_passes, none_running, none_without, some_passes}
use Rattle.sasi_tasks.proofs.TasksOn.{ended, going_on, left_of, not_ended, own_running, own_task, same_end, same_without, step_moves_are}
use Rattle.sasi_tasks.specs.MakesTaskMoves.{CanGoOn, MakesTaskMoves, ServesTasks}
use Rattle.sasi_tasks.specs.Running.{IsTaskOf}
use Rattle.sasi_tasks.specs.Tasks.{Task, advanced, end_moves, ends_in, keys_left, running, step_moves, without}
use Rattle.sasi_tasks.specs.declared.running.RunningTask.{RunningTask}
use Rattle.sasi_views.specs.Books.{Book}

-- ---- lists

parted : {A : Type 0} (n : ℕ) (xs : List A) → take n xs ++ drop n xs ≡ xs
parted zero [] = refl
parted zero (x ∷ xs) = refl
parted (suc n) [] = refl
parted (suc n) (x ∷ xs) = ap (λ l. x ∷ l) (parted n xs)

first_count : {A : Type 0} (n : ℕ) (xs : List A) → n ≤ length xs → length (take n xs) ≡ n
first_count zero [] few = refl
first_count zero (x ∷ xs) few = refl
first_count (suc n) [] few = absurd (omega (arith, few))
first_count (suc n) (x ∷ xs) few = ap (λ k. suc k) (first_count n xs (omega (arith, few)))

all_count : {A : Type 0} (n : ℕ) (xs : List A) → length xs ≤ n → length (take n xs) ≡ length xs
all_count zero [] few = refl
all_count zero (x ∷ xs) few = absurd (omega (arith, few))
all_count (suc n) [] few = refl
all_count (suc n) (x ∷ xs) few = ap (λ k. suc k) (all_count n xs (omega (arith, few)))

some_first : {A : Type 0} (n : ℕ) (xs : List A) → 1 ≤ n → 0 < length xs → 0 < length (take n xs)
some_first zero xs units some = absurd (omega (arith, units))
some_first (suc n) [] units some = some
some_first (suc n) (x ∷ xs) units some = omega arith

-- ---- no task runs in the table

module _ (views : Book) (v : View) (sound : IsSound v) (p : Parts) (tasks : List RunningTask) (ready : CanGoOn v views p tasks) (table : ℕ) (none : position (is_in table) tasks ≡ None) where
  not_running : (l : Layout) (ks : List Task) → ServesTasks v p tasks l ks → running table ks ≡ None
  not_running l ks serves = none_running v l table tasks ks serves.tasks_are (none_passes (is_in table) tasks none)

  -- no unit is done,
  pub no_step : (units : ℕ) → MakesTaskMoves (step_moves table units) (λ l ks. advanced table units l ks) views v v p p tasks tasks (Ok tt)
  no_step units = nothing_done (step_moves table units) (λ l ks. advanced table units l ks) views v sound p tasks ready
      (λ l ks serves. (let is = not_running l ks serves in (ap (λ (o : Option Task). option_map_or (λ (k : Task). if ends_in units l k then Compact k.compaction ∷ [] else []) o []) is, none_advanced table units l ks is)))

  -- and nothing is left to do
  pub no_end : MakesTaskMoves (λ l ks. end_moves table ks) (λ l ks. without table ks) views v v p p tasks tasks (Ok tt)
  no_end = nothing_done (λ l ks. end_moves table ks) (λ l ks. without table ks) views v sound p tasks ready
      (λ l ks serves. (let is = not_running l ks serves in (ap (λ (o : Option Task). option_map_or (λ (k : Task). Compact k.compaction ∷ []) o []) is, none_without table ks is)))

-- ---- one runs

module _ (a : View) (sound : IsSound a) (views : Book) (p : Parts) (tasks : List RunningTask) (ready : CanGoOn a views p tasks) (at : ℕ) (r : RunningTask) (there : slice_get tasks at ≡ Some r) (b : View)
    (change : Changes (FileChange (data_name r.task.compaction.number) AnyChange) a b) (task : CompactTask) (same : task.compaction ≡ r.task.compaction) (can : task_.CanGoOn b task) (disk : b.disk_faults ≡ a.disk_faults) (out : b.out_faults ≡ a.out_faults) where
  abbrev tasks_now : List RunningTask
  tasks_now = slice_set tasks at (stepped r task)

  can_before : task_.CanGoOn a r.task
  can_before = (own_ready a views p tasks ready at r there b change).can

  -- all keys are passed, and then it is ended
  module _ (some : (passed left : Entries) → IsCompacting a r.task passed left → PassesSome b task passed left) (moved : (passed left : Entries) (is : IsCompacting a r.task passed left) → 0 < length left → 0 < length (some passed left is).more)
      (all : (passed left : Entries) (is : IsCompacting a r.task passed left) → length (some passed left is).more ≡ length left) where
    abbrev at_end : Layout → Task → ℕ
    at_end l k = k.passed + keys_left l k

    passed_all : MakesTaskMoves (λ l ks. []) (λ l ks. going_on r.table (at_end l) ks) views a b p p tasks tasks_now (Ok tt)
    passed_all = step_made a sound views p tasks ready at r there b change task same can at_end
        (λ l k of. own_task a b l r k of can_before task same (some of.passed of.left of.compacting) (moved of.passed of.left of.compacting) (at_end l k) (omega (arith, left_of a l r k of, all of.passed of.left of.compacting))) disk out

    pub then_ended : (c : View) (new : Parts) (now : List RunningTask) (result : Result (Unit {0}) StepFault) → MakesTaskMoves (λ l ks. end_moves r.table ks) (λ l ks. without r.table ks) views b c p new tasks_now now result
        → MakesTaskMoves (λ l ks. end_moves r.table ks) (λ l ks. without r.table ks) views a c p new tasks now result
    then_ended c new now result second =
        made_as (both_moves (λ l ks. []) (λ l ks. end_moves r.table ks) (λ l ks. going_on r.table (at_end l) ks)) (λ l ks. end_moves r.table ks)
        (both_tasks (λ l ks. []) (λ l ks. going_on r.table (at_end l) ks) (λ l ks. without r.table ks)) (λ l ks. without r.table ks) views a c p new tasks now result
        (λ l ks serves. (sym (same_end r.table (at_end l) ks), sym (same_without r.table (at_end l) ks)))
        (then_made (λ l ks. []) (λ l ks. end_moves r.table ks) (λ l ks. going_on r.table (at_end l) ks) (λ l ks. without r.table ks) views a b c p p new tasks tasks_now now result passed_all second)

  -- ---- so many units

  module _ (units : ℕ) (some_units : 1 ≤ units) where
    -- what a step says, of any content
    abbrev Steps : Progress → Type 0
    Steps progress = (passed left : Entries) → IsCompacting a r.task passed left → HasPassed b task.compaction task.output units passed left progress

    abbrev step_some : (progress : Progress) → Steps progress → (passed left : Entries) → IsCompacting a r.task passed left → PassesSome b task passed left
    step_some progress has passed left is = record { more = take units left; rest = drop units left; parts = parted units left; compacting = (has passed left is).now }

    found : (l : Layout) (ks : List Task) → ServesTasks a p tasks l ks → (k : Task) × (running r.table ks ≡ Some k) × IsTaskOf a l r k
    found l ks serves = own_running a l r tasks ks at ready.ready.apart serves.tasks_are there

    -- **Keys are left, or just none: it goes on.**
    module _ (progress : Progress) (has : Steps progress) (few : (left : Entries) → task_.IsProgress units left progress → units ≤ length left) where
      counted : (l : Layout) (k : Task) → IsTaskOf a l r k → IsTaskOf b l (stepped r task) (record k { passed = k.passed + units })
      counted l k of =
          let is = has of.passed of.left of.compacting in
          own_task a b l r k of can_before task same (step_some progress has of.passed of.left of.compacting) (λ left. some_first units of.left some_units left) (k.passed + units)
          (omega (arith, first_count units of.left (few of.left is.progress_is)))

      not_ends : (l : Layout) (k : Task) → IsTaskOf a l r k → ends_in units l k ≡ false
      not_ends l k of =
          let is = has of.passed of.left of.compacting in
          let enough : units ≤ keys_left l k = omega (arith, few of.left is.progress_is, left_of a l r k of) in
          grind (arith, nat_tests, enough)

      pub step_goes_on : MakesTaskMoves (step_moves r.table units) (λ l ks. advanced r.table units l ks) views a b p p tasks tasks_now (Ok tt)
      step_goes_on =
          made_as (λ l ks. []) (step_moves r.table units) (λ l ks. going_on r.table (λ (k : Task). k.passed + units) ks) (λ l ks. advanced r.table units l ks) views a b p p tasks tasks_now (Ok tt)
          (λ l ks serves. (let k = found l ks serves in (step_moves_are r.table units l ks k.0 false k.1 (not_ends l k.0 k.2), not_ended r.table units l ks k.0 k.1 (not_ends l k.0 k.2))))
          (step_made a sound views p tasks ready at r there b change task same can (λ l k. k.passed + units) counted disk out)

    -- **A unit is left: it ends.**
    module _ (unused : ℕ) (has : Steps (Ready unused)) (one : 0 < unused) where
      few_left : (passed left : Entries) → IsCompacting a r.task passed left → length left < units
      few_left passed left is = (let ends : length left + unused ≡ units = (has passed left is).progress_is in omega (arith, ends, one))

      ends : (l : Layout) (k : Task) → IsTaskOf a l r k → ends_in units l k ≡ true
      ends l k of = (let less : keys_left l k < units = omega (arith, few_left of.passed of.left of.compacting, left_of a l r k of) in grind (arith, nat_tests, less))

      pub step_ends : (c : View) (new : Parts) (now : List RunningTask) (result : Result (Unit {0}) StepFault) → MakesTaskMoves (λ l ks. end_moves r.table ks) (λ l ks. without r.table ks) views b c p new tasks_now now result
          → MakesTaskMoves (step_moves r.table units) (λ l ks. advanced r.table units l ks) views a c p new tasks now result
      step_ends c new now result second =
          made_as (λ l ks. end_moves r.table ks) (step_moves r.table units) (λ l ks. without r.table ks) (λ l ks. advanced r.table units l ks) views a c p new tasks now result
          (λ l ks serves. (let k = found l ks serves in (step_moves_are r.table units l ks k.0 true k.1 (ends l k.0 k.2), ended a l r units tasks ks at k.0 ready.ready.apart serves.tasks_are there k.1 (ends l k.0 k.2))))
          (then_ended (step_some (Ready unused) has) (λ passed left is some. some_first units left some_units some)
          (λ passed left is. all_count units left (omega (arith, few_left passed left is))) c new now result second)

  -- **All keys are passed.**
  pub all_ended : ((passed left : Entries) → IsCompacting a r.task passed left → IsCompacting b task (passed ++ left) []) → (c : View) (new : Parts) (now : List RunningTask) (result : Result (Unit {0}) StepFault)
      → MakesTaskMoves (λ l ks. end_moves r.table ks) (λ l ks. without r.table ks) views b c p new tasks_now now result → MakesTaskMoves (λ l ks. end_moves r.table ks) (λ l ks. without r.table ks) views a c p new tasks now result
  all_ended passes = then_ended (λ passed left is. record { more = left; rest = []; parts = append-nil left; compacting = passes passed left is }) (λ passed left is some. some) (λ passed left is. refl)

-- ---- where the task stands

pub at_inside : (table : ℕ) (tasks : List RunningTask) (at : ℕ) → position (is_in table) tasks ≡ Some at → at < length tasks
at_inside table tasks at is = (let found = some_passes (is_in table) tasks at is in there_inside tasks at found.0 found.1)

pub at_table : (table : ℕ) (tasks : List RunningTask) (at : ℕ) (r : RunningTask) → position (is_in table) tasks ≡ Some at → slice_get tasks at ≡ Some r → r.table ≡ table
at_table table tasks at r is there =
    let found = some_passes (is_in table) tasks at is in
    let equal : Some r ≡ Some found.0 = sym there ∙ found.1 in
    let one : r ≡ found.0 = cc in
    let named : nat_eq r.table table ≡ true = ap (is_in table) one ∙ found.2 in
    grind (arith, nat_tests, named)

pub set_there : {A : Type 0} (xs : List A) (at : ℕ) (y : A) → at < length xs → slice_get (slice_set xs at y) at ≡ Some y
set_there [] at y inside = absurd (omega (arith, inside))
set_there (x ∷ xs) zero y inside = refl
set_there (x ∷ xs) (suc at) y inside = set_there xs at y (omega (arith, inside))
