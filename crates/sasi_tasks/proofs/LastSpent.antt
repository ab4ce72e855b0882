-- The last unit of a task as a move of a layout: which one it is, and which number it may spend.
use Rattle.std.proofs.Common.{◌≡◌, ◌∙◌, ◌-◌, ◌^◌, ℕ, Bool, true, false, nat_eq, if◌then◌else◌, List, [], ◌∷◌, slice_get, Option, None, Some, Err, refl, sym, ap}
use Rattle.std.specs.Option.{option_map_or}
use Rattle.sasi_host.specs.View.{IsSound, View}
use Rattle.sasi_layout.specs.Compacting.{Compaction, compact_parts}
use Rattle.sasi_layout.specs.Layout.{Layout, TableParts, Used, listed_of}
use Rattle.sasi_layout.specs.Moves.{Compact}
use Rattle.sasi_layout.specs.Spent.{draws, first_spent, is_too_long, part_draws, spent}
use Rattle.sasi_layout.specs.declared.number_kind.NumberKind.{NumberKind}
use Rattle.sasi_layout.specs.declared.number_kind.NumberKind.TheVariants as kinds
use Rattle.sasi_manifest.specs.ListedDefinition.{ListedDefinition}
use Rattle.sasi_manifest.specs.declared.listing.Listing.{Listing}
use Rattle.sasi_tables.proofs.Composition.{numbered_at}
use Rattle.sasi_tables.proofs.TablesInMemory.{all_at, seen_as}
use Rattle.sasi_tables.specs.declared.fault.StepFault.{StepFault}
use Rattle.sasi_tables.specs.declared.fault.StepFault.TheVariants as fault
use Rattle.sasi_tables.specs.declared.parts.Parts.{Parts}
use Rattle.sasi_tasks.proofs.LastTasks.{running_at}
use Rattle.sasi_tasks.proofs.NothingDone.{nothing_full, nothing_spent}
use Rattle.sasi_tasks.specs.MakesTaskMoves.{CanGoOn, MakesTaskMoves, ServesTasks}
use Rattle.sasi_tasks.specs.Running.{IsTaskOf, IsTaskReady, StopsParts, compaction_of}
use Rattle.sasi_tasks.specs.Tasks.{Task, end_moves, running, without}
use Rattle.sasi_tasks.specs.declared.running.RunningTask.{RunningTask}
use Rattle.sasi_views.specs.Books.{Book}

-- ---- numbers that are drawn

first_some : (ds : List (NumberKind × ℕ)) (other : Option NumberKind) (kind : NumberKind) → first_spent ds None ≡ Some kind → first_spent ds other ≡ Some kind
first_some [] other kind is = cc
first_some (d ∷ ds) other kind is = by (nat_eq d.1 (2 ^ 32 - 1)) is (first_some ds other kind)
  where
    by : (b : Bool) → (if b then Some d.0 else first_spent ds None) ≡ Some kind → (first_spent ds None ≡ Some kind → first_spent ds other ≡ Some kind) → (if b then Some d.0 else first_spent ds other) ≡ Some kind
    by true own rest = own
    by false behind rest = rest behind

first_none : (ds : List (NumberKind × ℕ)) (other : Option NumberKind) → first_spent ds None ≡ None → first_spent ds other ≡ other
first_none [] other none = refl
first_none (d ∷ ds) other none = by (nat_eq d.1 (2 ^ 32 - 1)) none (first_none ds other)
  where
    by : (b : Bool) → (if b then Some d.0 else first_spent ds None) ≡ None → (first_spent ds None ≡ None → first_spent ds other ≡ other) → (if b then Some d.0 else first_spent ds other) ≡ other
    by true own rest = cc
    by false behind rest = rest behind

module _ (a : View) (views : Book) (p : Parts) (tasks : List RunningTask) (at : ℕ) (r : RunningTask) (ready : CanGoOn a views p tasks) (there : slice_get tasks at ≡ Some r) where
  ready_task : IsTaskReady a p r
  ready_task = all_at (IsTaskReady a p) at tasks r ready.ready.each there

  abbrev drawn_parts : ListedDefinition → List (NumberKind × ℕ)
  drawn_parts row = part_draws p.numbers.part (compact_parts p.numbers.part (compaction_of r) row.numbers)

  module _ (l : Layout) (ks : List Task) (serves : ServesTasks a p tasks l ks) where
    -- the task of the layout
    pub task_found : (k : Task) × (running r.table ks ≡ Some k) × IsTaskOf a l r k
    task_found = running_at a l tasks ks at r ready.ready.apart serves.tasks_are there

    -- **The last unit is one move.**
    pub moves_are : end_moves r.table ks ≡ Compact (compaction_of r) ∷ []
    moves_are =
        ap (λ (o : Option Task). option_map_or (λ (k : Task). Compact k.compaction ∷ []) o []) task_found.1
        ∙ ap (λ (k : Compaction). Compact k ∷ []) task_found.2.is

    -- the table
    pub row_found : (row : ListedDefinition) → slice_get p.manifest.listing.tables (r.table - 1) ≡ Some row → (t : TableParts) × (slice_get l.tables (r.table - 1) ≡ Some t) × (listed_of t ≡ row)
    row_found row is = seen_as listed_of l.tables (r.table - 1) row (ap (λ (g : Listing). slice_get g.tables (r.table - 1)) (sym serves.serves.listing) ∙ is)

    draws_are : (row : ListedDefinition) → slice_get p.manifest.listing.tables (r.table - 1) ≡ Some row → draws l (Compact (compaction_of r)) ≡ drawn_parts row
    draws_are row is =
        let t = row_found row is in
        ap (λ (o : Option TableParts). part_draws l.used.part (option_map_or (λ (t : TableParts). compact_parts l.used.part (compaction_of r) t.numbers) o [])) (numbered_at r.table l.tables t.0 (all_at (IsTaskReady a p) at tasks r ready.ready.each there).some t.1)
        ∙ ap (λ (k : ListedDefinition). part_draws l.used.part (compact_parts l.used.part (compaction_of r) k.numbers)) t.2
        ∙ ap (λ (u : Used). part_draws u.part (compact_parts u.part (compaction_of r) row.numbers)) (sym serves.serves.used)

    spent_is : (row : ListedDefinition) → slice_get p.manifest.listing.tables (r.table - 1) ≡ Some row
        → spent l (end_moves r.table ks) ≡ first_spent (drawn_parts row) (if is_too_long l (Compact (compaction_of r)) then Some kinds.Record else None)
    spent_is row is = ap (spent l) moves_are ∙ ap (λ (ds : List (NumberKind × ℕ)). first_spent ds (if is_too_long l (Compact (compaction_of r)) then Some kinds.Record else None)) (draws_are row is)

    -- where a number is left for each part, its record may be too long
    pub spent_last : (row : ListedDefinition) → slice_get p.manifest.listing.tables (r.table - 1) ≡ Some row → first_spent (drawn_parts row) None ≡ None
        → spent l (end_moves r.table ks) ≡ (if is_too_long l (Compact (compaction_of r)) then Some kinds.Record else None)
    spent_last row is none = spent_is row is ∙ first_none (drawn_parts row) (if is_too_long l (Compact (compaction_of r)) then Some kinds.Record else None) none

    spent_part : (row : ListedDefinition) → slice_get p.manifest.listing.tables (r.table - 1) ≡ Some row → (kind : NumberKind) → first_spent (drawn_parts row) None ≡ Some kind → spent l (end_moves r.table ks) ≡ Some kind
    spent_part row is kind some = spent_is row is ∙ first_some (drawn_parts row) (if is_too_long l (Compact (compaction_of r)) then Some kinds.Record else None) kind some

  -- **The parts can't be drawn.**
  pub draw_stopped : IsSound a → (f : StepFault) → ((row : ListedDefinition) → slice_get p.manifest.listing.tables (r.table - 1) ≡ Some row → StopsParts p.numbers.part (compaction_of r) row.numbers f)
      → MakesTaskMoves (λ l ks. end_moves r.table ks) (λ l ks. without r.table ks) views a a p p tasks tasks (Err f)
  unfolding ready_task
  draw_stopped sound fault.Failed stops = absurd (stops ready_task.row ready_task.there)
  draw_stopped sound fault.OutOfMemory stops = nothing_full (λ l ks. end_moves r.table ks) (λ l ks. without r.table ks) views a sound p tasks p tasks
  draw_stopped sound (fault.Damaged damage) stops = absurd (stops ready_task.row ready_task.there)
  draw_stopped sound (fault.NumbersSpent kind) stops =
      nothing_spent (λ l ks. end_moves r.table ks) (λ l ks. without r.table ks) views a sound p tasks p tasks kind
      (λ l ks serves. spent_part l ks serves ready_task.row ready_task.there kind (stops ready_task.row ready_task.there))
  draw_stopped sound (fault.AnalyzerMissing class) stops = absurd (stops ready_task.row ready_task.there)

  -- **There is no memory for the names.**
  pub names_stopped : IsSound a → MakesTaskMoves (λ l ks. end_moves r.table ks) (λ l ks. without r.table ks) views a a p p tasks tasks (Err fault.OutOfMemory)
  names_stopped sound = nothing_full (λ l ks. end_moves r.table ks) (λ l ks. without r.table ks) views a sound p tasks p tasks
