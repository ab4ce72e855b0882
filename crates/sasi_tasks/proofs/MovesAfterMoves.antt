-- Moves of tasks after moves, and moves that are those of other statements.
use Rattle.std.proofs.Common.{◌≡◌, ◌≤◌, ℕ, List, ◌++◌, Some, Result, Ok, Err, sym, ap, subst, ◌∙◌, arith}
use Rattle.std.specs.Prelude.{IfErr, OnOk}
use Rattle.std.specs.List.{AllByRecursion}
use Rattle.sasi_host.proofs.ChangeLaws.{changes_on}
use Rattle.sasi_host.specs.Disk.{Changes}
use Rattle.sasi_host.specs.View.{FailedAtLast, View}
use Rattle.sasi_layout.proofs.LayoutLaws.{moves_both}
use Rattle.sasi_tasks.proofs.SpentLaws.{spent_before, spent_behind}
use Rattle.sasi_layout.proofs.Trails.{moves_early, moves_on}
use Rattle.sasi_layout.specs.Between.{Between}
use Rattle.sasi_layout.specs.Classes.{KnowsIndexes}
use Rattle.sasi_layout.specs.Layout.{Layout}
use Rattle.sasi_layout.specs.Moves.{Move, after_moves}
use Rattle.sasi_layout.specs.Spent.{spent}
use Rattle.sasi_layout.specs.declared.number_kind.NumberKind.{NumberKind}
use Rattle.sasi_recover.specs.OpenedFolder.{AnyFolderChange}
use Rattle.sasi_tables.specs.Faults.{OnSpent, StepCauses}
use Rattle.sasi_tables.specs.declared.fault.StepFault.{StepFault}
use Rattle.sasi_tables.specs.declared.fault.StepFault.TheVariants as fault
use Rattle.sasi_tables.specs.declared.parts.Parts.{Parts}
use Rattle.sasi_views.specs.Books.{Book}
use Rattle.sasi_tasks.specs.MakesTaskMoves.{KeepsHeld, MakesTaskMoves, ServesTasks}
use Rattle.sasi_tasks.specs.Tasks.{Task}
use Rattle.sasi_tasks.specs.declared.running.RunningTask.{RunningTask}

by_ok : {P Q : Type 0} (r : Result (Unit {0}) StepFault) → (P → Q) → OnOk r P → OnOk r Q
by_ok (Ok y) f p = f p
by_ok (Err e) f p = tt

by_fault : (P Q : NumberKind → Type 0) → ((kind : NumberKind) → P kind → Q kind) → (e : StepFault) → OnSpent P e → OnSpent Q e
by_fault P Q f fault.Failed is = tt
by_fault P Q f fault.OutOfMemory is = tt
by_fault P Q f (fault.Damaged damage) is = tt
by_fault P Q f (fault.NumbersSpent kind) is = f kind is
by_fault P Q f (fault.AnalyzerMissing class) is = tt

by_spent : (P Q : NumberKind → Type 0) → ((kind : NumberKind) → P kind → Q kind) → (r : Result (Unit {0}) StepFault) → IfErr r (OnSpent P) → IfErr r (OnSpent Q)
by_spent P Q f (Ok y) is = tt
by_spent P Q f (Err e) is = by_fault P Q f e is

-- further causes; belongs in sasi_tables
causes_on : {T U : Type 0} (a b c : View) (x : T) (result : Result U StepFault) → StepCauses {T = T} a b (Ok x) → StepCauses b c result → StepCauses a c result
causes_on a b c x (Ok y) first second = record { disk = omega (arith, first.disk, second.disk); out = second.out ∙ first.out; ok = second.ok ∙ first.ok; failed = tt; others = tt }
causes_on a b c x (Err e) first second = record {
  disk = omega (arith, first.disk, second.disk);
  out = second.out ∙ first.out;
  ok = tt;
  failed = λ same. subst (λ (n : ℕ). FailedAtLast n c.disk_faults c.failed_last) first.ok (second.failed same);
  others = λ other. second.others other ∙ first.ok;
}

-- ---- after one another

-- the moves of the first, and then those of the second where the first left the layout and its tasks
abbrev pub both_moves : (Layout → List Task → List Move) → (Layout → List Task → List Move) → (Layout → List Task → List Task) → Layout → List Task → List Move
both_moves m n f l ks = m l ks ++ n (after_moves (m l ks) l) (f l ks)

-- and the tasks then
abbrev pub both_tasks : (Layout → List Task → List Move) → (Layout → List Task → List Task) → (Layout → List Task → List Task) → Layout → List Task → List Task
both_tasks m f h l ks = h (after_moves (m l ks) l) (f l ks)

module _ (m n : Layout → List Task → List Move) (f h : Layout → List Task → List Task) (views : Book) where
  -- the first ones weren't all made
  pub first_stopped : (a b : View) (old new : Parts) (was now : List RunningTask) (e : StepFault) → MakesTaskMoves m f views a b old new was now (Err e) → MakesTaskMoves (both_moves m n f) (both_tasks m f h) views a b old new was now (Err e)
  first_stopped a b old new was now e first = record {
    any_moment = λ l ks serves. moves_early l a b (m l ks) (n (after_moves (m l ks) l) (f l ks)) (first.any_moment l ks serves);
    serves = tt;
    ready = tt;
    knows = tt;
    maps = tt;
    numbers_stay = tt;
    listed_stay = tt;
    unspent = tt;
    spent_is = by_fault (λ kind. (l : Layout) (ks : List Task) → ServesTasks a old was l ks → spent l (m l ks) ≡ Some kind) (λ kind. (l : Layout) (ks : List Task) → ServesTasks a old was l ks → spent l (both_moves m n f l ks) ≡ Some kind)
        (λ kind is l ks serves. spent_before (m l ks) (n (after_moves (m l ks) l) (f l ks)) l kind (is l ks serves)) e first.spent_is;
    damaged = first.damaged;
    undamaged = first.undamaged;
    present = first.present;
    held = first.held;
    changes = first.changes;
    known = tt;
    causes = first.causes;
  }

  -- **They were, and further ones come.**
  pub then_made : (a b c : View) (old mid new : Parts) (was middle now : List RunningTask) (result : Result (Unit {0}) StepFault) → MakesTaskMoves m f views a b old mid was middle (Ok tt) → MakesTaskMoves n h views b c mid new middle now result
      → MakesTaskMoves (both_moves m n f) (both_tasks m f h) views a c old new was now result
  then_made a b c old mid new was middle now result first second = record {
    any_moment = λ l ks serves. moves_on l a b c (m l ks) (n (after_moves (m l ks) l) (f l ks)) (first.any_moment l ks serves) (second.any_moment (after_moves (m l ks) l) (f l ks) (first.serves l ks serves));
    serves = by_ok result (λ all l ks serves. subst (λ (e : Layout). ServesTasks c new now e (both_tasks m f h l ks)) (sym (moves_both (m l ks) (n (after_moves (m l ks) l) (f l ks)) l)) (all (after_moves (m l ks) l) (f l ks) (first.serves l ks serves))) second.serves;
    ready = second.ready;
    knows = by_ok result (λ knows. record { definitions_are = knows.definitions_are ∙ first.knows.definitions_are; timestamp_is = knows.timestamp_is ∙ first.knows.timestamp_is }) second.knows;
    maps = by_ok result (λ maps. record { maps_are = maps.maps_are ∙ first.maps.maps_are; tables_are = maps.tables_are ∙ first.maps.tables_are; last_is = maps.last_is ∙ first.maps.last_is; schema_is = maps.schema_is ∙ first.maps.schema_is }) second.maps;
    numbers_stay = by_ok result (λ more. (let before : old.numbers.«data» ≤ mid.numbers.«data» = first.numbers_stay in let behind : mid.numbers.«data» ≤ new.numbers.«data» = more in omega (arith, before, behind))) second.numbers_stay;
    listed_stay = by_ok result (λ keeps table f held place. keeps table f held (first.listed_stay table f held place)) second.listed_stay;
    unspent = by_ok result (λ all l ks serves. spent_behind (m l ks) (n (after_moves (m l ks) l) (f l ks)) l (first.unspent l ks serves) ∙ all (after_moves (m l ks) l) (f l ks) (first.serves l ks serves)) second.unspent;
    spent_is = by_spent (λ kind. (l : Layout) (ks : List Task) → ServesTasks b mid middle l ks → spent l (n l ks) ≡ Some kind) (λ kind. (l : Layout) (ks : List Task) → ServesTasks a old was l ks → spent l (both_moves m n f l ks) ≡ Some kind)
        (λ kind is l ks serves. spent_behind (m l ks) (n (after_moves (m l ks) l) (f l ks)) l (first.unspent l ks serves) ∙ is (after_moves (m l ks) l) (f l ks) (first.serves l ks serves)) result second.spent_is;
    damaged = second.damaged;
    undamaged = λ l ks serves. second.undamaged (after_moves (m l ks) l) (f l ks) (first.serves l ks serves);
    present = second.present;
    held = changes_on a b c (KeepsHeld views) (KeepsHeld views) (KeepsHeld views) first.held second.held (λ x y s. s) (λ x y z s t name out. t name out ∙ s name out);
    changes = changes_on a b c AnyFolderChange AnyFolderChange AnyFolderChange first.changes second.changes (λ x y s. tt) (λ x y z s t. tt);
    known = by_ok result (λ all kinds tables known. all kinds (subst (AllByRecursion (KnowsIndexes kinds)) (sym first.knows.definitions_are) tables) (first.known kinds tables known)) second.known;
    causes = causes_on a b c tt result first.causes second.causes;
  }

-- ---- moves that are the same wherever the store serves

module _ (m n : Layout → List Task → List Move) (f h : Layout → List Task → List Task) (views : Book) (a b : View) (old new : Parts) (was now : List RunningTask) (result : Result (Unit {0}) StepFault) where
  pub made_as : ((l : Layout) (ks : List Task) → ServesTasks a old was l ks → (n l ks ≡ m l ks) × (h l ks ≡ f l ks)) → MakesTaskMoves m f views a b old new was now result → MakesTaskMoves n h views a b old new was now result
  made_as same made = record {
    any_moment = λ l ks serves. subst (λ (ms : List Move). Changes (λ x y. Between l ms y) a b) (sym (same l ks serves).0) (made.any_moment l ks serves);
    serves = by_ok result (λ all l ks serves. subst (λ (ms : List Move). ServesTasks b new now (after_moves ms l) (h l ks)) (sym (same l ks serves).0) (subst (λ (xs : List Task). ServesTasks b new now (after_moves (m l ks) l) xs) (sym (same l ks serves).1) (all l ks serves))) made.serves;
    ready = made.ready;
    knows = made.knows;
    maps = made.maps;
    numbers_stay = made.numbers_stay;
    listed_stay = made.listed_stay;
    unspent = by_ok result (λ all l ks serves. ap (spent l) (same l ks serves).0 ∙ all l ks serves) made.unspent;
    spent_is = by_spent (λ kind. (l : Layout) (ks : List Task) → ServesTasks a old was l ks → spent l (m l ks) ≡ Some kind) (λ kind. (l : Layout) (ks : List Task) → ServesTasks a old was l ks → spent l (n l ks) ≡ Some kind)
        (λ kind is l ks serves. ap (spent l) (same l ks serves).0 ∙ is l ks serves) result made.spent_is;
    damaged = made.damaged;
    undamaged = made.undamaged;
    present = made.present;
    held = made.held;
    changes = made.changes;
    known = made.known;
    causes = made.causes;
  }
