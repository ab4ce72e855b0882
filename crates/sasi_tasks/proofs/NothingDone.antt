-- Calls that make no move, and no call on the host.
use Rattle.std.proofs.Common.{◌≡◌, List, [], Some, Result, Ok, Err, refl, sym, ap, subst, ◌∙◌, arith}
use Rattle.std.specs.FinMap.{get}
use Rattle.sasi_host.specs.Disk.{Changes, Same}
use Rattle.sasi_host.specs.Names.{Folder}
use Rattle.sasi_host.specs.View.{IsSound, View}
use Rattle.sasi_host.proofs.ChangeLaws.{changes_as, stays}
use Rattle.sasi_layout.proofs.Trails.{moves_none}
use Rattle.sasi_layout.specs.Layout.{Layout}
use Rattle.sasi_layout.specs.Moves.{Move, after_moves}
use Rattle.sasi_layout.specs.Spent.{spent}
use Rattle.sasi_layout.specs.declared.number_kind.NumberKind.{NumberKind}
use Rattle.sasi_tables.specs.Faults.{StepCauses}
use Rattle.sasi_tables.proofs.MoveCauses.{any_change, none_made}
use Rattle.sasi_tables.specs.declared.fault.StepFault.{StepFault}
use Rattle.sasi_tables.specs.declared.fault.StepFault.TheVariants as fault
use Rattle.sasi_tables.specs.declared.parts.Parts.{Parts}
use Rattle.sasi_tasks.specs.MakesTaskMoves.{CanGoOn, KeepsHeld, MakesTaskMoves, ServesTasks}
use Rattle.sasi_tasks.specs.Tasks.{Task}
use Rattle.sasi_tasks.specs.declared.running.RunningTask.{RunningTask}
use Rattle.sasi_views.specs.Books.{Book}

pub held_same : (v : View) (views : Book) → Changes (KeepsHeld views) v v
held_same v views = changes_as v v Same (KeepsHeld views) (stays v) (λ x y same name out. ap (λ (f : Folder). get f name) same)

abbrev done : Result (Unit {0}) StepFault
done = Ok tt

made : (e : StepFault) → done ≡ Err e → ⊥
made e is = cc

pub made_nowhere : (v : View) → StepCauses {T = Unit {0}} v v (Ok tt)
made_nowhere v = none_made v done (λ e is. absurd (made e is))

module _ (moves : Layout → List Task → List Move) (after : Layout → List Task → List Task) (views : Book) (v : View) (sound : IsSound v) (p : Parts) (was : List RunningTask) where
  -- there is nothing to do
  pub nothing_done : CanGoOn v views p was → ((l : Layout) (ks : List Task) → ServesTasks v p was l ks → (moves l ks ≡ []) × (after l ks ≡ ks)) → MakesTaskMoves moves after views v v p p was was (Ok tt)
  nothing_done ready none = record {
    any_moment = λ l ks serves. moves_none l v (moves l ks) sound (λ x now. (_, serves.serves.shape x now));
    serves = λ l ks serves. subst (λ (ms : List Move). ServesTasks v p was (after_moves ms l) (after l ks)) (sym (none l ks serves).0) (subst (ServesTasks v p was l) (sym (none l ks serves).1) serves);
    ready = ready;
    knows = record { definitions_are = refl; timestamp_is = refl };
    maps = record { maps_are = refl; tables_are = refl; last_is = refl; schema_is = refl };
    numbers_stay = omega arith;
    listed_stay = λ table f held place. place;
    unspent = λ l ks serves. ap (spent l) (none l ks serves).0;
    spent_is = tt;
    damaged = λ folder told. tt;
    undamaged = λ l ks serves. tt;
    present = tt;
    held = held_same v views;
    changes = any_change Same v v (stays v);
    known = λ kinds tables known. known;
    causes = made_nowhere v;
  }

  -- memory ran out before anything was done
  pub nothing_full : (new : Parts) (now : List RunningTask) → MakesTaskMoves moves after views v v p new was now (Err fault.OutOfMemory)
  nothing_full new now = record {
    any_moment = λ l ks serves. moves_none l v (moves l ks) sound (λ x is. (_, serves.serves.shape x is));
    serves = tt;
    ready = tt;
    knows = tt;
    maps = tt;
    numbers_stay = tt;
    listed_stay = tt;
    unspent = tt;
    spent_is = tt;
    damaged = λ folder told. tt;
    undamaged = λ l ks serves. tt;
    present = tt;
    held = held_same v views;
    changes = any_change Same v v (stays v);
    known = tt;
    causes = none_made v (Err fault.OutOfMemory) (λ e is same. (let one : fault.OutOfMemory ≡ e = cc in full_not_failed (one ∙ same)));
  }
    where
      full_not_failed : fault.OutOfMemory ≡ fault.Failed → ⊥
      full_not_failed is = cc

  -- or a number is spent that the moves need
  pub nothing_spent : (new : Parts) (now : List RunningTask) (kind : NumberKind) → ((l : Layout) (ks : List Task) → ServesTasks v p was l ks → spent l (moves l ks) ≡ Some kind) → MakesTaskMoves moves after views v v p new was now (Err (fault.NumbersSpent kind))
  nothing_spent new now kind needs = record {
    any_moment = λ l ks serves. moves_none l v (moves l ks) sound (λ x is. (_, serves.serves.shape x is));
    serves = tt;
    ready = tt;
    knows = tt;
    maps = tt;
    numbers_stay = tt;
    listed_stay = tt;
    unspent = tt;
    spent_is = needs;
    damaged = λ folder told. tt;
    undamaged = λ l ks serves. tt;
    present = tt;
    held = held_same v views;
    changes = any_change Same v v (stays v);
    known = tt;
    causes = none_made v (Err (fault.NumbersSpent kind)) (λ e is same. (let one : fault.NumbersSpent kind ≡ e = cc in spent_not_failed (one ∙ same)));
  }
    where
      spent_not_failed : fault.NumbersSpent kind ≡ fault.Failed → ⊥
      spent_not_failed is = cc
