-- The tasks of a layout where the next data number is drawn, and one comes behind the others.
use Rattle.std.proofs.Common.{List, [], ◌∷◌, ◌++◌}
use Rattle.sasi_host.specs.View.{View}
use Rattle.sasi_layout.proofs.StillRunning.{still_running}
use Rattle.sasi_layout.specs.Layout.{Layout}
use Rattle.sasi_layout.specs.Moves.{Draw, after_draw}
use Rattle.sasi_tasks.specs.Running.{AreTasksOf, IsTaskOf}
use Rattle.sasi_tasks.specs.Tasks.{Task}
use Rattle.sasi_tasks.specs.declared.running.RunningTask.{RunningTask}

-- a draw leaves them as they are
pub draw_tasks : (v : View) (l : Layout) (rs : List RunningTask) (ks : List Task) → AreTasksOf v l rs ks → AreTasksOf v (after_draw l) rs ks
draw_tasks v l [] [] are = tt
draw_tasks v l [] (k ∷ ks) are = absurd are
draw_tasks v l (r ∷ rs) [] are = absurd are
draw_tasks v l (r ∷ rs) (k ∷ ks) are = (one are.0, draw_tasks v l rs ks are.1)
  where
    one : IsTaskOf v l r k → IsTaskOf v (after_draw l) r k
    one is = record { is = is.is; runs = still_running k.compaction Draw l tt is.runs; passed = is.passed; left = is.left; compacting = is.compacting; passed_is = is.passed_is; whole = is.whole; begun = is.begun }

-- one more comes behind
pub tasks_behind : (v : View) (l : Layout) (rs : List RunningTask) (ks : List Task) (r : RunningTask) (k : Task) → AreTasksOf v l rs ks → IsTaskOf v l r k → AreTasksOf v l (rs ++ r ∷ []) (ks ++ k ∷ [])
tasks_behind v l [] [] r k are is = (is, tt)
tasks_behind v l [] (j ∷ ks) r k are is = absurd are
tasks_behind v l (s ∷ rs) [] r k are is = absurd are
tasks_behind v l (s ∷ rs) (j ∷ ks) r k are is = (are.0, tasks_behind v l rs ks r k are.1 is)
