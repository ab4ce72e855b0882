-- The files that cursors hold and that tasks write, in a store and in the world that it serves.
use Rattle.std.proofs.Common.{◌≡◌, ◌++◌, Bool, true, false, cond, List, [], ◌∷◌, map, nat_lt, is_some, Option, None, Some, refl, ap, ap₂}
use Rattle.std.specs.List.{filter, flat_map}
use Rattle.sasi_host.specs.declared.name.FileName.{FileName}
use Rattle.sasi_host.specs.Names.{data_name}
use Rattle.sasi_host.specs.View.{View}
use Rattle.sasi_compact.specs.declared.output.Output.{Output}
use Rattle.sasi_fetch.specs.Cursors.{view_of}
use Rattle.sasi_layout.specs.Compacting.{Compaction}
use Rattle.sasi_layout.specs.Layout.{Layout}
use Rattle.sasi_tasks.specs.Running.{AreTasksOf}
use Rattle.sasi_tasks.specs.Tasks.{Task}
use Rattle.sasi_tasks.specs.declared.running.RunningTask.{RunningTask}
use Rattle.sasi_views.specs.declared.part.Part.{Part}
use Rattle.sasi_store.specs.Cursors.{Opened, view_names, views_out, views_told}
use Rattle.sasi_store.specs.ToldFiles.{built_by, built_of}
use Rattle.sasi_store.specs.Worlds.{names_built, names_held}

-- **The files that are held are those of the cursors,**
pub names_out : (es : Opened) → names_held (views_told es) ≡ flat_map (λ (view : List Part). view_names view) (views_out es)
names_out [] = refl
names_out (e ∷ es) = ap (λ (names : List FileName). view_names (view_of e.1.rows) ++ names) (names_out es)

-- **and those that are built are those of the tasks.**
pub built_same : (v : View) (l : Layout) (rs : List RunningTask) (ks : List Task) → AreTasksOf v l rs ks → names_built ks ≡ built_of rs
built_same v l [] [] are = refl
built_same v l [] (k ∷ ks) are = absurd are
built_same v l (r ∷ rs) [] are = absurd are
built_same v l (r ∷ rs) (k ∷ ks) are = by r.task.output (nat_lt 0 k.passed) are.0.begun (built_same v l rs ks are.1)
  where
    started : List Task
    started = filter (λ (k : Task). nat_lt 0 k.passed) ks

    by : (o : Option Output) (b : Bool) → is_some o ≡ b → map (λ (k : Task). data_name k.compaction.output) started ≡ built_of rs
        → map (λ (k : Task). data_name k.compaction.output) (cond b (k ∷ started) started) ≡ built_by r.task.compaction.number o ++ built_of rs
    by None false is rest = rest
    by None true is rest = cc
    by (Some output) false is rest = cc
    by (Some output) true is rest = ap₂ (λ (name : FileName) (names : List FileName). name ∷ names) (ap (λ (c : Compaction). data_name c.output) are.0.is) rest
