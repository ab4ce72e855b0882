-- How a COMPACT ends: in what is left of a compaction, in a BEGIN COMPACT, or in what is left then.
use Rattle.std.proofs.Common.{ℕ, List, Ok, Err, Result, sym, subst}
use Rattle.std.specs.List.{AllByRecursion}
use Rattle.sasi_types.specs.declared.class.Class.{Class}
use Rattle.sasi_host.specs.View.{View}
use Rattle.sasi_layout.specs.Classes.{KnowsClasses, KnowsIndexes}
use Rattle.sasi_layout.specs.Layout.{Layout}
use Rattle.sasi_layout.specs.Moves.{Move}
use Rattle.sasi_tables.specs.TablesView.{memory_of}
use Rattle.sasi_tables.specs.declared.fault.StepFault.{StepFault}
use Rattle.sasi_tables.specs.declared.parts.Parts.{Parts}
use Rattle.sasi_views.specs.Books.{Book}
use Rattle.sasi_tasks.proofs.MovesAfterMoves.{both_moves, both_tasks, first_stopped, made_as, then_made}
use Rattle.sasi_tasks.proofs.WholeCompaction.{compact_both, compact_left, ends, others}
use Rattle.sasi_tasks.specs.MakesTaskMoves.{MakesTaskMoves}
use Rattle.sasi_tasks.specs.Running.{KnowsTasks}
use Rattle.sasi_tasks.specs.Tasks.{Task, begin_moves, compact_moves, tasks_begun}
use Rattle.sasi_tasks.specs.declared.running.RunningTask.{RunningTask}

module _ (views : Book) (table : ℕ) where
  abbrev end : Layout → List Task → List Move
  end = ends table

  abbrev rest : Layout → List Task → List Task
  rest = others table

  -- the second half of it
  abbrev again : Layout → List Task → List Move
  again = both_moves (begin_moves table) end (tasks_begun table)

  abbrev left : Layout → List Task → List Task
  left = both_tasks (begin_moves table) (tasks_begun table) rest

  as_whole : (a b : View) (old new : Parts) (was now : List RunningTask) (result : Result (Unit {0}) StepFault) → MakesTaskMoves (both_moves end again rest) (both_tasks end rest left) views a b old new was now result
      → MakesTaskMoves (compact_moves table) rest views a b old new was now result
  as_whole a b old new was now result made =
      made_as (both_moves end again rest) (compact_moves table) (both_tasks end rest left) rest views a b old new was now result (λ l ks serves. (compact_both table l ks, compact_left table l ks)) made

  -- in the first
  pub whole_first : (a b : View) (old new : Parts) (was now : List RunningTask) (e : StepFault) → MakesTaskMoves end rest views a b old new was now (Err e) → MakesTaskMoves (compact_moves table) rest views a b old new was now (Err e)
  whole_first a b old new was now e first = as_whole a b old new was now (Err e) (first_stopped end again rest left views a b old new was now e first)

  module _ (a b : View) (old mid : Parts) (was middle : List RunningTask) (first : MakesTaskMoves end rest views a b old mid was middle (Ok tt)) where
    -- in the second
    pub whole_second : (new : Parts) (now : List RunningTask) (e : StepFault) → MakesTaskMoves (begin_moves table) (tasks_begun table) views b b mid new middle now (Err e) → MakesTaskMoves (compact_moves table) rest views a b old new was now (Err e)
    whole_second new now e second =
        as_whole a b old new was now (Err e) (then_made end again rest left views a b b old mid new was middle now (Err e) first (first_stopped (begin_moves table) end (tasks_begun table) rest views b b mid new middle now e second))

    module _ (more : Parts) (then_some : List RunningTask) (second : MakesTaskMoves (begin_moves table) (tasks_begun table) views b b mid more middle then_some (Ok tt)) where
      -- in the third
      pub whole_third : (c : View) (new : Parts) (now : List RunningTask) (result : Result (Unit {0}) StepFault) → MakesTaskMoves end rest views b c more new then_some now result → MakesTaskMoves (compact_moves table) rest views a c old new was now result
      whole_third c new now result third =
          as_whole a c old new was now result (then_made end again rest left views a b c old mid new was middle now result first
          (then_made (begin_moves table) end (tasks_begun table) rest views b b c mid more new middle then_some now result second third))

      -- an analyzer is there for each index of the one that was begun
      pub known_then : (kinds : List Class) → KnowsClasses kinds (memory_of old) → KnowsTasks kinds was → KnowsTasks kinds then_some
      known_then kinds tables known = second.known kinds (subst (AllByRecursion (KnowsIndexes kinds)) (sym first.knows.definitions_are) tables) (first.known kinds tables known)
