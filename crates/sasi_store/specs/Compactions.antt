-- What a statement asks of the compaction of a table.
use Rattle.std.specs.Prelude.{◌≤◌, ℕ, List, ⊤}
use Rattle.sasi_layout.specs.Layout.{Layout}
use Rattle.sasi_layout.specs.Moves.{Move}
use Rattle.sasi_machine.specs.declared.prepared.CompactAsked.{CompactAsked}
use Rattle.sasi_machine.specs.declared.prepared.CompactSteps.{CompactSteps}
use Rattle.sasi_machine.specs.declared.prepared.CompactSteps.TheVariants.{Begin, Units, Whole}
use Rattle.sasi_tasks.specs.Tasks.{Task, advanced, begin_moves, compact_moves, step_moves, tasks_begun, without}

-- one unit at least
abbrev pub AreSome : CompactSteps → Type 0
AreSome Whole = ⊤
AreSome Begin = ⊤
AreSome (Units units) = 1 ≤ units

abbrev pub IsAsked : CompactAsked → Type 0
IsAsked asked = AreSome asked.steps

abbrev pub moves_for : ℕ → CompactSteps → Layout → List Task → List Move
moves_for table Whole l tasks = compact_moves table l tasks
moves_for table Begin l tasks = begin_moves table l tasks
moves_for table (Units units) l tasks = step_moves table units l tasks

-- the moves that it makes
abbrev pub moves_asked : CompactAsked → Layout → List Task → List Move
moves_asked asked = moves_for asked.table asked.steps

abbrev pub tasks_for : ℕ → CompactSteps → Layout → List Task → List Task
tasks_for table Whole l tasks = without table tasks
tasks_for table Begin l tasks = tasks_begun table l tasks
tasks_for table (Units units) l tasks = advanced table units l tasks

-- and the tasks that run afterwards
abbrev pub tasks_asked : CompactAsked → Layout → List Task → List Task
tasks_asked asked = tasks_for asked.table asked.steps
