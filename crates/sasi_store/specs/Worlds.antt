-- What a run goes through: a layout, a session and tasks, and what a piece makes of them.
use Rattle.std.specs.Prelude.{◌≡◌, ◌-◌, ◌^◌, ℕ, nat_lt, Bool, not, if◌then◌else◌, length, map, min, List, [], ◌∷◌, ◌++◌, slice_get, Option, None, Some, refl}
use Rattle.std.specs.List.{filter, flat_map, list_any}
use Rattle.std.specs.Option.{option_map_or}
use Rattle.sasi_host.specs.View.{View}
use Rattle.sasi_model.specs.Filters.{row_limit, where_of}
use Rattle.sasi_model.specs.Parsers.{Parser, grammar_parser}
use Rattle.sasi_model.specs.Pieces.{Piece}
use Rattle.sasi_model.specs.Refusals.{ParsedPiece, Refusal, Says, read_by}
use Rattle.sasi_model.specs.Sessions.{CheckedTail, NoTail, SessionState, Told, count_asked, new_session, refused_by, reply_by, rows_given, session_by, tail_bytes, without_cursor}
use Rattle.sasi_model.specs.Tokens.{same}
use Rattle.sasi_schema.specs.Numbers.{number_of_table}
use Rattle.sasi_types.specs.declared.statement.Statement.TheVariants.{BeginCompact, CloseCursor, Compact, OpenCursor, Query, StepCompact}
use Rattle.sasi_host.specs.Names.{data_name, name_eq}
use Rattle.sasi_host.specs.declared.name.FileName.{FileName}
use Rattle.sasi_layout.specs.FileNames.{file_names}
use Rattle.sasi_layout.specs.Layout.{File, Layout, TableParts, state_of}
use Rattle.sasi_layout.specs.Moves.{Move, after_moves}
use Rattle.sasi_layout.specs.Serving.{Serves}
use Rattle.sasi_layout.specs.Statements.{definitions_of, moves_by}
use Rattle.sasi_layout.specs.Transitions.{Transitions}
use Rattle.sasi_manifest.specs.ListedFiles.{names_of}
use Rattle.sasi_machine.specs.Prepares.{rows_asked}
use Rattle.sasi_machine.specs.declared.prepared.FetchAsked.{FetchAsked}
use Rattle.sasi_machine.specs.declared.prepared.OpenAsked.{OpenAsked}
use Rattle.sasi_machine.specs.declared.prepared.Selection.{Selection}
use Rattle.sasi_candidates.specs.Checks.{checked}
use Rattle.sasi_candidates.specs.LayoutParts.{parts_of}
use Rattle.sasi_print.specs.Files.{file_text}
use Rattle.sasi_store.specs.ToldFiles.{sorted_told}
use Rattle.sasi_store.specs.declared.show_files.ToldFile.{ToldFile}
use Rattle.sasi_store.specs.Selects.{conditions_on}
use Rattle.sasi_tables.specs.Freezing.{freeze_where}
use Rattle.sasi_tables.specs.TablesView.{memory_of}
use Rattle.sasi_tasks.specs.Running.{AreTasksOf}
use Rattle.sasi_tasks.specs.Tasks.{Task, advanced, begin_moves, compact_moves, step_moves, tasks_begun, without}
use Rattle.sasi_store.specs.Cursors.{AreCursorsOf, views_told}
use Rattle.sasi_tables.specs.declared.parts.Parts.{Parts}
use Rattle.sasi_store.specs.declared.session_state.SessionState.{SessionState as StoreSession}
use Rattle.sasi_store.specs.declared.store.Store.{Store}

pub record World : Type 0 where
  pub layout : Layout
  pub session : SessionState
  -- the files that each open cursor holds, under its name
  pub views : List (List ℕ × List FileName)
  -- the compactions that run, in the order in which they were begun
  pub tasks : List Task

-- a layout at the start of a run
abbrev pub new_world : Layout → World
new_world l = record { layout = l; session = new_session; views = []; tasks = [] }

-- ---- candidates

-- **How many candidates a SELECT checks** in a table of a layout: the count stays at 2^64 - 1
abbrev pub selection_checks : Layout → Selection → ℕ
selection_checks l rows =
    option_map_or (λ (t : TableParts). min (checked (row_limit rows.select.limit) (where_of (conditions_on t rows.select)) (parts_of t)) (2 ^ 64 - 1)) (slice_get l.tables (rows.table - 1)) 0

-- how many a piece checks: a SELECT those in the table that it names, and any other none
abbrev pub piece_checks : Layout → ParsedPiece → ℕ
piece_checks l (Says (Query select)) = option_map_or (λ number. selection_checks l (record { table = number; select = select })) (number_of_table select.table (definitions_of l)) 0
piece_checks l parsed = 0

-- this number alone is told
abbrev pub told_checked : ℕ → Told
told_checked n = record { checked = n; files = [] }

-- what the reply of a SELECT ends with, where TRACE is on or off
abbrev pub rows_tail : Bool → ℕ → List ℕ
rows_tail trace n = tail_bytes (if trace then CheckedTail else NoTail) (told_checked n)

-- ---- files

-- how many of the cursors hold the file
abbrev pub pinned : FileName → List (List ℕ × List FileName) → ℕ
pinned name views = length (filter (λ (view : List ℕ × List FileName). list_any (name_eq name) view.1) views)

-- the files that the cursors hold
abbrev pub names_held : List (List ℕ × List FileName) → List FileName
names_held views = flat_map (λ (view : List ℕ × List FileName). view.1) views

-- the files of tasks that have done a unit
abbrev pub names_built : List Task → List FileName
names_built tasks = map (λ (k : Task). data_name k.compaction.output) (filter (λ (k : Task). nat_lt 0 k.passed) tasks)

-- **What SHOW FILES tells of a layout**: each data and index file that it has, that a cursor holds, or that a task writes, where it stands, and how many cursors hold it
abbrev pub file_texts : List (List ℕ × List FileName) → List Task → Layout → List (List ℕ)
file_texts views tasks l = map (λ (f : ToldFile). file_text f.name f.state (pinned f.name views)) (sorted_told (file_names l) (names_held views) (names_built tasks))

-- what is told of a world in the reply to a piece
abbrev pub told_in : World → ParsedPiece → Told
told_in w parsed = record { checked = piece_checks w.layout parsed; files = file_texts w.views w.tasks w.layout }

-- ---- cursors

-- the files that the table with this number has
abbrev pub table_names : Layout → ℕ → List FileName
table_names l number = option_map_or (λ (t : TableParts). flat_map names_of (map (λ (f : File). f.listed) t.files)) (slice_get l.tables (number - 1)) []

-- The files that are held after a piece that isn't refused: an OPEN holds those of its table, and a CLOSE none any more.
abbrev pub views_after : Layout → ParsedPiece → List (List ℕ × List FileName) → List (List ℕ × List FileName)
views_after l (Says (OpenCursor cursor select)) views = views ++ (cursor, option_map_or (table_names l) (number_of_table select.table (definitions_of l)) []) ∷ []
views_after l (Says (CloseCursor cursor)) views = filter (λ (view : List ℕ × List FileName). not (same cursor view.0)) views
views_after l parsed views = views

-- the move of an OPEN that isn't refused: its table's memtable is frozen where it holds anything
abbrev pub opening_moves : Layout → ParsedPiece → List Move
opening_moves l (Says (OpenCursor cursor select)) = option_map_or (λ number. freeze_where number l) (number_of_table select.table (definitions_of l)) []
opening_moves l parsed = []

-- ---- tasks

-- what is made of the table that a statement names, if it is there
abbrev pub of_named : {A : Type 0} → List ℕ → Layout → A → (ℕ → A) → A
of_named table l none ask = option_map_or ask (number_of_table table (definitions_of l)) none

-- The moves of a piece that asks for compactions and isn't refused
abbrev pub task_moves : Layout → List Task → ParsedPiece → List Move
task_moves l tasks (Says (Compact table)) = of_named table l [] (λ n. compact_moves n l tasks)
task_moves l tasks (Says (BeginCompact table)) = of_named table l [] (λ n. begin_moves n l tasks)
task_moves l tasks (Says (StepCompact table units)) = of_named table l [] (λ n. step_moves n (count_asked units) l tasks)
task_moves l tasks parsed = []

-- and the tasks that run afterwards
abbrev pub tasks_after : Layout → ParsedPiece → List Task → List Task
tasks_after l (Says (Compact table)) tasks = of_named table l tasks (λ n. without n tasks)
tasks_after l (Says (BeginCompact table)) tasks = of_named table l tasks (λ n. tasks_begun n l tasks)
tasks_after l (Says (StepCompact table units)) tasks = of_named table l tasks (λ n. advanced n (count_asked units) l tasks)
tasks_after l parsed tasks = tasks

-- a refused piece does nothing
abbrev pub unless_refused : {A : Type 0} → Option Refusal → A → A → A
unless_refused None taken left = taken
unless_refused (Some r) taken left = left

-- the world in which a cursor was opened that no rule refuses: its rows are those that the SELECT has
abbrev pub opened_world : OpenAsked → World → World
opened_world asked w = record {
  layout = after_moves (freeze_where asked.rows.table w.layout) w.layout;
  session = record w.session { cursors = w.session.cursors ++ record { name = asked.cursor; rows = rows_asked (state_of w.layout) asked.rows } ∷ [] };
  views = w.views ++ (asked.cursor, table_names w.layout asked.rows.table) ∷ [];
  tasks = w.tasks;
}

-- that in which one has given its first rows
abbrev pub fetched_world : FetchAsked → World → World
fetched_world asked w = record w { session = record w.session { cursors = rows_given asked.cursor asked.count w.session.cursors } }

-- that in which one was closed
abbrev pub closed_world : List ℕ → World → World
closed_world name w = record w { session = record w.session { cursors = without_cursor name w.session.cursors }; views = filter (λ (view : List ℕ × List FileName). not (same name view.0)) w.views }

-- ---- steps

-- the moves that a piece makes which isn't refused, for its cursor or its tasks
abbrev pub session_moves : World → ParsedPiece → List Move
session_moves w parsed = opening_moves w.layout parsed ++ task_moves w.layout w.tasks parsed

-- the moves of a piece
abbrev pub moves_in : Parser → World → Piece → List Move
moves_in parser w piece = unless_refused (refused_by parser w.session (state_of w.layout) piece) (session_moves w (read_by parser piece)) [] ++ moves_by parser w.layout piece

-- the files that are held after it
abbrev pub views_by : Parser → World → Piece → List (List ℕ × List FileName)
views_by parser w piece = unless_refused (refused_by parser w.session (state_of w.layout) piece) (views_after w.layout (read_by parser piece) w.views) w.views

-- the tasks that run after it
abbrev pub tasks_by : Parser → World → Piece → List Task
tasks_by parser w piece = unless_refused (refused_by parser w.session (state_of w.layout) piece) (tasks_after w.layout (read_by parser piece) w.tasks) w.tasks

-- By a parser: the moves are those of the layout. The reply is the model's at its state and session; where its tail tells of the candidates or of the files, they are those of the layout, and the cursors that hold them.
abbrev pub steps_by : Parser → Transitions World
steps_by parser = record {
  layout = λ w. w.layout;
  moves = λ w piece. moves_in parser w piece;
  after = λ w piece. record {
    layout = after_moves (moves_in parser w piece) w.layout;
    session = session_by parser w.session (state_of w.layout) piece;
    views = views_by parser w piece;
    tasks = tasks_by parser w piece;
  };
  reply = λ w piece. reply_by parser w.session (state_of w.layout) piece (told_in w (read_by parser piece));
  layout_is = λ w piece. refl;
}

abbrev pub steps : Transitions World
steps = steps_by grammar_parser

-- ---- stores

-- A store with these parts and this session serves the world: TRACE is on where it is in the world, the open cursors are those of the world, with the rows that they have left and the files that they hold, and so are the tasks, with the keys that they have passed.
pub record PartsServe (v : View) (p : Parts) (session : StoreSession) (w : World) : Type 0 where
  pub serves : Serves v (memory_of p) w.layout
  pub trace_is : session.trace ≡ w.session.trace
  pub cursors_are : AreCursorsOf v.files p.maps session.cursors w.session
  pub views_are : w.views ≡ views_told session.cursors
  pub tasks_are : AreTasksOf v w.layout session.tasks.items w.tasks

-- the store serves the world
abbrev pub ServesWorld : View → Store → World → Type 0
ServesWorld v store w = PartsServe v store.parts store.session w
