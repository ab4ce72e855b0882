-- What a piece prepares: an answer alone, a new table, a new index, a mutation, a flush, steps of compactions, rows to print, or TRACE.
use Rattle.std.specs.Prelude.{◌≡◌, ◌⊎◌, ℕ, if◌then◌else◌, ◌+◌, ◌-◌, ◌<◌, ◌≤◌, Bool, List, Option, length, slice_get, [], IsSome, None, Some, true, ⊤}
use Rattle.std.specs.FinMap as map_
use Rattle.std.specs.Option.{option_map_or}
use Rattle.sasi_types.specs.declared.column.ColumnType.{ColumnType}
use Rattle.sasi_types.specs.declared.literal.Number.{Number}
use Rattle.sasi_types.specs.declared.statement.Select.{Select}
use Rattle.sasi_types.specs.declared.statement.Statement.{Statement}
use Rattle.sasi_types.specs.declared.value.Value.{Value}
use Rattle.sasi_types.specs.declared.statement.Statement.TheVariants.{CreateTable, CreateIndex, OpenCursor, Fetch, CloseCursor, Flush, Compact, BeginCompact, StepCompact, Query, ShowFiles, Trace}
use Rattle.sasi_cells.specs.declared.mutation.Mutation.{Mutation}
use Rattle.sasi_cells.specs.Mutations.{state_with_mutation}
use Rattle.sasi_schema.specs.Defined.{definition}
use Rattle.sasi_schema.specs.IndexFacts.{IsIndexIn}
use Rattle.sasi_schema.specs.Numbers.{number_of_table}
use Rattle.sasi_schema.specs.SchemaViews.{IsNewIndex, SchemaView, index_of_new, numbered_def}
use Rattle.sasi_schema.specs.declared.index.NewIndex.{NewIndex}
use Rattle.sasi_schema.specs.declared.table.Table.{Table}
use Rattle.sasi_model.specs.Pieces.{Piece}
use Rattle.sasi_model.specs.State as model
use Rattle.sasi_model.specs.State.{Definition, State, definition_of}
use Rattle.sasi_model.specs.Asked as ask
use Rattle.sasi_model.specs.Asked.{Asked, parsed_asks}
use Rattle.sasi_model.specs.Abbreviations.{definitions, first_refusal, new_definition}
use Rattle.sasi_model.specs.Changes.{state_with_index, with_new_table}
use Rattle.sasi_model.specs.Refusals.{Known, Nothing, answer_rules, ParsedPiece, Says, is_built, is_count, known_of, read, refusal}
use Rattle.sasi_model.specs.Sessions.{count_asked}
use Rattle.sasi_model.specs.Step.{answer_of, rows_selected, select_lines, select_rows, step}
use Rattle.sasi_model.specs.Stored.{IsBodyOf, column_types}
use Rattle.sasi_model.specs.WellFormed.{IsWellFormed, IsWellFormedSelect}
use Rattle.sasi_machine.specs.Operands.{CanSelect}
use Rattle.sasi_machine.specs.Outcome.{outcome_of}
use Rattle.sasi_machine.specs.StatementSteps.{StatementStepsTo}
use Rattle.sasi_machine.specs.Writes.{IsWrite, IsWriting}
use Rattle.sasi_machine.specs.declared.outcome.Outcome.{Outcome}
use Rattle.sasi_machine.specs.declared.prepared.Prepared.{Prepared}
use Rattle.sasi_machine.specs.declared.prepared.Prepared.TheVariants.{Answered, Create, Define, Write as Writes, Flush as Flushes, Compact as Compacts, Select as Selects, Trace as Traces, Files as ListsFiles, Open as Opens, Fetch as Fetches, Close as Closes}
use Rattle.sasi_machine.specs.declared.prepared.CompactAsked.{CompactAsked}
use Rattle.sasi_machine.specs.declared.prepared.CompactSteps.{CompactSteps}
use Rattle.sasi_machine.specs.declared.prepared.CompactSteps.TheVariants.{Whole, Begin, Units}
use Rattle.sasi_machine.specs.declared.prepared.FetchAsked.{FetchAsked}
use Rattle.sasi_machine.specs.declared.prepared.OpenAsked.{OpenAsked}
use Rattle.sasi_machine.specs.declared.prepared.Selection.{Selection}

-- what is known of a state with this schema and this largest timestamp
abbrev pub known_by : SchemaView → ℕ → Known
known_by schema max_timestamp = record { tables = schema.definitions; max_timestamp = max_timestamp }

-- what is prepared depends on no more of a state than what is known of it
abbrev pub IsStateOf : Known → State → Type 0
IsStateOf known s = known_of s ≡ known

-- ---- what can be done to a state

-- the table has the next number, and its name is free
pub record IsNewTable (s : State) (t : Table) : Type 0 where
  pub number : t.number ≡ length s.tables + 1
  pub free : definition_of t.name (definitions s.tables) ≡ None

-- the table of the mutation exists, and its key and change can be stored in it
pub record IsApplicable (s : State) (w : Mutation) : Type 0 where
  pub some : 0 < w.table
  pub table : model.Table
  pub there : slice_get s.tables (w.table - 1) ≡ Some table
  pub types : List ColumnType
  pub types_are : column_types table.definition ≡ Some types
  pub body : IsBodyOf types w.key w.change

-- the index can be added to its table, under whatever number
abbrev pub IsAddable : State → NewIndex → Type 0
IsAddable s new = (number : ℕ) → IsIndexIn (definitions s.tables) (numbered_def number new)

-- there is a table of this number
pub record HasTable (s : State) (number : ℕ) : Type 0 where
  pub some : 0 < number
  pub inside : number ≤ length s.tables

-- ---- what a statement asks for

-- the statement isn't refused, and creates this table
abbrev pub CreatesTable : State → Statement → Table → Type 0
CreatesTable s (CreateTable table columns keys) t = (refusal s (CreateTable table columns keys) ≡ None) × (definition t ≡ new_definition table columns keys) × (t.number ≡ length s.tables + 1)
CreatesTable s statement t = ⊥

-- the statement isn't refused, and defines this index
abbrev pub DefinesIndex : State → Statement → NewIndex → Type 0
DefinesIndex s (CreateIndex name table column class options stepped) new = (refusal s (CreateIndex name table column class options stepped) ≡ None) × IsNewIndex (definitions s.tables) name table column options new × IsAddable s new
DefinesIndex s statement new = ⊥

-- the statement isn't refused, and writes this mutation
pub record WritesTo (s : State) (statement : Statement) (w : Mutation) : Type 0 where
  pub writing : IsWriting statement
  pub taken : refusal s statement ≡ None
  pub write : IsWrite (known_of s) statement w

-- the statement isn't refused, and flushes the table of this number
abbrev pub FlushesTable : State → Statement → ℕ → Type 0
FlushesTable s (Flush table) number = (refusal s (Flush table) ≡ None) × (number_of_table table (definitions s.tables) ≡ Some number) × HasTable s number
FlushesTable s statement number = ⊥

-- the steps of a STEP of so many units, where no rule refuses the number
abbrev pub unit_steps : Number → Option CompactSteps
unit_steps units = if is_count units then Some (Units (count_asked units)) else None

-- the table that a statement on compactions names, and the steps that it asks for there, where no rule refuses their number
abbrev pub compact_asked : Statement → Option (List ℕ × Option CompactSteps)
compact_asked (Compact table) = Some (table, Some Whole)
compact_asked (BeginCompact table) = Some (table, Some Begin)
compact_asked (StepCompact table units) = Some (table, unit_steps units)
compact_asked statement = None

-- the statement names this table, which is there, and asks for these steps
pub record AsksSteps (known : Known) (t : Table) (steps : Option CompactSteps) (statement : Statement) : Type 0 where
  pub table : List ℕ
  pub asked_is : compact_asked statement ≡ Some (table, steps)
  pub numbered : number_of_table table known.tables ≡ Some t.number
  pub found : definition_of table known.tables ≡ Some (definition t)

-- the statement isn't refused, and asks for these steps of the compactions of the table that it names
pub record CompactsTable (s : State) (statement : Statement) (asked : CompactAsked) : Type 0 where
  pub table : List ℕ
  pub asked_is : compact_asked statement ≡ Some (table, Some asked.steps)
  pub taken : refusal s statement ≡ None
  pub named : number_of_table table (definitions s.tables) ≡ Some asked.table
  pub has : HasTable s asked.table

-- the table of the rows is there, and the SELECT names it and isn't refused on it
pub record HasRows (s : State) (rows : Selection) : Type 0 where
  pub some : 0 < rows.table
  pub table : model.Table
  pub there : slice_get s.tables (rows.table - 1) ≡ Some table
  pub named : number_of_table rows.select.table (definitions s.tables) ≡ Some rows.table
  pub can : CanSelect table.definition rows.select

-- the lines of the SELECT, over the table with its number
abbrev pub answer_rows : State → Selection → List ℕ
answer_rows s rows = option_map_or (λ t. select_lines t.definition rows.select (map_.entries t.partitions)) (slice_get s.tables (rows.table - 1)) []

-- the statement isn't refused, and is this SELECT, of the table that it names
pub record SelectsFrom (s : State) (select : Select) (rows : Selection) : Type 0 where
  pub taken : refusal s (Query select) ≡ None
  pub select_is : rows.select ≡ select
  pub answer : answer_of s (Query select) ≡ answer_rows s rows
  pub has : HasRows s rows

abbrev pub SelectsRows : State → Statement → Selection → Type 0
SelectsRows s (Query select) rows = SelectsFrom s select rows
SelectsRows s statement rows = ⊥

-- the statement isn't refused, and turns TRACE on or off
abbrev pub TurnsTrace : State → Statement → Bool → Type 0
TurnsTrace s (Trace on) asked = (refusal s (Trace on) ≡ None) × (on ≡ asked)
TurnsTrace s statement asked = ⊥

-- the statement is SHOW FILES, which is never refused
abbrev pub AsksFiles : State → Statement → Type 0
AsksFiles s ShowFiles = refusal s ShowFiles ≡ None
AsksFiles s statement = ⊥

-- ---- cursors, but for the rules of cursors

-- no rule refuses the SELECT on a table of this definition, but perhaps that of the number of relations
pub record CanAnswer (d : Definition) (select : Select) : Type 0 where
  pub written : IsWellFormedSelect select
  pub taken : first_refusal (answer_rules select (Some d)) ≡ None

-- the rows of the SELECT, over the table with its number
abbrev pub rows_asked : State → Selection → List (List (Option Value))
rows_asked s rows = option_map_or (λ t. select_rows t.definition rows.select (map_.entries t.partitions)) (slice_get s.tables (rows.table - 1)) []

-- the OPEN isn't refused, and is this one; its table is there
pub record OpensFrom (s : State) (cursor : List ℕ) (select : Select) (asked : OpenAsked) : Type 0 where
  pub taken : refusal s (OpenCursor cursor select) ≡ None
  pub cursor_is : asked.cursor ≡ cursor
  pub select_is : asked.rows.select ≡ select
  pub rows_are : rows_selected s select ≡ rows_asked s asked.rows
  pub some : 0 < asked.rows.table
  pub table : model.Table
  pub there : slice_get s.tables (asked.rows.table - 1) ≡ Some table
  pub named : number_of_table select.table (definitions s.tables) ≡ Some asked.rows.table
  pub can : CanAnswer table.definition select

abbrev pub OpensCursor : State → Statement → OpenAsked → Type 0
OpensCursor s (OpenCursor cursor select) asked = OpensFrom s cursor select asked
OpensCursor s statement asked = ⊥

abbrev pub FetchesRows : State → Statement → FetchAsked → Type 0
FetchesRows s (Fetch cursor count) asked = (refusal s (Fetch cursor count) ≡ None) × (asked.cursor ≡ cursor) × (asked.count ≡ count_asked count)
FetchesRows s statement asked = ⊥

abbrev pub ClosesCursor : State → Statement → List ℕ → Type 0
ClosesCursor s (CloseCursor cursor) name = (refusal s (CloseCursor cursor) ≡ None) × (name ≡ cursor)
ClosesCursor s statement name = ⊥

-- what a statement prepares, with its reply appended; that of a SELECT is still to come, and so are the lines of files
abbrev pub StatementPrepares : State → Statement → List ℕ → List ℕ → Prepared → Type 0
StatementPrepares s statement reply_old reply_new (Answered outcome) = StatementStepsTo s statement s reply_old reply_new outcome × IsSome (refusal s statement)
StatementPrepares s statement reply_old reply_new (Create t) = StatementStepsTo s statement (with_new_table s (definition t)) reply_old reply_new (outcome_of None) × CreatesTable s statement t
StatementPrepares s statement reply_old reply_new (Define new) = StatementStepsTo s statement (state_with_index s new.table (index_of_new new)) reply_old reply_new (outcome_of None) × DefinesIndex s statement new
StatementPrepares s statement reply_old reply_new (Writes w) = StatementStepsTo s statement (state_with_mutation s w) reply_old reply_new (outcome_of None) × WritesTo s statement w
StatementPrepares s statement reply_old reply_new (Flushes table) = StatementStepsTo s statement s reply_old reply_new (outcome_of None) × FlushesTable s statement table
StatementPrepares s statement reply_old reply_new (Compacts asked) = StatementStepsTo s statement s reply_old reply_new (outcome_of None) × CompactsTable s statement asked
StatementPrepares s statement reply_old reply_new (Selects rows) = (reply_new ≡ reply_old) × SelectsRows s statement rows
StatementPrepares s statement reply_old reply_new (Traces on) = StatementStepsTo s statement s reply_old reply_new (outcome_of None) × TurnsTrace s statement on
StatementPrepares s statement reply_old reply_new ListsFiles = StatementStepsTo s statement s reply_old reply_new (outcome_of None) × AsksFiles s statement
StatementPrepares s statement reply_old reply_new (Opens asked) = (reply_new ≡ reply_old) × OpensCursor s statement asked
StatementPrepares s statement reply_old reply_new (Fetches asked) = (reply_new ≡ reply_old) × FetchesRows s statement asked
StatementPrepares s statement reply_old reply_new (Closes cursor) = (reply_new ≡ reply_old) × ClosesCursor s statement cursor

-- what is asked of the tables
abbrev pub asked_by : Prepared → Asked
asked_by (Answered outcome) = ask.NoChange
asked_by (Create t) = ask.Creates (definition t)
asked_by (Define new) = ask.Defines new.table (index_of_new new)
asked_by (Writes w) = ask.Writes w.table w.key w.change
asked_by (Flushes table) = ask.Flushes table
asked_by (Compacts asked) = ask.NoChange
asked_by (Selects rows) = ask.NoChange
asked_by (Traces on) = ask.NoChange
asked_by ListsFiles = ask.NoChange
asked_by (Opens asked) = ask.NoChange
asked_by (Fetches asked) = ask.NoChange
asked_by (Closes cursor) = ask.NoChange

-- what a statement prepares, by what is known of the state
pub record IsPrepared (known : Known) (statement : Statement) (reply_old reply_new : List ℕ) (prepared : Prepared) : Type 0 where
  pub asked_is : parsed_asks known (Says statement) ≡ asked_by prepared
  pub of_state : (s : State) → IsStateOf known s → StatementPrepares s statement reply_old reply_new prepared

-- a new table, a new index, a flush, steps of compactions, rows, TRACE and files don't depend on the time
abbrev pub IsTimeless : Prepared → Type 0
IsTimeless (Answered outcome) = ⊥
IsTimeless (Create t) = ⊤
IsTimeless (Define new) = ⊤
IsTimeless (Writes w) = ⊥
IsTimeless (Flushes table) = ⊤
IsTimeless (Compacts asked) = ⊤
IsTimeless (Selects rows) = ⊤
IsTimeless (Traces on) = ⊤
IsTimeless ListsFiles = ⊤
IsTimeless (Opens asked) = ⊤
IsTimeless (Fetches asked) = ⊤
IsTimeless (Closes cursor) = ⊤

-- the same, where what doesn't depend on the time is prepared whatever the largest timestamp
pub record IsPreparedFor (known : Known) (statement : Statement) (reply_old reply_new : List ℕ) (prepared : Prepared) : Type 0 where
  pub now : IsPrepared known statement reply_old reply_new prepared
  pub timeless : IsTimeless prepared → (other : ℕ) → IsPrepared (record known { max_timestamp = other }) statement reply_old reply_new prepared

-- what was prepared can be done in the state
abbrev pub CanBeDone : State → Prepared → Type 0
CanBeDone s (Answered outcome) = ⊤
CanBeDone s (Create t) = IsNewTable s t × (t.indexes ≡ [])
CanBeDone s (Define new) = IsAddable s new
CanBeDone s (Writes w) = IsApplicable s w
CanBeDone s (Flushes table) = HasTable s table
CanBeDone s (Compacts asked) = HasTable s asked.table
CanBeDone s (Selects rows) = ⊤
CanBeDone s (Traces on) = ⊤
CanBeDone s ListsFiles = ⊤
CanBeDone s (Opens asked) = ⊤
CanBeDone s (Fetches asked) = ⊤
CanBeDone s (Closes cursor) = ⊤

-- the statement is built, and has no SELECT
abbrev pub IsChanging : Statement → Type 0
IsChanging (Query select) = ⊥
IsChanging (OpenCursor cursor select) = ⊥
IsChanging statement = is_built statement ≡ true

-- the statement is a write, or is on the files of a table
abbrev pub IsOnTable : Statement → Type 0
IsOnTable (Flush table) = ⊤
IsOnTable (Compact table) = ⊤
IsOnTable (BeginCompact table) = ⊤
IsOnTable (StepCompact table units) = ⊤
IsOnTable statement = IsWriting statement

-- ---- what a piece asks for

-- the rows of a SELECT are to be printed
abbrev pub IsSelect : Prepared → Type 0
IsSelect (Selects rows) = ⊤
IsSelect prepared = ⊥

-- the lines of files are to be printed
abbrev pub IsListing : Prepared → Type 0
IsListing ListsFiles = ⊤
IsListing prepared = ⊥

-- the piece is SHOW FILES
abbrev pub IsShowFiles : ParsedPiece → Type 0
IsShowFiles (Says ShowFiles) = ⊤
IsShowFiles parsed = ⊥

-- the piece is a SELECT
abbrev pub IsQuery : ParsedPiece → Type 0
IsQuery (Says (Query select)) = ⊤
IsQuery parsed = ⊥

-- the piece is refused, or a `;` alone
abbrev pub IsRefusedOrEmpty : State → Piece → Type 0
IsRefusedOrEmpty s piece = IsSome (step s piece).refused ⊎ (read piece ≡ Nothing)

-- the step of the piece has this state, this reply and this outcome
pub record StepsTo (s : State) (piece : Piece) (state : State) (reply : List ℕ) (outcome : Outcome) : Type 0 where
  pub state_is : (step s piece).state ≡ state
  pub reply_is : (step s piece).reply ≡ reply
  pub outcome_is : outcome ≡ outcome_of (step s piece).refused

-- the piece is a well-formed statement that has P
abbrev pub SaysOne : Piece → (Statement → Type 0) → Type 0
SaysOne piece P = (statement : Statement) × (read piece ≡ Says statement) × IsWellFormed statement × P statement

-- what a piece prepares; the rows of a SELECT are still to come, and so are the lines of files
abbrev pub Prepares : State → Piece → List ℕ → Prepared → Type 0
Prepares s piece reply (Answered outcome) = StepsTo s piece s reply outcome × IsRefusedOrEmpty s piece
Prepares s piece reply (Create t) = StepsTo s piece (with_new_table s (definition t)) reply (outcome_of None) × SaysOne piece (λ statement. CreatesTable s statement t) × IsNewTable s t
Prepares s piece reply (Define new) = StepsTo s piece (state_with_index s new.table (index_of_new new)) reply (outcome_of None) × SaysOne piece (λ statement. DefinesIndex s statement new) × IsAddable s new
Prepares s piece reply (Writes w) = StepsTo s piece (state_with_mutation s w) reply (outcome_of None) × SaysOne piece (λ statement. WritesTo s statement w) × IsApplicable s w
Prepares s piece reply (Flushes table) = StepsTo s piece s reply (outcome_of None) × SaysOne piece (λ statement. FlushesTable s statement table) × HasTable s table
Prepares s piece reply (Compacts asked) = StepsTo s piece s reply (outcome_of None) × SaysOne piece (λ statement. CompactsTable s statement asked) × HasTable s asked.table
Prepares s piece reply (Selects rows) = StepsTo s piece s (answer_rows s rows) (outcome_of None) × (reply ≡ []) × HasRows s rows × SaysOne piece (λ statement. SelectsRows s statement rows)
Prepares s piece reply (Traces on) = StepsTo s piece s reply (outcome_of None) × SaysOne piece (λ statement. TurnsTrace s statement on)
Prepares s piece reply ListsFiles = StepsTo s piece s reply (outcome_of None) × (reply ≡ []) × SaysOne piece (AsksFiles s)
Prepares s piece reply (Opens asked) = StepsTo s piece s [] (outcome_of None) × (reply ≡ []) × SaysOne piece (λ statement. OpensCursor s statement asked)
Prepares s piece reply (Fetches asked) = StepsTo s piece s [] (outcome_of None) × (reply ≡ []) × SaysOne piece (λ statement. FetchesRows s statement asked)
Prepares s piece reply (Closes cursor) = StepsTo s piece s [] (outcome_of None) × (reply ≡ []) × SaysOne piece (λ statement. ClosesCursor s statement cursor)
