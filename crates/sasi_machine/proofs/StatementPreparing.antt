-- What statements prepare.
use Rattle.std.proofs.Common.{◌≡◌, Bool, inl, drop, is_some, ℕ, zero, suc, ◌+◌, ◌-◌, ◌<◌, List, [], ◌∷◌, ◌++◌, length, map, set, slice_get, Option, IsSome, Some, None, Result, Ok, Err, IfOk, refl, sym, ap, subst, ◌∙◌, arith}
use Rattle.std.specs.Prelude.{max}
use Rattle.std.specs.FinMap as fin
use Rattle.std.specs.Option.{option_map_or}
use Rattle.std.proofs.lemmas.List.{append-nil, length-map}
use Rattle.sasi_types.specs.declared.partitioner.Partitioner.{Partitioner}
use Rattle.sasi_types.specs.declared.partitioner.Partitioner.TheVariants.{Lead8}
use Rattle.sasi_types.specs.declared.index_def.IndexDef.{IndexDef}
use Rattle.sasi_types.specs.declared.statement.Statement.{Statement}
use Rattle.sasi_types.specs.declared.statement.Statement.TheVariants.{CloseCursor, CreateTable, CreateIndex, Fetch, Flush, OpenCursor, Query, ShowFiles, Trace}
use Rattle.sasi_cells.proofs.Laws.Times.{body_limit}
use Rattle.sasi_cells.specs.Rows.{IsStored}
use Rattle.sasi_model.specs.Asked as ask
use Rattle.sasi_model.specs.Asked.{asks, parsed_asks}
use Rattle.sasi_model.specs.Cells.{Partition, max_timestamp_of}
use Rattle.sasi_model.specs.Abbreviations.{key_position, max_timestamp_of_tables, definitions, ok_line, NoTable, TableExists, first_refusal, new_definition, key_type, types_of}
use Rattle.sasi_model.specs.Stored.{IsBodyOf, IsValueOf, column_types}
use Rattle.sasi_model.specs.WellFormed.{IsWellFormed}
use Rattle.sasi_types.specs.declared.column.ColumnType.{ColumnType}
use Rattle.sasi_types.specs.declared.column.ColumnType.TheVariants as types
use Rattle.sasi_machine.proofs.StatementBodies.{change_fits}
use Rattle.sasi_model.specs.Changes.{changed_tables, empty_table, state_with_index, with_new_table}
use Rattle.sasi_model.specs.Indexes.{index_of}
use Rattle.sasi_model.specs.Pieces.{Piece}
use Rattle.sasi_model.specs.Refusals.{Known, Refusal, RefusalRule, Says, create_rules, known_of, read, refusal, rules, table_rules}
use Rattle.sasi_model.specs.State as model
use Rattle.sasi_model.specs.State.{Column, Definition, State, definition_of, max_timestamp, decorated}
use Rattle.sasi_model.specs.Step.{StepResult, execute, primary_key, refused_step as refused_as, step, step_as, step_by}
use Rattle.sasi_schema.specs.Defined.{definition}
use Rattle.sasi_schema.specs.Numbers.{number_of_table}
use Rattle.sasi_schema.specs.SchemaViews.{index_of_new}
use Rattle.sasi_schema.specs.declared.index.NewIndex.{NewIndex}
use Rattle.sasi_schema.specs.declared.table.Table.{Table}
use Rattle.sasi_machine.specs.declared.outcome.Outcome.{Outcome}
use Rattle.sasi_machine.specs.declared.prepared.Prepared.{Prepared}
use Rattle.sasi_machine.specs.declared.prepared.Prepared.TheVariants.{Answered, Create, Define, Write as Writes, Flush as Flushes, Compact as Compacts, Select as Selects, Trace as Traces, Files as ListsFiles, Open as Opens, Fetch as Fetches, Close as Closes}
use Rattle.sasi_machine.specs.declared.prepared.FetchAsked.{FetchAsked}
use Rattle.sasi_machine.specs.declared.prepared.OpenAsked.{OpenAsked}
use Rattle.sasi_machine.specs.declared.prepared.Selection.{Selection}
use Rattle.sasi_cells.specs.declared.mutation.Mutation.{Mutation}
use Rattle.sasi_memtable.specs.MemtableView.{MemtableView, empty_memtable}
use Rattle.sasi_machine.specs.Outcome.{outcome_of}
use Rattle.sasi_cells.specs.Mutations.{state_with_mutation}
use Rattle.sasi_machine.specs.Prepares.{AsksFiles, CanBeDone, ClosesCursor, CreatesTable, DefinesIndex, FetchesRows, FlushesTable, HasRows, HasTable, IsAddable, IsApplicable, IsListing, IsNewTable, IsPrepared, IsPreparedFor, IsQuery, IsSelect, IsShowFiles, IsStateOf, IsTimeless, OpensCursor, Prepares, StatementPrepares, SelectsRows, StepsTo, WritesTo, answer_rows, asked_by}
use Rattle.sasi_machine.specs.TableRows.{AreStored}
use Rattle.sasi_machine.specs.Tables.{AreMemtables, IsMachineState, HasMemtableFor, IsWrittenAt, state_of, tables_of, written}
use Rattle.sasi_machine.specs.StatementSteps.{IsRefused, StatementStepsTo}
use Rattle.sasi_machine.specs.Writes.{IsWrite, IsWriting, table_named}
use Rattle.sasi_machine.proofs.KnownStates.{definitions_are, knows}
use Rattle.sasi_machine.proofs.MaxTimestamps.{max_timestamp_put, max_timestamp_set}
use Rattle.sasi_machine.proofs.NumberedTables.{number_some, table_numbered}
use Rattle.sasi_machine.proofs.Stored.{put_stored}
use Rattle.sasi_machine.proofs.Texts.{body_texts, put_texts}
use Rattle.sasi_machine.proofs.TablesOfMemtables.{changed_at, memtable_at, memtable_inside, definitions_of, memtables_set, length_tables, tables_push, under_at, under_set}
use Rattle.sasi_machine.proofs.WrittenKeys.{found_rules}
use Rattle.sasi_schema.proofs.Allowed.{allowed}
use Rattle.sasi_schema.proofs.Keys.{column_types_are, types_are}
use Rattle.sasi_machine.proofs.StatementStepping.{answers_ok, asked_numbered, created_tables, no_rule, not_refused, refuses, taken_asks, takes, write_asked, write_tables}

-- ---- CREATE TABLE

-- as many tables as definitions
tables_counted : (s : State) (known : Known) → IsStateOf known s → length known.tables ≡ length s.tables
tables_counted s known is = ap length (sym (definitions_are known s is)) ∙ length-map s.tables (λ t. t.definition)

create_asked : (table : List ℕ) (columns : List Column) (keys : List (List ℕ)) (t : Table) → primary_key columns keys ≡ Some (key_position columns keys) → definition t ≡ new_definition table columns keys
    → option_map_or (λ key. ask.Creates (record { name = table; columns = columns; key = key; indexes = [] })) (primary_key columns keys) ask.NoChange ≡ ask.Creates (definition t)
create_asked table columns keys t found is = ap (λ (o : Option ℕ). option_map_or (λ key. ask.Creates (record { name = table; columns = columns; key = key; indexes = [] })) o ask.NoChange) found ∙ ap ask.Creates (sym is)

pub create_asks : (known : Known) (table : List ℕ) (columns : List Column) (keys : List (List ℕ)) (t : Table) (reply_old reply_new : List ℕ) → first_refusal (create_rules known.tables table columns keys) ≡ None
    → definition t ≡ new_definition table columns keys → t.number ≡ length known.tables + 1 → reply_new ≡ reply_old ++ ok_line → IsPrepared known (CreateTable table columns keys) reply_old reply_new (Create t)
create_asks known table columns keys t reply_old reply_new none is number reply_is =
    let found = (allowed known.tables table columns keys none).key_found in
    let statement = CreateTable table columns keys in
    record {
      asked_is = taken_asks known statement none ∙ create_asked table columns keys t found is;
      of_state = λ s of. (
        takes s statement (with_new_table s (definition t)) reply_old reply_new (outcome_of None) (not_refused s known statement of none)
            (ap (with_new_table s) is ∙ ap (λ (tables : List model.Table). record { partitioner = s.partitioner; tables = tables }) (created_tables s table columns keys found))
            reply_is refl,
        (not_refused s known statement of none, is, number ∙ ap (λ n. n + 1) (tables_counted s known of)),
      );
    }

-- ---- writes

-- the tables after a mutation are those of the changed memtables
written_tables : (p : Partitioner) (ds : List Definition) (cs : List MemtableView) (w : Mutation) (c : MemtableView) → AreMemtables ds cs
    → 0 < w.table → slice_get cs (w.table - 1) ≡ Some c → changed_tables w.table (decorated p w.key) w.change
    (tables_of ds cs) ≡ tables_of ds (set cs (w.table - 1) (written p w c))
written_tables p ds cs w c held some got = by w.table (omega arith) some
  where
    by : (number : ℕ) → number ≡ suc (w.table - 1) → 0 < number → changed_tables number (decorated p w.key) w.change (tables_of ds cs) ≡ tables_of ds (set cs (w.table - 1) (written p w c))
    by zero is some = absurd (omega arith)
    by (suc at) is some =
        let same : at ≡ w.table - 1 = omega arith in
        rw same (changed_at ds cs (w.table - 1) (decorated p w.key) w.change c held got (written p w c) refl)

pub write_asks : (known : Known) (statement : Statement) (w : Mutation) (reply_old reply_new : List ℕ) → IsWriting statement → IsWrite known statement w → first_refusal (rules known statement) ≡ None
    → reply_new ≡ reply_old ++ ok_line → IsPrepared known statement reply_old reply_new (Writes w)
write_asks known statement w reply_old reply_new writing write none reply_is = record {
  asked_is = taken_asks known statement none ∙ write_asked known statement w writing write none;
  of_state = λ s of. (
    takes s statement (state_with_mutation s w) reply_old reply_new (outcome_of None) (not_refused s known statement of none)
        (ap (λ (tables : List model.Table). record { partitioner = s.partitioner; tables = tables }) (write_tables s known statement w of writing write none))
        (reply_is ∙ ap (λ line. reply_old ++ line) (sym (answers_ok s statement writing)))
        refl,
    record {
      writing = writing;
      taken = not_refused s known statement of none;
      write = subst (λ (k : Known). IsWrite k statement w) (sym of) write;
    },
  );
}

-- ---- FLUSH

found_flush : (ds : List Definition) (table : List ℕ) (d : Definition) → definition_of table ds ≡ Some d → first_refusal (table_rules table (definition_of table ds)) ≡ None
found_flush ds table d found = ap (λ (o : Option Definition). first_refusal (table_rules table o)) found

pub flush_asks : (known : Known) (table : List ℕ) (number : ℕ) (d : Definition) (reply_old reply_new : List ℕ) → number_of_table table known.tables ≡ Some number → definition_of table known.tables ≡ Some d
    → reply_new ≡ reply_old ++ ok_line → IsPrepared known (Flush table) reply_old reply_new (Flushes number)
flush_asks known table number d reply_old reply_new numbered found reply_is =
    let none = found_flush known.tables table d found in
    record {
      asked_is = taken_asks known (Flush table) none ∙ asked_numbered table (λ n d. ask.Flushes n) known.tables number d numbered found;
      of_state = λ s of.
          let here : number_of_table table (definitions s.tables) ≡ Some number = ap (number_of_table table) (definitions_are known s of) ∙ numbered in
          let t = table_numbered table s.tables number d here (ap (definition_of table) (definitions_are known s of) ∙ found) in (
            takes s (Flush table) s reply_old reply_new (outcome_of None) (not_refused s known (Flush table) of none) refl reply_is refl,
            (not_refused s known (Flush table) of none, here, record { some = number_some table known.tables number numbered; inside = omega (arith, t.inside, number_some table known.tables number numbered) }),
          );
    }

-- no table of the name
pub flush_refused : (known : Known) (table : List ℕ) (reply_old reply_new : List ℕ) (outcome : Outcome) → definition_of table known.tables ≡ None → IsRefused (Some (NoTable table)) reply_old reply_new outcome → IsPrepared known (Flush table) reply_old reply_new (Answered outcome)
flush_refused known table reply_old reply_new outcome absent refused =
    refuses known (Flush table) (Some (NoTable table)) reply_old reply_new outcome (ap (λ (o : Option Definition). first_refusal (table_rules table o)) absent) refused

-- ---- TRACE

pub trace_asks : (known : Known) (on : Bool) (reply_old reply_new : List ℕ) → reply_new ≡ reply_old ++ ok_line → IsPrepared known (Trace on) reply_old reply_new (Traces on)
trace_asks known on reply_old reply_new reply_is = record {
  asked_is = refl;
  of_state = λ s of. (takes s (Trace on) s reply_old reply_new (outcome_of None) (not_refused s known (Trace on) of refl) refl reply_is refl, (not_refused s known (Trace on) of refl, refl));
}

-- ---- SHOW FILES

pub files_asks : (known : Known) (reply : List ℕ) → IsPrepared known ShowFiles reply reply ListsFiles
files_asks known reply = record {
  asked_is = refl;
  of_state = λ s of. (takes s ShowFiles s reply reply (outcome_of None) (not_refused s known ShowFiles of refl) refl (sym (append-nil reply)) refl, not_refused s known ShowFiles of refl);
}

-- ---- every statement

-- whatever the largest timestamp
pub for_any : {E : Type 0} (known : Known) (statement : Statement) (reply_old reply_new : List ℕ) (result : Result Prepared E) → IfOk result (λ prepared. (max_time : ℕ) → IsPrepared (record known { max_timestamp = max_time }) statement reply_old reply_new prepared) → IfOk result (IsPreparedFor known statement reply_old reply_new)
for_any known statement reply_old reply_new (Ok prepared) of = record { now = of known.max_timestamp; timeless = λ timeless other. of other }
for_any known statement reply_old reply_new (Err e) of = tt

pub for_every : {E : Type 0} (known : Known) (statement : Statement) (reply_old reply_new : List ℕ) (result : Result Prepared E) → IfOk result (λ prepared. (known : Known) → IsPrepared known statement reply_old reply_new prepared)
    → IfOk result (IsPreparedFor known statement reply_old reply_new)
for_every known statement reply_old reply_new (Ok prepared) of = record { now = of known; timeless = λ timeless other. of (record known { max_timestamp = other }) }
for_every known statement reply_old reply_new (Err e) of = tt

-- ---- what is done

-- the key of a body is one of the table's
pub body_stored : (d : Definition) (key : List ℕ) (change : Partition) → IsBodyOf (types_of d) key change → IsStored (key_type d) key
body_stored d key change body =
    let typed = body.key_typed in
    let same_type : key_type d ≡ typed.type = (let e : Some (key_type d) ≡ Some typed.type = typed.listed in cc) in
    by (key_type d) (subst (λ type. IsValueOf type key) (sym same_type) typed.value)
  where
    by : (type : ColumnType) → IsValueOf type key → IsStored type key
    by types.Text value = tt
    by types.Int value = value
    by types.BigInt value = value
    by types.Uuid value = value

-- a mutation that was prepared can be applied
writes_fit : (s : State) (statement : Statement) (w : Mutation) → IsWellFormed statement → WritesTo s statement w → IsApplicable s w
writes_fit s statement w well writes =
    let ds = definitions s.tables in
    let write = writes.write in
    let d = write.definition in
    let none = no_rule s (known_of s) statement refl writes.taken in
    let change = write.written.change in
    let fits = change_fits d (max_timestamp s) statement write.written.time writes.writing well write.key_is_there write.few write.written.time_is.above
    write.written.time_is.limit (found_rules (known_of s) statement d writes.writing write.found none) in
    let t = table_numbered (table_named statement) s.tables w.table d write.number write.found in
    record {
      some = number_some (table_named statement) ds w.table write.number;
      table = t.table;
      there = t.there;
      types = types_of d;
      types_are = ap column_types t.definition_is ∙ column_types_are d write.key_is_there;
      body = rw (change.key_is, change.change_is) fits;
    }

-- a mutation that can be applied has a memtable
pub fit_room : (p : Partitioner) (ds : List Definition) (cs : List MemtableView) (g : ℕ) (w : Mutation) → IsMachineState p ds cs g → IsApplicable (state_of p ds cs) w → HasMemtableFor cs w
fit_room p ds cs g w kept fit =
    let held = memtable_at ds cs (w.table - 1) fit.table kept.held fit.there in
    record { some = fit.some; inside = omega (arith, fit.some, memtable_inside cs (w.table - 1) held.0 held.1) }

-- its key is one of the table's
fit_stored : (s : State) (w : Mutation) (fit : IsApplicable s w) → IsStored (key_type fit.table.definition) w.key
fit_stored s w fit = body_stored fit.table.definition w.key w.change (subst (λ types. IsBodyOf types w.key w.change) (sym (types_are fit.table.definition fit.types fit.types_are)) fit.body)

pub fit_kept : (p : Partitioner) (ds : List Definition) (cs new : List MemtableView) (g : ℕ) (w : Mutation) → IsMachineState p ds cs g → IsApplicable
    (state_of p ds cs) w → IsWrittenAt p cs w new → IsMachineState p ds new (max g (max_timestamp_of w.change))
fit_kept p ds cs new g w kept fit is =
    let at = w.table - 1 in
    let held = memtable_at ds cs at fit.table kept.held fit.there in
    let changed : MemtableView = written p w held.0 in
    let new_is : new ≡ set cs at changed = is held.0 held.1 in
    let times = max_timestamp_set ds cs at held.0 changed (max_timestamp_of w.change) kept.held held.1 (max_timestamp_put held.0.partitions (decorated p w.key) w.change) in
    let stored : AreStored (key_type fit.table.definition) changed.partitions = record {
      keys = put_stored (key_type fit.table.definition) held.0.partitions (decorated p w.key) w.change (fit_stored (state_of p ds cs) w fit) held.2.keys;
      texts = put_texts held.0.partitions (decorated p w.key) w.change held.2.texts (body_texts fit.types w.key w.change fit.body);
    } in
    record {
      held = rw new_is (memtables_set ds cs at fit.table changed kept.held fit.there stored);
      under = rw new_is (under_set p cs at changed kept.under (under_at p cs at held.0 kept.under held.1));
      max_timestamp_is = ap (λ (t : ℕ). max t (max_timestamp_of w.change)) kept.max_timestamp_is ∙ sym (ap (λ (cs : List MemtableView). max_timestamp_of_tables (tables_of ds cs)) new_is ∙ times);
      limit = omega (arith, kept.limit, body_limit fit.types w.key w.change fit.body);
    }

pub fit_state : (p : Partitioner) (ds : List Definition) (cs new : List MemtableView) (g : ℕ) (w : Mutation) → IsMachineState p ds cs g → IsApplicable
    (state_of p ds cs) w → IsWrittenAt p cs w new → state_of p ds new ≡ state_with_mutation (state_of p ds cs) w
fit_state p ds cs new g w kept fit is =
    let at = w.table - 1 in
    let held = memtable_at ds cs at fit.table kept.held fit.there in
    ap (λ (tables : List model.Table). record { partitioner = p; tables = tables })
    (ap (tables_of ds) (is held.0 held.1) ∙ sym (written_tables p ds cs w held.0 kept.held fit.some held.1))

-- a table that was prepared is the next
create_free : (ds : List Definition) (table : List ℕ) (columns : List Column) (keys : List (List ℕ)) → first_refusal (create_rules ds table columns keys) ≡ None → definition_of table ds ≡ None
create_free ds table columns keys none = by (definition_of table ds) (drop 1 (create_rules ds table columns keys)) none
  where
    by : (o : Option Definition) (others : List RefusalRule) → first_refusal ((is_some o, TableExists table) ∷ others) ≡ None → o ≡ None
    by None others e = refl
    by (Some d) others e = cc

pub makes_next : (s : State) (statement : Statement) (t : Table) → CreatesTable s statement t → IsNewTable s t
unfolding refusal
makes_next s (CreateTable table columns keys) t makes = record {
  number = makes.2;
  free = rw (ap (λ (d : Definition). d.name) makes.1) (create_free (definitions s.tables) table columns keys makes.0);
}
makes_next s statement t makes = absurd makes

-- ---- a piece that says a statement

steps : (s : State) (piece : Piece) (statement : Statement) (state : State) (reply_old reply : List ℕ) (outcome : Outcome)
    → read piece ≡ Says statement → reply_old ≡ [] → StatementStepsTo s statement state reply_old reply outcome → StepsTo s piece state reply outcome
unfolding step_by
steps s piece statement state reply_old reply outcome says empty takes =
    let same : step s piece ≡ step_as s (Says statement) = ap (step_as s) says in
    let replied : reply ≡ (step_as s (Says statement)).reply = takes.reply_is ∙ ap (λ (front : List ℕ). front ++ (step_as s (Says statement)).reply) empty in
    record {
      state_is = ap (λ (x : StepResult). x.state) same ∙ sym takes.state_is;
      reply_is = ap (λ (x : StepResult). x.reply) same ∙ sym replied;
      outcome_is = takes.outcome_is ∙ ap (λ (x : StepResult). outcome_of x.refused) (sym same);
    }

-- a refused statement is a refused piece
refused_step : (s : State) (piece : Piece) (statement : Statement) → read piece ≡ Says statement → IsSome (refusal s statement) → IsSome (step s piece).refused
unfolding step_by
refused_step s piece statement says some = rw says (by (refusal s statement) some)
  where
    by : (o : Option Refusal) → IsSome o → IsSome (option_map_or (refused_as s) o (execute s statement)).refused
    by None some = cc
    by (Some r) some = refl

-- the answer of a SELECT, once its rows are printed
rows_step : (s : State) (statement : Statement) (rows : Selection) → SelectsRows s statement rows → StatementStepsTo s statement s [] (answer_rows s rows) (outcome_of None)
rows_step s (Query select) rows selects = takes s (Query select) s [] (answer_rows s rows) (outcome_of None) selects.taken refl (sym selects.answer) refl
rows_step s statement rows selects = absurd selects

rows_there : (s : State) (statement : Statement) (rows : Selection) → SelectsRows s statement rows → HasRows s rows
rows_there s (Query select) rows selects = selects.has
rows_there s statement rows selects = absurd selects

-- the lines of files come later
no_answer : (s : State) (statement : Statement) → AsksFiles s statement → (step_as s (Says statement)).reply ≡ []
no_answer s ShowFiles asks = rw asks refl
no_answer s statement asks = absurd asks

-- what a statement on a cursor answers comes later, and the state is left
opened_step : (s : State) (statement : Statement) (asked : OpenAsked) → OpensCursor s statement asked → StatementStepsTo s statement s [] [] (outcome_of None)
opened_step s (OpenCursor cursor select) asked opens = takes s (OpenCursor cursor select) s [] [] (outcome_of None) opens.taken refl refl refl
opened_step s statement asked opens = absurd opens

fetched_step : (s : State) (statement : Statement) (asked : FetchAsked) → FetchesRows s statement asked → StatementStepsTo s statement s [] [] (outcome_of None)
fetched_step s (Fetch cursor count) asked fetches = takes s (Fetch cursor count) s [] [] (outcome_of None) fetches.0 refl refl refl
fetched_step s statement asked fetches = absurd fetches

closed_step : (s : State) (statement : Statement) (name : List ℕ) → ClosesCursor s statement name → StatementStepsTo s statement s [] [] (outcome_of None)
closed_step s (CloseCursor cursor) name closes = takes s (CloseCursor cursor) s [] [] (outcome_of None) closes.0 refl refl refl
closed_step s statement name closes = absurd closes

flush_there : (s : State) (statement : Statement) (table : ℕ) → FlushesTable s statement table → HasTable s table
flush_there s (Flush name) table flushes = flushes.2
flush_there s statement table flushes = absurd flushes

index_there : (s : State) (statement : Statement) (new : NewIndex) → DefinesIndex s statement new → IsAddable s new
index_there s (CreateIndex name table column class options stepped) new defines = defines.2
index_there s statement new defines = absurd defines

pub prepares : (s : State) (piece : Piece) (statement : Statement) (reply_old reply : List ℕ) (prepared : Prepared) → read piece ≡ Says statement → IsWellFormed statement → reply_old ≡ []
    → StatementPrepares s statement reply_old reply prepared → Prepares s piece reply prepared
prepares s piece statement reply_old reply (Answered outcome) says well empty asks = (steps s piece statement s reply_old reply outcome says empty asks.0, inl (refused_step s piece statement says asks.1))
prepares s piece statement reply_old reply (Create t) says well empty asks =
    (steps s piece statement (with_new_table s (definition t)) reply_old reply (outcome_of None) says empty asks.0, (statement, says, well, asks.1), makes_next s statement t asks.1)
prepares s piece statement reply_old reply (Define new) says well empty asks =
    (steps s piece statement (state_with_index s new.table (index_of_new new)) reply_old reply (outcome_of None) says empty asks.0, (statement, says, well, asks.1), index_there s statement new asks.1)
prepares s piece statement reply_old reply (Writes w) says well empty asks =
    (steps s piece statement (state_with_mutation s w) reply_old reply (outcome_of None) says empty asks.0, (statement, says, well, asks.1), writes_fit s statement w well asks.1)
prepares s piece statement reply_old reply (Flushes table) says well empty asks =
    (steps s piece statement s reply_old reply (outcome_of None) says empty asks.0, (statement, says, well, asks.1), flush_there s statement table asks.1)
prepares s piece statement reply_old reply (Compacts asked) says well empty asks =
    (steps s piece statement s reply_old reply (outcome_of None) says empty asks.0, (statement, says, well, asks.1), asks.1.has)
prepares s piece statement reply_old reply (Selects rows) says well empty asks =
    (steps s piece statement s [] (answer_rows s rows) (outcome_of None) says refl (rows_step s statement rows asks.1), asks.0 ∙ empty, rows_there s statement rows asks.1, (statement, says, well, asks.1))
prepares s piece statement reply_old reply (Traces on) says well empty asks =
    (steps s piece statement s reply_old reply (outcome_of None) says empty asks.0, (statement, says, well, asks.1))
prepares s piece statement reply_old reply ListsFiles says well empty asks = (
  steps s piece statement s reply_old reply (outcome_of None) says empty asks.0,
  asks.0.reply_is ∙ ap (λ (front : List ℕ). front ++ (step_as s (Says statement)).reply) empty ∙ no_answer s statement asks.1,
  (statement, says, well, asks.1),
)
prepares s piece statement reply_old reply (Opens asked) says well empty asks =
    (steps s piece statement s [] [] (outcome_of None) says refl (opened_step s statement asked asks.1), asks.0 ∙ empty, (statement, says, well, asks.1))
prepares s piece statement reply_old reply (Fetches asked) says well empty asks =
    (steps s piece statement s [] [] (outcome_of None) says refl (fetched_step s statement asked asks.1), asks.0 ∙ empty, (statement, says, well, asks.1))
prepares s piece statement reply_old reply (Closes cursor) says well empty asks =
    (steps s piece statement s [] [] (outcome_of None) says refl (closed_step s statement cursor asks.1), asks.0 ∙ empty, (statement, says, well, asks.1))

pub piece_prepares : {E : Type 0} (known : Known) (piece : Piece) (statement : Statement) (reply_old reply : List ℕ) (result : Result Prepared E) → read piece ≡ Says statement → IsWellFormed statement → reply_old ≡ []
    → IfOk result (IsPreparedFor known statement reply_old reply) → IfOk result (λ prepared. (s : State) → IsStateOf known s → Prepares s piece reply prepared)
piece_prepares known piece statement reply_old reply (Ok prepared) says well empty asks = λ s is. prepares s piece statement reply_old reply prepared says well empty (asks.now.of_state s is)
piece_prepares known piece statement reply_old reply (Err e) says well empty asks = tt

pub piece_asks : {E : Type 0} (known : Known) (piece : Piece) (statement : Statement) (reply_old reply : List ℕ) (result : Result Prepared E) → read piece ≡ Says statement
    → IfOk result (IsPreparedFor known statement reply_old reply) → IfOk result (λ prepared. asks known piece ≡ asked_by prepared)
piece_asks known piece statement reply_old reply (Ok prepared) says is = ap (parsed_asks known) says ∙ is.now.asked_is
piece_asks known piece statement reply_old reply (Err e) says is = tt

-- ---- what was prepared can be done

no_items : (defs : List IndexDef) → map index_of defs ≡ [] → defs ≡ []
no_items [] is = refl
no_items (def ∷ defs) is = cc

no_indexes : (s : State) (statement : Statement) (t : Table) → CreatesTable s statement t → t.indexes ≡ []
no_indexes s (CreateTable table columns keys) t makes = no_items t.indexes (ap (λ (d : Definition). d.indexes) makes.1)
no_indexes s statement t makes = absurd makes

prepared_can : (s : State) (statement : Statement) (reply_old reply : List ℕ) (prepared : Prepared) → IsWellFormed statement → StatementPrepares s statement reply_old reply prepared → CanBeDone s prepared
prepared_can s statement reply_old reply (Answered outcome) well asks = tt
prepared_can s statement reply_old reply (Create t) well asks = (makes_next s statement t asks.1, no_indexes s statement t asks.1)
prepared_can s statement reply_old reply (Define new) well asks = index_there s statement new asks.1
prepared_can s statement reply_old reply (Writes w) well asks = writes_fit s statement w well asks.1
prepared_can s statement reply_old reply (Flushes table) well asks = flush_there s statement table asks.1
prepared_can s statement reply_old reply (Compacts asked) well asks = asks.1.has
prepared_can s statement reply_old reply (Selects rows) well asks = tt
prepared_can s statement reply_old reply (Traces on) well asks = tt
prepared_can s statement reply_old reply ListsFiles well asks = tt
prepared_can s statement reply_old reply (Opens asked) well asks = tt
prepared_can s statement reply_old reply (Fetches asked) well asks = tt
prepared_can s statement reply_old reply (Closes cursor) well asks = tt

pub can_be_done : {E : Type 0} (known : Known) (statement : Statement) (reply_old reply : List ℕ) (result : Result Prepared E) → IsWellFormed statement
    → IfOk result (IsPreparedFor known statement reply_old reply) → IfOk result (λ prepared. (s : State) → IsStateOf known s → CanBeDone s prepared)
can_be_done known statement reply_old reply (Ok prepared) well asks = λ s is. prepared_can s statement reply_old reply prepared well (asks.now.of_state s is)
can_be_done known statement reply_old reply (Err e) well asks = tt

-- ---- one more table

pub next_number : (s : State) (p : Partitioner) (ds : List Definition) (cs : List MemtableView) (g : ℕ) (t : Table) → state_of p ds cs ≡ s → IsMachineState p ds cs g → IsNewTable s t → t.number ≡ length ds + 1
next_number s p ds cs g t is kept next = next.number ∙ ap (λ (s : State). length s.tables + 1) (sym is) ∙ ap (λ n. n + 1) (length_tables ds cs kept.held)

pub next_free : (s : State) (p : Partitioner) (ds : List Definition) (cs : List MemtableView) (g : ℕ) (t : Table) → state_of p ds cs ≡ s → IsMachineState p ds cs g → IsNewTable s t → definition_of t.name ds ≡ None
next_free s p ds cs g t is kept next = ap (definition_of t.name) (sym (definitions_of ds cs kept.held) ∙ ap (λ (s : State). definitions s.tables) is) ∙ next.free

pub created_state : (p : Partitioner) (ds : List Definition) (cs : List MemtableView) (g : ℕ) (d : Definition) → IsMachineState p ds cs g → state_of p
    (ds ++ d ∷ []) (cs ++ empty_memtable p ∷ []) ≡ with_new_table (state_of p ds cs) d
created_state p ds cs g d kept = ap (λ (tables : List model.Table). record { partitioner = p; tables = tables }) (tables_push ds cs d (empty_memtable p) kept.held)

pub piece_timeless : {E : Type 0} (known : Known) (piece : Piece) (statement : Statement) (reply_old reply : List ℕ) (result : Result Prepared E) → read piece ≡ Says statement → IsWellFormed statement → reply_old ≡ []
    → IfOk result (IsPreparedFor known statement reply_old reply) → IfOk result (λ prepared. IsTimeless prepared → (s : State) → definitions s.tables ≡ known.tables → Prepares s piece reply prepared)
piece_timeless known piece statement reply_old reply (Ok prepared) says well empty asks =
    λ timeless s are. prepares s piece statement reply_old reply prepared says well empty ((asks.timeless timeless (max_timestamp s)).of_state s (knows (record known { max_timestamp = max_timestamp s }) s are refl))
piece_timeless known piece statement reply_old reply (Err e) says well empty asks = tt

-- definitions, as empty tables
pub empty_definitions : (ds : List Definition) → definitions (map empty_table ds) ≡ ds
empty_definitions [] = refl
empty_definitions (d ∷ ds) = ap (λ (l : List Definition). d ∷ l) (empty_definitions ds)

rows_query : (s : State) (statement : Statement) (rows : Selection) → SelectsRows s statement rows → IsQuery (Says statement)
rows_query s (Query select) rows selects = tt
rows_query s statement rows selects = absurd selects

query_of : (known : Known) (statement : Statement) (reply_old reply : List ℕ) (prepared : Prepared) → IsPreparedFor known statement reply_old reply prepared → IsSelect prepared → IsQuery (Says statement)
query_of known statement reply_old reply (Selects rows) asks select =
    let s : State = record { partitioner = Lead8; tables = map empty_table known.tables } in
    rows_query s statement rows ((asks.timeless tt (max_timestamp s)).of_state s (knows (record known { max_timestamp = max_timestamp s }) s (empty_definitions known.tables) refl)).1
query_of known statement reply_old reply (Answered outcome) asks select = absurd select
query_of known statement reply_old reply (Create t) asks select = absurd select
query_of known statement reply_old reply (Define new) asks select = absurd select
query_of known statement reply_old reply (Writes w) asks select = absurd select
query_of known statement reply_old reply (Flushes table) asks select = absurd select
query_of known statement reply_old reply (Compacts asked) asks select = absurd select
query_of known statement reply_old reply (Traces on) asks select = absurd select
query_of known statement reply_old reply ListsFiles asks select = absurd select
query_of known statement reply_old reply (Opens asked) asks select = absurd select
query_of known statement reply_old reply (Fetches asked) asks select = absurd select
query_of known statement reply_old reply (Closes cursor) asks select = absurd select

pub piece_selects : {E : Type 0} (known : Known) (piece : Piece) (statement : Statement) (reply_old reply : List ℕ) (result : Result Prepared E) → read piece ≡ Says statement
    → IfOk result (IsPreparedFor known statement reply_old reply) → IfOk result (λ prepared. IsSelect prepared → IsQuery (read piece))
piece_selects known piece statement reply_old reply (Ok prepared) says asks = λ select. subst IsQuery (sym says) (query_of known statement reply_old reply prepared asks select)
piece_selects known piece statement reply_old reply (Err e) says asks = tt

files_listed : (s : State) (statement : Statement) → AsksFiles s statement → IsShowFiles (Says statement)
files_listed s ShowFiles asks = tt
files_listed s statement asks = absurd asks

listing_of : (known : Known) (statement : Statement) (reply_old reply : List ℕ) (prepared : Prepared) → IsPreparedFor known statement reply_old reply prepared → IsListing prepared → IsShowFiles (Says statement)
listing_of known statement reply_old reply ListsFiles asks lists =
    let s : State = record { partitioner = Lead8; tables = map empty_table known.tables } in
    files_listed s statement ((asks.timeless tt (max_timestamp s)).of_state s (knows (record known { max_timestamp = max_timestamp s }) s (empty_definitions known.tables) refl)).1
listing_of known statement reply_old reply (Answered outcome) asks lists = absurd lists
listing_of known statement reply_old reply (Create t) asks lists = absurd lists
listing_of known statement reply_old reply (Define new) asks lists = absurd lists
listing_of known statement reply_old reply (Writes w) asks lists = absurd lists
listing_of known statement reply_old reply (Flushes table) asks lists = absurd lists
listing_of known statement reply_old reply (Compacts asked) asks lists = absurd lists
listing_of known statement reply_old reply (Selects rows) asks lists = absurd lists
listing_of known statement reply_old reply (Traces on) asks lists = absurd lists
listing_of known statement reply_old reply (Opens asked) asks lists = absurd lists
listing_of known statement reply_old reply (Fetches asked) asks lists = absurd lists
listing_of known statement reply_old reply (Closes cursor) asks lists = absurd lists

pub piece_lists : {E : Type 0} (known : Known) (piece : Piece) (statement : Statement) (reply_old reply : List ℕ) (result : Result Prepared E) → read piece ≡ Says statement
    → IfOk result (IsPreparedFor known statement reply_old reply) → IfOk result (λ prepared. IsListing prepared → IsShowFiles (read piece))
piece_lists known piece statement reply_old reply (Ok prepared) says asks = λ lists. subst IsShowFiles (sym says) (listing_of known statement reply_old reply prepared asks lists)
piece_lists known piece statement reply_old reply (Err e) says asks = tt
