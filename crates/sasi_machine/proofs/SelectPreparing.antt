-- What SELECTs and statements on cursors prepare.
use Rattle.std.proofs.Common.{◌≡◌, ℕ, ◌-◌, List, [], slice_get, Option, Some, None, Result, Ok, Err, IfOk, true, false, refl, sym, ap, subst, ◌∙◌, arith}
use Rattle.std.specs.FinMap as fin
use Rattle.std.specs.Option.{option_map, option_map_or}
use Rattle.sasi_types.specs.declared.literal.Number.{Number}
use Rattle.sasi_types.specs.declared.statement.Select.{Select}
use Rattle.sasi_types.specs.declared.statement.Statement.TheVariants.{CloseCursor, Fetch, OpenCursor, Query}
use Rattle.sasi_model.specs.Abbreviations.{FetchRange, NoTable, definitions, first_refusal}
use Rattle.sasi_model.specs.Refusals.{Known, Refusal, RefusalRule, answer_rules, is_count, rules, select_rules}
use Rattle.sasi_model.specs.Sessions.{count_asked}
use Rattle.sasi_model.specs.State as model
use Rattle.sasi_model.specs.State.{Definition, State, definition_of}
use Rattle.sasi_model.specs.Step.{answer_of, rows_selected, select_lines, select_rows}
use Rattle.sasi_model.specs.WellFormed.{IsWellFormedSelect}
use Rattle.sasi_schema.specs.Answers.{IsFirstRefusal}
use Rattle.sasi_schema.specs.Defined.{definition}
use Rattle.sasi_schema.specs.Numbers.{number_of_table}
use Rattle.sasi_schema.specs.declared.table.Table.{Table}
use Rattle.sasi_machine.specs.Operands.{CanSelect}
use Rattle.sasi_machine.specs.Prepares.{CanAnswer, IsPrepared, answer_rows, rows_asked}
use Rattle.sasi_machine.specs.Selections.{PreparesCursor, PreparesRows}
use Rattle.sasi_machine.specs.StatementSteps.{IsRefused}
use Rattle.sasi_machine.specs.declared.outcome.Outcome.{Outcome}
use Rattle.sasi_machine.specs.declared.prepared.FetchAsked.{FetchAsked}
use Rattle.sasi_machine.specs.declared.prepared.Prepared.{Prepared}
use Rattle.sasi_machine.specs.declared.prepared.Prepared.TheVariants.{Answered, Create, Define, Write as Writes, Flush as Flushes, Compact as Compacts, Select as Selects, Trace as Traces, Files as ListsFiles, Open as Opens, Fetch as Fetches, Close as Closes}
use Rattle.sasi_machine.specs.declared.prepared.Selection.{Selection}
use Rattle.sasi_machine.proofs.KnownStates.{definitions_are}
use Rattle.sasi_machine.proofs.NumberedTables.{number_some, table_numbered}
use Rattle.sasi_machine.proofs.StatementStepping.{not_refused, refuses, taken_asks}

-- ---- SELECT

first_is : (rules : List RefusalRule) → IsFirstRefusal (first_refusal rules) rules
first_is rules = by (first_refusal rules) refl
  where
    by : (o : Option Refusal) → first_refusal rules ≡ o → IsFirstRefusal o rules
    by None is = tt
    by (Some r) is = is

answer_is : (s : State) (select : Select) (rows : Selection) (found : model.Table) → model.table_of select.table s.tables ≡ Some found → slice_get s.tables (rows.table - 1) ≡ Some found
    → rows.select ≡ select → answer_of s (Query select) ≡ answer_rows s rows
answer_is s select rows found named there is =
    ap (λ (o : Option model.Table). option_map_or (λ t. select_lines t.definition select (fin.entries t.partitions)) o []) named
    ∙ ap (λ (q : Select). select_lines found.definition q (fin.entries found.partitions)) (sym is)
    ∙ ap (λ (o : Option model.Table). option_map_or (λ t. select_lines t.definition rows.select (fin.entries t.partitions)) o []) (sym there)

-- it isn't refused on its table
can_select : (select asked : Select) (d e : Definition) → IsWellFormedSelect select → first_refusal (select_rules select (Some d)) ≡ None → e ≡ d → asked ≡ select → CanSelect e asked
can_select select asked d e written none same is = record { written = subst IsWellFormedSelect (sym is) written; taken = rw (same, is) none }

pub select_asks : (known : Known) (select : Select) (found : Option Table) (reply_old reply_new : List ℕ) (prepared : Prepared) → IsWellFormedSelect select
    → option_map definition found ≡ definition_of select.table known.tables → option_map (λ (t : Table). t.number) found ≡ number_of_table select.table known.tables
    → PreparesRows found select reply_old reply_new prepared → IsPrepared known (Query select) reply_old reply_new prepared
select_asks known select found reply_old reply_new (Answered outcome) written defined numbered prepares =
    let refused = first_refusal (select_rules select (option_map definition found)) in
    refuses known (Query select) refused reply_old reply_new outcome (subst (λ (o : Option Definition). IsFirstRefusal refused (select_rules select o)) defined (first_is (select_rules select (option_map definition found)))) prepares
select_asks known select found reply_old reply_new (Traces on) written defined numbered prepares = absurd prepares
select_asks known select found reply_old reply_new ListsFiles written defined numbered prepares = absurd prepares
select_asks known select found reply_old reply_new (Opens asked) written defined numbered prepares = absurd prepares
select_asks known select found reply_old reply_new (Fetches asked) written defined numbered prepares = absurd prepares
select_asks known select found reply_old reply_new (Closes cursor) written defined numbered prepares = absurd prepares
select_asks known select None reply_old reply_new (Selects rows) written defined numbered prepares = absurd prepares.2
select_asks known select (Some t) reply_old reply_new (Selects rows) written defined numbered prepares =
    let none : first_refusal (rules known (Query select)) ≡ None = subst (λ (o : Option Definition). first_refusal (select_rules select o) ≡ None) defined prepares.0 in
    record {
      asked_is = taken_asks known (Query select) none;
      of_state = λ s of.
          let here : number_of_table select.table (definitions s.tables) ≡ Some t.number = ap (number_of_table select.table) (definitions_are known s of) ∙ sym numbered in
          let at = table_numbered select.table s.tables t.number (definition t) here (ap (definition_of select.table) (definitions_are known s of) ∙ sym defined) in
          let there : slice_get s.tables (rows.table - 1) ≡ Some at.table = ap (λ (n : ℕ). slice_get s.tables (n - 1)) prepares.2.number ∙ at.there in (
            prepares.1,
            record {
              taken = not_refused s known (Query select) of none;
              select_is = prepares.2.select_is;
              answer = answer_is s select rows at.table at.found there prepares.2.select_is;
              has = record {
                some = omega (arith, number_some select.table (definitions s.tables) t.number here, prepares.2.number);
                table = at.table;
                there = there;
                named = ap (λ (q : Select). number_of_table q.table (definitions s.tables)) prepares.2.select_is ∙ here ∙ ap Some (sym prepares.2.number);
                can = can_select select rows.select (definition t) at.table.definition written prepares.0 at.definition_is prepares.2.select_is;
              };
            },
          );
    }
select_asks known select found reply_old reply_new (Create t) written defined numbered prepares = absurd prepares
select_asks known select found reply_old reply_new (Define new) written defined numbered prepares = absurd prepares
select_asks known select found reply_old reply_new (Writes w) written defined numbered prepares = absurd prepares
select_asks known select found reply_old reply_new (Flushes table) written defined numbered prepares = absurd prepares
select_asks known select found reply_old reply_new (Compacts asked) written defined numbered prepares = absurd prepares

-- ---- OPEN

rows_are : (s : State) (select : Select) (rows : Selection) (found : model.Table) → model.table_of select.table s.tables ≡ Some found → slice_get s.tables (rows.table - 1) ≡ Some found
    → rows.select ≡ select → rows_selected s select ≡ rows_asked s rows
rows_are s select rows found named there is =
    ap (λ (o : Option model.Table). option_map_or (λ t. select_rows t.definition select (fin.entries t.partitions)) o []) named
    ∙ ap (λ (q : Select). select_rows found.definition q (fin.entries found.partitions)) (sym is)
    ∙ ap (λ (o : Option model.Table). option_map_or (λ t. select_rows t.definition rows.select (fin.entries t.partitions)) o []) (sym there)

-- its SELECT isn't refused on its table, but perhaps by the number of relations
can_answer : (select : Select) (d e : Definition) → IsWellFormedSelect select → first_refusal (answer_rules select (Some d)) ≡ None → e ≡ d → CanAnswer e select
can_answer select d e written none same = record { written = written; taken = rw same none }

-- on a table that is there
open_asks : (known : Known) (cursor : List ℕ) (select : Select) (t : Table) (reply_old reply_new : List ℕ) (prepared : Prepared) → IsWellFormedSelect select
    → Some (definition t) ≡ definition_of select.table known.tables → Some t.number ≡ number_of_table select.table known.tables
    → PreparesCursor t cursor select reply_old reply_new prepared → IsPrepared known (OpenCursor cursor select) reply_old reply_new prepared
open_asks known cursor select t reply_old reply_new (Answered outcome) written defined numbered prepares =
    let refused = first_refusal (answer_rules select (Some (definition t))) in
    refuses known (OpenCursor cursor select) refused reply_old reply_new outcome
    (subst (λ (o : Option Definition). IsFirstRefusal refused (answer_rules select o)) defined (first_is (answer_rules select (Some (definition t))))) prepares
open_asks known cursor select t reply_old reply_new (Opens asked) written defined numbered prepares =
    let none : first_refusal (rules known (OpenCursor cursor select)) ≡ None = subst (λ (o : Option Definition). first_refusal (answer_rules select o) ≡ None) defined prepares.0 in
    let selection = prepares.3 in
    record {
      asked_is = taken_asks known (OpenCursor cursor select) none;
      of_state = λ s of.
          let here : number_of_table select.table (definitions s.tables) ≡ Some t.number = ap (number_of_table select.table) (definitions_are known s of) ∙ sym numbered in
          let at = table_numbered select.table s.tables t.number (definition t) here (ap (definition_of select.table) (definitions_are known s of) ∙ sym defined) in
          let there : slice_get s.tables (asked.rows.table - 1) ≡ Some at.table = ap (λ (n : ℕ). slice_get s.tables (n - 1)) selection.number ∙ at.there in (
            prepares.1,
            record {
              taken = not_refused s known (OpenCursor cursor select) of none;
              cursor_is = prepares.2;
              select_is = selection.select_is;
              rows_are = rows_are s select asked.rows at.table at.found there selection.select_is;
              some = omega (arith, number_some select.table (definitions s.tables) t.number here, selection.number);
              table = at.table;
              there = there;
              named = here ∙ ap Some (sym selection.number);
              can = can_answer select (definition t) at.table.definition written prepares.0 at.definition_is;
            },
          );
    }
open_asks known cursor select t reply_old reply_new (Create table) written defined numbered prepares = absurd prepares
open_asks known cursor select t reply_old reply_new (Define new) written defined numbered prepares = absurd prepares
open_asks known cursor select t reply_old reply_new (Writes w) written defined numbered prepares = absurd prepares
open_asks known cursor select t reply_old reply_new (Flushes table) written defined numbered prepares = absurd prepares
open_asks known cursor select t reply_old reply_new (Compacts asked) written defined numbered prepares = absurd prepares
open_asks known cursor select t reply_old reply_new (Selects rows) written defined numbered prepares = absurd prepares
open_asks known cursor select t reply_old reply_new (Traces on) written defined numbered prepares = absurd prepares
open_asks known cursor select t reply_old reply_new ListsFiles written defined numbered prepares = absurd prepares
open_asks known cursor select t reply_old reply_new (Fetches asked) written defined numbered prepares = absurd prepares
open_asks known cursor select t reply_old reply_new (Closes name) written defined numbered prepares = absurd prepares

-- no table of the name
open_refused : (known : Known) (cursor : List ℕ) (select : Select) (reply_old reply_new : List ℕ) (prepared : Prepared) → None ≡ definition_of select.table known.tables
    → PreparesRows None select reply_old reply_new prepared → IsPrepared known (OpenCursor cursor select) reply_old reply_new prepared
open_refused known cursor select reply_old reply_new (Answered outcome) absent prepares =
    refuses known (OpenCursor cursor select) (Some (NoTable select.table)) reply_old reply_new outcome (ap (λ (o : Option Definition). first_refusal (answer_rules select o)) (sym absent)) prepares
open_refused known cursor select reply_old reply_new (Selects rows) absent prepares = absurd prepares.2
open_refused known cursor select reply_old reply_new (Create table) absent prepares = absurd prepares
open_refused known cursor select reply_old reply_new (Define new) absent prepares = absurd prepares
open_refused known cursor select reply_old reply_new (Writes w) absent prepares = absurd prepares
open_refused known cursor select reply_old reply_new (Flushes table) absent prepares = absurd prepares
open_refused known cursor select reply_old reply_new (Compacts asked) absent prepares = absurd prepares
open_refused known cursor select reply_old reply_new (Traces on) absent prepares = absurd prepares
open_refused known cursor select reply_old reply_new ListsFiles absent prepares = absurd prepares
open_refused known cursor select reply_old reply_new (Opens asked) absent prepares = absurd prepares
open_refused known cursor select reply_old reply_new (Fetches asked) absent prepares = absurd prepares
open_refused known cursor select reply_old reply_new (Closes name) absent prepares = absurd prepares

-- either way
pub cursor_any : {E : Type 0} (known : Known) (cursor : List ℕ) (select : Select) (t : Table) (reply_old reply_new : List ℕ) (result : Result Prepared E) → IsWellFormedSelect select
    → Some (definition t) ≡ definition_of select.table known.tables → Some t.number ≡ number_of_table select.table known.tables
    → IfOk result (λ prepared. PreparesCursor t cursor select reply_old reply_new prepared)
    → IfOk result (λ prepared. (max_time : ℕ) → IsPrepared (record known { max_timestamp = max_time }) (OpenCursor cursor select) reply_old reply_new prepared)
cursor_any known cursor select t reply_old reply_new (Ok prepared) written defined numbered prepares =
    λ max_time. open_asks (record known { max_timestamp = max_time }) cursor select t reply_old reply_new prepared written defined numbered prepares
cursor_any known cursor select t reply_old reply_new (Err e) written defined numbered prepares = tt

pub cursor_absent : {E : Type 0} (known : Known) (cursor : List ℕ) (select : Select) (reply_old reply_new : List ℕ) (result : Result Prepared E) → None ≡ definition_of select.table known.tables
    → IfOk result (λ prepared. PreparesRows None select reply_old reply_new prepared)
    → IfOk result (λ prepared. (max_time : ℕ) → IsPrepared (record known { max_timestamp = max_time }) (OpenCursor cursor select) reply_old reply_new prepared)
cursor_absent known cursor select reply_old reply_new (Ok prepared) absent prepares =
    λ max_time. open_refused (record known { max_timestamp = max_time }) cursor select reply_old reply_new prepared absent prepares
cursor_absent known cursor select reply_old reply_new (Err e) absent prepares = tt

-- ---- FETCH

pub fetch_asks : (known : Known) (count : Number) (asked : FetchAsked) (reply : List ℕ) → is_count count ≡ true → asked.count ≡ count_asked count
    → IsPrepared known (Fetch asked.cursor count) reply reply (Fetches asked)
fetch_asks known count asked reply counted rows =
    let none : first_refusal (rules known (Fetch asked.cursor count)) ≡ None = rw counted refl in
    record {
      asked_is = taken_asks known (Fetch asked.cursor count) none;
      of_state = λ s of. (refl, (not_refused s known (Fetch asked.cursor count) of none, refl, rows));
    }

-- no number of rows
pub fetch_refused : (known : Known) (cursor : List ℕ) (count : Number) (reply_old reply_new : List ℕ) (outcome : Outcome) → is_count count ≡ false → IsRefused (Some FetchRange) reply_old reply_new outcome
    → IsPrepared known (Fetch cursor count) reply_old reply_new (Answered outcome)
fetch_refused known cursor count reply_old reply_new outcome none refused = refuses known (Fetch cursor count) (Some FetchRange) reply_old reply_new outcome (rw none refl) refused

-- ---- CLOSE

pub close_asks : (known : Known) (cursor reply : List ℕ) → IsPrepared known (CloseCursor cursor) reply reply (Closes cursor)
close_asks known cursor reply = record {
  asked_is = refl;
  of_state = λ s of. (refl, (not_refused s known (CloseCursor cursor) of refl, refl));
}
