-- What the calls of a preparation give.
use Rattle.std.proofs.Common.{◌≡◌, ◌++◌, ◌-◌, ◌<◌, ℕ, List, [], length, get_or, slice_get, Option, IsSome, Some, None, Result, Ok, Err, IfOk, refl, sym, ap, subst, ◌∙◌}
use Rattle.std.specs.FinMap as fin
use Rattle.std.specs.Option.{option_map, option_map_or}
use Rattle.std.proofs.lemmas.Option.{get_or_from_slice_get}
use Rattle.sasi_types.specs.declared.partitioner.Partitioner.{Partitioner}
use Rattle.sasi_types.specs.declared.statement.Select.{Select}
use Rattle.sasi_types.specs.declared.statement.Statement.TheVariants.{Query}
use Rattle.sasi_memtable.specs.MemtableView.{MemtableView}
use Rattle.sasi_model.specs.Abbreviations.{Partitions, definitions, first_refusal, key_type}
use Rattle.sasi_model.specs.Lines.{refusal_line}
use Rattle.sasi_model.specs.Pieces.{Piece}
use Rattle.sasi_model.specs.Refusals.{Bad, Known, Nothing, Refusal, RefusalRule, read}
use Rattle.sasi_model.specs.State as model
use Rattle.sasi_model.specs.State.{Definition, State, definition_of}
use Rattle.sasi_model.specs.Step.{StepResult, select_rows, step, step_as, step_by}
use Rattle.sasi_model.specs.WellFormed.{IsWellFormedSelect}
use Rattle.sasi_schema.specs.Answers.{IsFirstRefusal}
use Rattle.sasi_schema.specs.Defined.{definition}
use Rattle.sasi_schema.specs.Numbers.{number_of_table}
use Rattle.sasi_schema.specs.declared.table.Table.{Table}
use Rattle.sasi_machine.specs.Operands.{CanSelect}
use Rattle.sasi_machine.specs.Outcome.{outcome_of}
use Rattle.sasi_machine.specs.Prepares.{HasRows, IsPrepared, IsStateOf, Prepares, StepsTo, rows_asked}
use Rattle.sasi_machine.specs.Selections.{PreparesRows}
use Rattle.sasi_machine.specs.StatementSteps.{IsRefused}
use Rattle.sasi_machine.specs.TableRows.{AreStored}
use Rattle.sasi_machine.specs.Tables.{IsMachineState, state_of}
use Rattle.sasi_machine.specs.declared.outcome.Outcome.{Outcome}
use Rattle.sasi_machine.specs.declared.outcome.Outcome.TheVariants.{Done}
use Rattle.sasi_machine.specs.declared.prepared.Prepared.{Prepared}
use Rattle.sasi_machine.specs.declared.prepared.Selection.{Selection}
use Rattle.sasi_machine.proofs.KnownStates.{is_state_of}
use Rattle.sasi_machine.proofs.SelectPreparing.{select_asks}
use Rattle.sasi_machine.proofs.NumberedTables.{defined_at, definition_numbered}
use Rattle.sasi_machine.proofs.TablesOfMemtables.{definitions_of, memtable_at, memtable_inside}

-- ---- refusals

-- a refusal that is the first
pub refused_first : (refused : Option Refusal) (rules : List RefusalRule) (reply_old reply_new : List ℕ) (outcome : Outcome) → IsFirstRefusal refused rules → IsRefused refused reply_old reply_new outcome → IsRefused (first_refusal rules) reply_old reply_new outcome
refused_first None rules reply_old reply_new outcome first refused = absurd refused
refused_first (Some r) rules reply_old reply_new outcome first refused = subst (λ (o : Option Refusal). IsRefused o reply_old reply_new outcome) (sym first) refused

-- ---- SELECT

pub rows_any : {E : Type 0} (known : Known) (select : Select) (found : Option Table) (reply_old reply_new : List ℕ) (result : Result Prepared E) → IsWellFormedSelect select
    → option_map definition found ≡ definition_of select.table known.tables → option_map (λ (t : Table). t.number) found ≡ number_of_table select.table known.tables
    → IfOk result (λ prepared. PreparesRows found select reply_old reply_new prepared) → IfOk result (λ prepared. (max_time : ℕ) → IsPrepared (record known { max_timestamp = max_time }) (Query select) reply_old reply_new prepared)
rows_any known select found reply_old reply_new (Ok prepared) written defined numbered prepares = λ max_time. select_asks (record known { max_timestamp = max_time }) select found reply_old reply_new prepared written defined numbered prepares
rows_any known select found reply_old reply_new (Err e) written defined numbered prepares = tt

-- ---- pieces without a statement

pub nothing_steps : (s : State) (piece : Piece) (reply : List ℕ) → read piece ≡ Nothing → reply ≡ [] → StepsTo s piece s reply Done
unfolding step_by
nothing_steps s piece reply nothing empty =
    let same : step s piece ≡ step_as s Nothing = ap (step_as s) nothing in
    record {
      state_is = ap (λ (x : StepResult). x.state) same;
      reply_is = ap (λ (x : StepResult). x.reply) same ∙ sym empty;
      outcome_is = ap (λ (x : StepResult). outcome_of x.refused) (sym same);
    }

pub bad_steps : (s : State) (piece : Piece) (r : Refusal) (cleared reply : List ℕ) (outcome : Outcome) → read piece ≡ Bad r → cleared ≡ [] → reply ≡ cleared ++ refusal_line r → outcome ≡ outcome_of (Some r) → StepsTo s piece s reply outcome
unfolding step_by
bad_steps s piece r cleared reply outcome bad empty reply_is outcome_is =
    let same : step s piece ≡ step_as s (Bad r) = ap (step_as s) bad in
    record {
      state_is = ap (λ (x : StepResult). x.state) same;
      reply_is = ap (λ (x : StepResult). x.reply) same ∙ sym (reply_is ∙ ap (λ (front : List ℕ). front ++ refusal_line r) empty);
      outcome_is = outcome_is ∙ ap (λ (x : StepResult). outcome_of x.refused) (sym same);
    }

pub bad_refused : (s : State) (piece : Piece) (r : Refusal) → read piece ≡ Bad r → IsSome (step s piece).refused
unfolding step_by
bad_refused s piece r bad = rw bad refl

-- ---- the machine

pub at_state : {E : Type 0} (p : Partitioner) (ds : List Definition) (cs : List MemtableView) (g : ℕ) (s : State) (piece : Piece) (reply : List ℕ) (result : Result Prepared E) → state_of p ds cs ≡ s → IsMachineState p ds cs g
    → IfOk result (λ prepared. (s : State) → IsStateOf (record { tables = ds; max_timestamp = g }) s → Prepares s piece reply prepared) → IfOk result (λ prepared. Prepares s piece reply prepared)
at_state p ds cs g s piece reply (Ok prepared) is kept prepares = subst (λ (s : State). Prepares s piece reply prepared) is (prepares (state_of p ds cs) (is_state_of p ds cs g kept))
at_state p ds cs g s piece reply (Err e) is kept prepares = tt

-- the memtable of the rows, and the definition of their table
pub record HasRowsAt (ds : List Definition) (cs : List MemtableView) (s : State) (rows : Selection) : Type 0 where
  pub definition : Definition
  pub defined : definition_of rows.select.table ds ≡ Some definition
  pub can : CanSelect definition rows.select
  pub memtable : MemtableView
  pub got : slice_get cs (rows.table - 1) ≡ Some memtable
  pub inside : rows.table - 1 < length cs
  pub some : 0 < rows.table
  pub stored : AreStored (key_type definition) memtable.partitions
  pub rows_are : rows_asked s rows ≡ select_rows definition rows.select (fin.entries memtable.partitions)

pub rows_at : (p : Partitioner) (ds : List Definition) (cs : List MemtableView) (g : ℕ) (s : State) (rows : Selection) → state_of p ds cs ≡ s → IsMachineState p ds cs g → HasRows s rows → HasRowsAt ds cs s rows
rows_at p ds cs g s rows is kept has =
    let there : slice_get (state_of p ds cs).tables (rows.table - 1) ≡ Some has.table = ap (λ (s : State). slice_get s.tables (rows.table - 1)) is ∙ has.there in
    let held = memtable_at ds cs (rows.table - 1) has.table kept.held there in
    let all : definitions s.tables ≡ ds = ap (λ (s : State). definitions s.tables) (sym is) ∙ definitions_of ds cs kept.held in
    record {
      definition = has.table.definition;
      defined = definition_numbered rows.select.table ds rows.table has.table.definition (ap (number_of_table rows.select.table) (sym all) ∙ has.named)
          (ap (λ (l : List Definition). slice_get l (rows.table - 1)) (sym all) ∙ defined_at s.tables (rows.table - 1) has.table has.there);
      can = has.can;
      memtable = held.0;
      got = held.1;
      inside = memtable_inside cs (rows.table - 1) held.0 held.1;
      some = has.some;
      stored = held.2;
      rows_are = ap (λ (o : Option model.Table). option_map_or (λ t. select_rows t.definition rows.select (fin.entries t.partitions)) o []) has.there
          ∙ ap (λ (m : Partitions). select_rows has.table.definition rows.select (fin.entries m)) held.3;
    }

pub read_at : (cs : List MemtableView) (at : ℕ) (c x : MemtableView) → slice_get cs at ≡ Some x → c ≡ get_or cs at c → c ≡ x
read_at cs at c x got is = is ∙ get_or_from_slice_get cs at x c got

pub one_definition : (d e : Definition) → Some d ≡ Some e → d ≡ e
one_definition d e same = cc
