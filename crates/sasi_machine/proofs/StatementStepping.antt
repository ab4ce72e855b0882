-- The steps of statements over a state of which the definitions and the largest timestamp are known: of those that are refused,
-- and of those that are not.
use Rattle.std.proofs.Common.{◌≡◌, false, true, is_some, ℕ, zero, suc, ◌+◌, ◌-◌, ◌<◌, List, [], ◌∷◌, ◌++◌, Option, Some, None, refl, sym, ap, subst, ◌∙◌, inl, inr, arith}
use Rattle.std.specs.FinMap as fin
use Rattle.std.specs.Option.{option_and_then, option_map, option_map_or}
use Rattle.sasi_types.specs.declared.partitioner.Partitioner.{Partitioner}
use Rattle.sasi_types.specs.declared.statement.Statement.{Statement}
use Rattle.sasi_types.specs.declared.statement.Statement.TheVariants.{CreateTable, Insert, Update, Delete}
use Rattle.sasi_model.specs.Asked as ask
use Rattle.sasi_model.specs.Asked.{Asked, asked_of, key_given, parsed_asks, statement_asks, write_of}
use Rattle.sasi_model.specs.Cells.{Partition}
use Rattle.sasi_model.specs.Changes.{changed_behind, changed_tables, empty_table}
use Rattle.sasi_model.specs.Statements.{same}
use Rattle.sasi_types.specs.declared.decorated_key.DecoratedKey.{DecoratedKey}
use Rattle.sasi_types.specs.DecoratedKey.{decorated_cmp}
use Rattle.sasi_model.specs.State.{Column, Definition, State, Table, apply, definition_of, max_timestamp, decorated, with_table}
use Rattle.sasi_model.specs.Abbreviations.{definitions, key_position, max_timestamp_of_tables, stored_of, ok_line, first_refusal, new_definition, key_type}
use Rattle.sasi_model.specs.Refusals.{Known, Refusal, Says, known_of, refusal, rules}
use Rattle.sasi_model.specs.Step.{answer_of, applied, execute, decorated_given, primary_key, tables_after, timestamp, value_given}
use Rattle.sasi_schema.specs.Answers.{IsFirstRefusal}
use Rattle.sasi_schema.specs.Numbers.{IsKeyAt, number_of_table}
use Rattle.sasi_machine.specs.declared.outcome.Outcome.{Outcome}
use Rattle.sasi_machine.specs.declared.prepared.Prepared.TheVariants.{Answered}
use Rattle.sasi_cells.specs.declared.mutation.Mutation.{Mutation}
use Rattle.sasi_machine.specs.KeyLiteral.{IsKeyLiteral}
use Rattle.sasi_memtable.specs.MemtableView.{MemtableView, empty_memtable}
use Rattle.sasi_machine.specs.Outcome.{outcome_of}
use Rattle.sasi_machine.specs.Prepares.{IsPrepared, IsStateOf}
use Rattle.sasi_machine.specs.TableRows.{AreStored}
use Rattle.sasi_machine.proofs.Texts.{no_texts}
use Rattle.sasi_machine.specs.Tables.{IsMachineState, table_with, tables_of}
use Rattle.sasi_machine.specs.StatementSteps.{IsRefused, StatementStepsTo}
use Rattle.sasi_machine.specs.Writes.{IsWrite, IsWriting, change_in, key_in, table_named, time_in}
use Rattle.sasi_machine.proofs.KnownStates.{definitions_are, max_time_is}
use Rattle.sasi_machine.proofs.MaxTimestamps.{max_timestamp_push, nothing_held}
use Rattle.sasi_machine.proofs.NumberedTables.{first_or_later, number_some, table_numbered}
use Rattle.sasi_machine.proofs.TablesOfMemtables.{memtables_push, tables_push, under_push}
use Rattle.sasi_machine.proofs.WrittenKeys.{decorated_in, found_rules, given_in, key_asked, key_in_accepted}

-- ---- whatever the statement

-- the rules are tried on what is known of the state
pub rules_are : (s : State) (known : Known) (statement : Statement) → IsStateOf known s → rules (known_of s) statement ≡ rules known statement
rules_are s known statement is = ap (λ (k : Known). rules k statement) is

pub not_refused : (s : State) (known : Known) (statement : Statement) → IsStateOf known s → first_refusal (rules known statement) ≡ None → refusal s statement ≡ None
unfolding refusal
not_refused s known statement is none = ap first_refusal (rules_are s known statement is) ∙ none

is_refusal : (s : State) (known : Known) (statement : Statement) (r : Refusal) → IsStateOf known s → first_refusal (rules known statement) ≡ Some r → refusal s statement ≡ Some r
unfolding refusal
is_refusal s known statement r is first = ap first_refusal (rules_are s known statement is) ∙ first

pub no_rule : (s : State) (known : Known) (statement : Statement) → IsStateOf known s → refusal s statement ≡ None → first_refusal (rules known statement) ≡ None
unfolding refusal
no_rule s known statement is none = sym (ap first_refusal (rules_are s known statement is)) ∙ none

-- a statement that is refused
pub refuses : (known : Known) (statement : Statement) (refused : Option Refusal) (reply_old reply_new : List ℕ) (outcome : Outcome)
    → IsFirstRefusal refused (rules known statement) → IsRefused refused reply_old reply_new outcome → IsPrepared known statement reply_old reply_new (Answered outcome)
refuses known statement None reply_old reply_new outcome first refused = absurd refused
refuses known statement (Some r) reply_old reply_new outcome first refused = record {
  asked_is = ap (λ (o : Option Refusal). option_map_or (λ _. ask.NoChange) o (statement_asks known statement)) first;
  of_state = λ s is. rw (is_refusal s known statement r is first) (record { state_is = refl; reply_is = refused.0; outcome_is = refused.1 }, refl);
}

-- a statement that isn't
pub takes : (s : State) (statement : Statement) (new : State) (reply_old reply_new : List ℕ) (outcome : Outcome) → refusal s statement ≡ None
    → new ≡ (execute s statement).state → reply_new ≡ reply_old ++ answer_of s statement
    → outcome ≡ outcome_of None → StatementStepsTo s statement new reply_old reply_new outcome
takes s statement new reply_old reply_new outcome none new_is reply_is outcome_is = rw none (record { state_is = new_is; reply_is = reply_is; outcome_is = outcome_is })

-- what it asks
pub taken_asks : (known : Known) (statement : Statement) → first_refusal (rules known statement) ≡ None → parsed_asks known (Says statement) ≡ statement_asks known statement
taken_asks known statement none = ap (λ (o : Option Refusal). option_map_or (λ _. ask.NoChange) o (statement_asks known statement)) none

-- ---- what is asked of a named table

pub asked_found : (name : List ℕ) (ask_of : ℕ → Definition → Asked) (ds : List Definition) (n at : ℕ) (d : Definition) → number_of_table name ds ≡ Some (suc at) → definition_of name ds ≡ Some d
    → asked_of n name ask_of ds ≡ ask_of (n + at) d
asked_found name ask_of [] n at d is found = cc
asked_found name ask_of (x ∷ ds) n at d is found =
    elim (first_or_later name x ds at is) [
      | inl first ↦
          let same_is : x ≡ d = (let e : Some x ≡ Some d = rw first.0 at found in cc) in
          let here : n ≡ n + at = omega (arith, first.1) in
          rw first.0 (ap (λ (k : ℕ). ask_of k x) here ∙ ap (ask_of (n + at)) same_is)
      | inr later ↦
          let on : suc n + later.index ≡ n + at = omega (arith, later.index_is) in
          rw later.other (asked_found name ask_of ds (suc n) later.index d later.later (rw later.other at found) ∙ ap (λ (k : ℕ). ask_of k d) on)
    ]

pub asked_numbered : (name : List ℕ) (ask_of : ℕ → Definition → Asked) (ds : List Definition) (number : ℕ) (d : Definition) → number_of_table name ds ≡ Some number → definition_of name ds ≡ Some d
    → asked_of 1 name ask_of ds ≡ ask_of number d
asked_numbered name ask_of ds number d is found =
    let some = number_some name ds number is in
    let suc_is : number ≡ suc (number - 1) = omega arith in
    let on : 1 + (number - 1) ≡ number = omega arith in
    asked_found name ask_of ds 1 (number - 1) d (is ∙ ap Some suc_is) found ∙ ap (λ (k : ℕ). ask_of k d) on

-- ---- writes

-- what a write does to a table, by the largest timestamp of the state
change_of : Partitioner → ℕ → Statement → Table → Table
change_of p g statement t = applied (option_and_then (decorated_given p t.definition) (given_in t.definition statement)) (option_map (λ time. change_in t.definition time statement) (timestamp g (time_in statement))) t

-- a write to the table of this definition
record IsWriteFor (g : ℕ) (statement : Statement) (w : Mutation) (d : Definition) : Type 0 where
  at : IsKeyAt d.key d.columns
  accepted : IsKeyLiteral (key_type d) (key_in d statement)
  time : ℕ
  time_is : timestamp g (time_in statement) ≡ Some time
  key_is : w.key ≡ stored_of (value_given (key_type d) (key_in d statement))
  change_is : w.change ≡ change_in d time statement

write_for : (known : Known) (statement : Statement) (w : Mutation) → IsWriting statement → (write : IsWrite known statement w) → first_refusal (rules known statement) ≡ None → IsWriteFor known.max_timestamp statement w write.definition
write_for known statement w writing write none = record {
  at = write.key_is_there;
  accepted = key_in_accepted write.definition known.max_timestamp statement writing write.key_is_there (found_rules known statement write.definition writing write.found none);
  time = write.written.time;
  time_is = write.written.time_is.is;
  key_is = write.written.change.key_is;
  change_is = write.written.change.change_is;
}

changes_are : (g : ℕ) (statement : Statement) (w : Mutation) (d : Definition) → (f : IsWriteFor g statement w d) → option_map (λ time. change_in d time statement) (timestamp g (time_in statement)) ≡ Some w.change
changes_are g statement w d f = ap (option_map (λ time. change_in d time statement)) f.time_is ∙ ap Some (sym f.change_is)

-- the table after the write
written_table : (p : Partitioner) (g : ℕ) (statement : Statement) (w : Mutation) (t : Table) → IsWriting statement → IsWriteFor g statement w t.definition → change_of p g statement t ≡ apply (decorated p w.key) w.change t
unfolding change_of
written_table p g statement w t writing f =
    let d = t.definition in
    let changes = option_map (λ time. change_in d time statement) (timestamp g (time_in statement)) in
    let key : option_and_then (decorated_given p d) (given_in d statement) ≡ Some (decorated p w.key) = decorated_in p d statement writing f.at f.accepted ∙ ap (λ key. Some (decorated p key)) (sym f.key_is) in
    ap (λ (k : Option DecoratedKey). applied k changes t) key
    ∙ ap (λ (o : Option Partition). applied (Some (decorated p w.key)) o t) (changes_are g statement w d f)

writes_table : (s : State) (statement : Statement) → IsWriting statement → tables_after s statement ≡ with_table (table_named statement) (change_of s.partitioner (max_timestamp s) statement) s.tables
unfolding change_of
writes_table s (Insert table columns values time) is = refl
writes_table s (Update table time sets key value) is = refl
writes_table s (Delete table columns time key value) is = refl
writes_table s statement is = absurd is

pub answers_ok : (s : State) (statement : Statement) → IsWriting statement → answer_of s statement ≡ ok_line
answers_ok s (Insert table columns values time) is = refl
answers_ok s (Update table time sets key value) is = refl
answers_ok s (Delete table columns time key value) is = refl
answers_ok s statement is = absurd is

behind_is : (number : ℕ) (key : DecoratedKey) (change : Partition) (ts : List Table) → 0 < number → changed_tables number key change ts ≡ changed_behind (number - 1) key change ts
behind_is zero key change ts some = absurd (omega (arith, some))
behind_is (suc before) key change ts some = let e : before ≡ suc before - 1 = omega arith in ap (λ (k : ℕ). changed_behind k key change ts) e

pub write_tables : (s : State) (known : Known) (statement : Statement) (w : Mutation) → IsStateOf known s → IsWriting statement → IsWrite known statement w → first_refusal (rules known statement) ≡ None
    → changed_tables w.table (decorated s.partitioner w.key) w.change s.tables ≡ tables_after s statement
write_tables s known statement w is writing write none =
    let name = table_named statement in
    let key = decorated s.partitioner w.key in
    let number : number_of_table name (definitions s.tables) ≡ Some w.table = ap (number_of_table name) (definitions_are known s is) ∙ write.number in
    let found : definition_of name (definitions s.tables) ≡ Some write.definition = ap (definition_of name) (definitions_are known s is) ∙ write.found in
    let t = table_numbered name s.tables w.table write.definition number found in
    let f : IsWriteFor (max_timestamp s) statement w t.table.definition = subst (IsWriteFor (max_timestamp s) statement w) (sym t.definition_is)
    (subst (λ (time : ℕ). IsWriteFor time statement w write.definition) (sym (max_time_is known s is)) (write_for known statement w writing write none)) in
    behind_is w.table key w.change s.tables (number_some name known.tables w.table write.number)
    ∙ sym (writes_table s statement writing ∙ t.changed (change_of s.partitioner (max_timestamp s) statement) key w.change (written_table s.partitioner (max_timestamp s) statement w t.table writing f))

-- what it asks
asks_write : (known : Known) (statement : Statement) → IsWriting statement → statement_asks known statement ≡ asked_of 1 (table_named statement) (λ n d. write_of n (option_and_then (key_given d) (given_in d statement)) (option_map (λ time. change_in d time statement) (timestamp known.max_timestamp (time_in statement)))) known.tables
asks_write known (Insert table columns values time) is = refl
asks_write known (Update table time sets key value) is = refl
asks_write known (Delete table columns time key value) is = refl
asks_write known statement is = absurd is

pub write_asked : (known : Known) (statement : Statement) (w : Mutation) → IsWriting statement → IsWrite known statement w → first_refusal (rules known statement) ≡ None → statement_asks known statement ≡ ask.Writes w.table w.key w.change
write_asked known statement w writing write none =
    let d = write.definition in
    let f = write_for known statement w writing write none in
    asks_write known statement writing
    ∙ asked_numbered (table_named statement) (λ n d. write_of n (option_and_then (key_given d) (given_in d statement)) (option_map (λ time. change_in d time statement) (timestamp known.max_timestamp (time_in statement)))) known.tables w.table d write.number write.found
    ∙ ap (λ (k : Option (List ℕ)). write_of w.table k (option_map (λ time. change_in d time statement) (timestamp known.max_timestamp (time_in statement)))) (key_asked d statement writing f.at f.accepted ∙ ap Some (sym f.key_is))
    ∙ ap (write_of w.table (Some w.key)) (changes_are known.max_timestamp statement w d f)

-- ---- CREATE TABLE

-- an empty memtable has nothing that isn't stored so
pub none_stored : (p : Partitioner) (d : Definition) → AreStored (key_type d) (empty_memtable p).partitions
none_stored p d = record { keys = λ key there. (let none : false ≡ true = sym (ap is_some (fin.get-empty {X = Partition} decorated_cmp key)) ∙ there in cc); texts = no_texts }

pub create_kept : (p : Partitioner) (ds : List Definition) (cs : List MemtableView) (g : ℕ) (d : Definition) → IsMachineState p ds cs g → IsMachineState p (ds ++ d ∷ []) (cs ++ empty_memtable p ∷ []) g
create_kept p ds cs g d kept =
    record {
      held = memtables_push ds cs d (empty_memtable p) kept.held (none_stored p d);
      under = under_push p cs (empty_memtable p) kept.under refl;
      max_timestamp_is = kept.max_timestamp_is
          ∙ sym (ap max_timestamp_of_tables (tables_push ds cs d (empty_memtable p) kept.held) ∙ max_timestamp_push (tables_of ds cs) (table_with d (empty_memtable p)) nothing_held);
      limit = kept.limit;
    }

pub pushed : (p : Partitioner) (cs room new : List MemtableView) (c : MemtableView) → room ≡ cs → new ≡ room ++ c ∷ [] → c ≡ empty_memtable p → new ≡ cs ++ empty_memtable p ∷ []
pushed p cs room new c same push is = push ∙ ap (λ (cs : List MemtableView). cs ++ c ∷ []) same ∙ ap (λ (c : MemtableView). cs ++ c ∷ []) is

pub created_tables : (s : State) (table : List ℕ) (columns : List Column) (keys : List (List ℕ)) → primary_key columns keys ≡ Some (key_position columns keys)
    → s.tables ++ empty_table (new_definition table columns keys) ∷ [] ≡ tables_after s (CreateTable table columns keys)
created_tables s table columns keys found =
    ap (λ (o : Option ℕ). option_map_or (λ key. s.tables ++ empty_table (record { name = table; columns = columns; key = key; indexes = [] }) ∷ []) o s.tables) (sym found)
