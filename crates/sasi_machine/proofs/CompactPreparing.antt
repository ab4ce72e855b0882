-- What statements on compactions prepare.
use Rattle.std.proofs.Common.{◌≡◌, Bool, true, false, ℕ, List, [], ◌++◌, Option, Some, None, if◌then◌else◌, refl, ap, ◌∙◌, arith}
use Rattle.std.specs.Option.{option_and_then, option_map_or}
use Rattle.sasi_types.specs.declared.literal.Number.{Number}
use Rattle.sasi_types.specs.declared.statement.Statement.{Statement}
use Rattle.sasi_types.specs.declared.statement.Statement.TheVariants.{BeginCompact, Compact, StepCompact}
use Rattle.sasi_model.specs.Abbreviations.{NoTable, StepRange, definitions, first_refusal, ok_line}
use Rattle.sasi_model.specs.Asked as ask
use Rattle.sasi_model.specs.Asked.{statement_asks}
use Rattle.sasi_model.specs.Refusals.{Known, is_count, rules, step_rules, table_rules}
use Rattle.sasi_model.specs.Sessions.{count_asked}
use Rattle.sasi_model.specs.State.{Definition, State, definition_of}
use Rattle.sasi_model.specs.Step.{answer_of, execute}
use Rattle.sasi_schema.specs.Defined.{definition}
use Rattle.sasi_schema.specs.Numbers.{number_of_table}
use Rattle.sasi_schema.specs.declared.table.Table.{Table}
use Rattle.sasi_machine.specs.Outcome.{outcome_of}
use Rattle.sasi_machine.specs.Prepares.{AsksSteps, IsPrepared, compact_asked, unit_steps}
use Rattle.sasi_machine.specs.StatementSteps.{IsRefused}
use Rattle.sasi_machine.specs.declared.outcome.Outcome.{Outcome}
use Rattle.sasi_machine.specs.declared.prepared.CompactSteps.{CompactSteps}
use Rattle.sasi_machine.specs.declared.prepared.CompactSteps.TheVariants.{Begin, Units, Whole}
use Rattle.sasi_machine.specs.declared.prepared.Prepared.TheVariants.{Answered, Compact as Compacts}
use Rattle.sasi_machine.proofs.KnownStates.{definitions_are}
use Rattle.sasi_machine.proofs.NumberedTables.{number_some, table_numbered}
use Rattle.sasi_machine.proofs.StatementStepping.{not_refused, refuses, taken_asks, takes}

-- ---- what is asked

-- the parts of what a statement asks
abbrev table_in : Option (List ℕ × Option CompactSteps) → List ℕ
table_in asked = option_map_or (λ (a : List ℕ × Option CompactSteps). a.0) asked []

abbrev steps_in : Option (List ℕ × Option CompactSteps) → Option CompactSteps
steps_in asked = option_and_then (λ (a : List ℕ × Option CompactSteps). a.1) asked

-- so many units are asked for, or their number is refused
counted : (units : Number) (steps : CompactSteps) → unit_steps units ≡ Some steps → is_count units ≡ true
counted units steps is = by (is_count units) is
  where
    by : (b : Bool) → (if b then Some (Units (count_asked units)) else None) ≡ Some steps → b ≡ true
    by true is = refl
    by false is = cc

uncounted : (units : Number) → unit_steps units ≡ None → is_count units ≡ false
uncounted units is = by (is_count units) is
  where
    by : (b : Bool) → (if b then Some (Units (count_asked units)) else None) ≡ None → b ≡ false
    by true is = cc
    by false is = refl

-- ---- the rules

-- the table is there, and the number of units is in its range
none_refused : (known : Known) (statement : Statement) (table : List ℕ) (steps : CompactSteps) (d : Definition) → compact_asked statement ≡ Some (table, Some steps) → definition_of table known.tables ≡ Some d
    → first_refusal (rules known statement) ≡ None
none_refused known (Compact name) table steps d asked found = ap (λ o. first_refusal (table_rules name o)) (ap (λ n. definition_of n known.tables) (ap table_in asked) ∙ found)
none_refused known (BeginCompact name) table steps d asked found = ap (λ o. first_refusal (table_rules name o)) (ap (λ n. definition_of n known.tables) (ap table_in asked) ∙ found)
none_refused known (StepCompact name units) table steps d asked found =
    ap (λ o. first_refusal (step_rules name units o)) (ap (λ n. definition_of n known.tables) (ap table_in asked) ∙ found) ∙ rw (counted units steps (ap steps_in asked)) refl
none_refused known statement table steps d asked found = cc

-- the table is there, but not so many units
units_refused : (known : Known) (statement : Statement) (table : List ℕ) (d : Definition) → compact_asked statement ≡ Some (table, None) → definition_of table known.tables ≡ Some d
    → first_refusal (rules known statement) ≡ Some StepRange
units_refused known (Compact name) table d asked found = let wrong : Some Whole ≡ None = ap steps_in asked in cc
units_refused known (BeginCompact name) table d asked found = let wrong : Some Begin ≡ None = ap steps_in asked in cc
units_refused known (StepCompact name units) table d asked found =
    ap (λ o. first_refusal (step_rules name units o)) (ap (λ n. definition_of n known.tables) (ap table_in asked) ∙ found) ∙ rw (uncounted units (ap steps_in asked)) refl
units_refused known statement table d asked found = cc

-- no table of the name
table_refused : (known : Known) (statement : Statement) (table : List ℕ) (steps : Option CompactSteps) → compact_asked statement ≡ Some (table, steps) → definition_of table known.tables ≡ None
    → first_refusal (rules known statement) ≡ Some (NoTable table)
table_refused known (Compact name) table steps asked absent =
    ap (λ o. first_refusal (table_rules name o)) (ap (λ n. definition_of n known.tables) (ap table_in asked) ∙ absent) ∙ ap (λ n. Some (NoTable n)) (ap table_in asked)
table_refused known (BeginCompact name) table steps asked absent =
    ap (λ o. first_refusal (table_rules name o)) (ap (λ n. definition_of n known.tables) (ap table_in asked) ∙ absent) ∙ ap (λ n. Some (NoTable n)) (ap table_in asked)
table_refused known (StepCompact name units) table steps asked absent =
    ap (λ o. first_refusal (step_rules name units o)) (ap (λ n. definition_of n known.tables) (ap table_in asked) ∙ absent) ∙ ap (λ n. Some (NoTable n)) (ap table_in asked)
table_refused known statement table steps asked absent = cc

-- ---- the step

no_change : (known : Known) (statement : Statement) (asked : List ℕ × Option CompactSteps) → compact_asked statement ≡ Some asked → statement_asks known statement ≡ ask.NoChange
no_change known (Compact name) asked is = refl
no_change known (BeginCompact name) asked is = refl
no_change known (StepCompact name units) asked is = refl
no_change known statement asked is = cc

state_stays : (s : State) (statement : Statement) (asked : List ℕ × Option CompactSteps) → compact_asked statement ≡ Some asked → s ≡ (execute s statement).state
state_stays s (Compact name) asked is = refl
state_stays s (BeginCompact name) asked is = refl
state_stays s (StepCompact name units) asked is = refl
state_stays s statement asked is = cc

answers_ok : (s : State) (statement : Statement) (asked : List ℕ × Option CompactSteps) → compact_asked statement ≡ Some asked → ok_line ≡ answer_of s statement
answers_ok s (Compact name) asked is = refl
answers_ok s (BeginCompact name) asked is = refl
answers_ok s (StepCompact name units) asked is = refl
answers_ok s statement asked is = cc

-- ---- what is prepared

pub steps_asked : (known : Known) (statement : Statement) (t : Table) (steps : CompactSteps) (reply_old reply_new : List ℕ) → AsksSteps known t (Some steps) statement
    → reply_new ≡ reply_old ++ ok_line → IsPrepared known statement reply_old reply_new (Compacts (record { table = t.number; steps = steps }))
steps_asked known statement t steps reply_old reply_new asks reply_is =
    let table = asks.table in
    let is = asks.asked_is in
    let none = none_refused known statement table steps (definition t) is asks.found in
    let some = number_some table known.tables t.number asks.numbered in
    record {
      asked_is = taken_asks known statement none ∙ no_change known statement (table, Some steps) is;
      of_state = λ s of.
          let here : number_of_table table (definitions s.tables) ≡ Some t.number = ap (number_of_table table) (definitions_are known s of) ∙ asks.numbered in
          let at = table_numbered table s.tables t.number (definition t) here (ap (definition_of table) (definitions_are known s of) ∙ asks.found) in
          let taken = not_refused s known statement of none in (
            takes s statement s reply_old reply_new (outcome_of None) taken (state_stays s statement (table, Some steps) is)
                (reply_is ∙ ap (λ line. reply_old ++ line) (answers_ok s statement (table, Some steps) is)) refl,
            record { table = table; asked_is = is; taken = taken; named = here; has = record { some = some; inside = omega (arith, at.inside, some) } },
          );
    }

pub no_steps : (known : Known) (statement : Statement) (t : Table) (reply_old reply_new : List ℕ) (outcome : Outcome) → AsksSteps known t None statement
    → IsRefused (Some StepRange) reply_old reply_new outcome → IsPrepared known statement reply_old reply_new (Answered outcome)
no_steps known statement t reply_old reply_new outcome asks refused =
    refuses known statement (Some StepRange) reply_old reply_new outcome (units_refused known statement asks.table (definition t) asks.asked_is asks.found) refused

-- no table of the name
pub compact_absent : (known : Known) (statement : Statement) (table : List ℕ) (steps : Option CompactSteps) (reply_old reply_new : List ℕ) (outcome : Outcome) → compact_asked statement ≡ Some (table, steps)
    → definition_of table known.tables ≡ None → IsRefused (Some (NoTable table)) reply_old reply_new outcome → IsPrepared known statement reply_old reply_new (Answered outcome)
compact_absent known statement table steps reply_old reply_new outcome is absent refused =
    refuses known statement (Some (NoTable table)) reply_old reply_new outcome (table_refused known statement table steps is absent) refused
