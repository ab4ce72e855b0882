-- What a SELECT prepares, by the table that it names.
use Rattle.std.specs.Prelude.{◌≡◌, ℕ, List, Option, None, Some}
use Rattle.std.specs.Option.{option_map}
use Rattle.sasi_types.specs.declared.statement.Select.{Select}
use Rattle.sasi_model.specs.Abbreviations.{first_refusal}
use Rattle.sasi_model.specs.Refusals.{answer_rules, select_rules}
use Rattle.sasi_schema.specs.Defined.{definition}
use Rattle.sasi_schema.specs.declared.table.Table.{Table}
use Rattle.sasi_machine.specs.StatementSteps.{IsRefused}
use Rattle.sasi_machine.specs.declared.prepared.Prepared.{Prepared}
use Rattle.sasi_machine.specs.declared.prepared.Prepared.TheVariants.{Answered, Open as Opens, Select as Selects}
use Rattle.sasi_machine.specs.declared.prepared.Selection.{Selection}

-- the SELECT, with the number of its table
pub record IsSelection (t : Table) (select : Select) (rows : Selection) : Type 0 where
  pub number : rows.table ≡ t.number
  pub select_is : rows.select ≡ select

abbrev pub Selected : Option Table → Select → Selection → Type 0
Selected None select rows = ⊥
Selected (Some t) select rows = IsSelection t select rows

-- a refusal, or the SELECT with the reply as it was
abbrev pub PreparesRows : Option Table → Select → List ℕ → List ℕ → Prepared → Type 0
PreparesRows found select reply_old reply_new (Answered outcome) = IsRefused (first_refusal (select_rules select (option_map definition found))) reply_old reply_new outcome
PreparesRows found select reply_old reply_new (Selects rows) = (first_refusal (select_rules select (option_map definition found)) ≡ None) × (reply_new ≡ reply_old) × Selected found select rows
PreparesRows found select reply_old reply_new prepared = ⊥

-- a refusal, or the OPEN with the reply as it was
abbrev pub PreparesCursor : Table → List ℕ → Select → List ℕ → List ℕ → Prepared → Type 0
PreparesCursor t cursor select reply_old reply_new (Answered outcome) = IsRefused (first_refusal (answer_rules select (Some (definition t)))) reply_old reply_new outcome
PreparesCursor t cursor select reply_old reply_new (Opens asked) =
    (first_refusal (answer_rules select (Some (definition t))) ≡ None) × (reply_new ≡ reply_old) × (asked.cursor ≡ cursor) × IsSelection t select asked.rows
PreparesCursor t cursor select reply_old reply_new prepared = ⊥
