use Rattle.std.proofs.Common.{◌≡◌, ℕ, List, Option, Some, subst}
use Rattle.std.specs.List.{zip}
use Rattle.sasi_types.specs.declared.literal.Literal.{Literal}
use Rattle.sasi_model.specs.Refusals.{insert_rules}
use Rattle.sasi_model.specs.State.{Definition, definition_of}
use Rattle.sasi_schema.specs.Answers.{Answers}
use Rattle.sasi_schema.specs.Defined.{definition}
use Rattle.sasi_machine.specs.Faults.{refusal_of_fault}
use Rattle.sasi_machine.proofs.statement_mutation.insert.Goals as goal

pub returns-in_ok-values-in-Some-clause-answers : goal.returns-in_ok-values-in-Some-clause-answers
returns-in_ok-values-in-Some-clause-answers c =
    let max_time = c.args.builder.now.max_timestamp in
    let found : Some (definition c.in-Some.found.now) ≡ definition_of c.args.table c.args.schema.now.definitions = c.in-Some.ensures.definition in
    subst (λ (d : Option Definition). Answers refusal_of_fault (insert_rules max_time c.args.table c.args.columns.now (zip c.args.columns.now c.args.values.now) c.args.time d) c.insert.result) found
    (subst (λ (values : List Literal). Answers refusal_of_fault (insert_rules max_time c.args.table c.args.columns.now (zip c.args.columns.now values) c.args.time (Some (definition c.in-Some.found.now))) c.insert.result) c.in_ok-values-in-Some.ensures
    (subst (λ (columns : List (List ℕ)). Answers refusal_of_fault (insert_rules max_time c.args.table columns (zip columns c.in_ok-values-in-Some.values.items) c.args.time (Some (definition c.in-Some.found.now))) c.insert.result) c.in_ok-columns-in-Some.ensures
    c.insert.ensures.answers))
