use Rattle.std.proofs.Common.{◌≡◌, ℕ, List, Option, Some, subst}
use Rattle.sasi_types.specs.declared.literal.Literal.{Literal}
use Rattle.sasi_model.specs.Refusals.{update_rules}
use Rattle.sasi_model.specs.State.{Definition, definition_of}
use Rattle.sasi_schema.specs.Answers.{Answers}
use Rattle.sasi_schema.specs.Defined.{definition}
use Rattle.sasi_machine.specs.Faults.{refusal_of_fault}
use Rattle.sasi_machine.proofs.statement_mutation.update.Goals as goal

pub returns-in_ok-sets-in-Some-clause-answers : goal.returns-in_ok-sets-in-Some-clause-answers
returns-in_ok-sets-in-Some-clause-answers c =
    let max_time = c.args.builder.now.max_timestamp in
    let found : Some (definition c.in-Some.found.now) ≡ definition_of c.args.table c.args.schema.now.definitions = c.in-Some.ensures.definition in
    subst (λ (d : Option Definition). Answers refusal_of_fault (update_rules max_time c.args.table c.args.sets.now c.args.relation.column c.args.relation.value c.args.time d) c.update.result) found
    (subst (λ (sets : List (List ℕ × Literal)). Answers refusal_of_fault (update_rules max_time c.args.table sets c.args.relation.column c.args.relation.value c.args.time (Some (definition c.in-Some.found.now))) c.update.result) c.in_ok-sets-in-Some.ensures
    c.update.ensures.answers)
