use Rattle.sasi_schema.specs.Defined.{definition}
use Rattle.sasi_machine.proofs.Accepted.{update_accepted}
use Rattle.sasi_schema.proofs.RuleLaws.{answers_exit}
use Rattle.sasi_machine.specs.Faults.{refusal_of_fault}
use Rattle.sasi_machine.proofs.builder.MutationBuilder.update.Goals as goal

pub mutation_of_update-requires-clause-ranges : goal.mutation_of_update-requires-clause-ranges
mutation_of_update-requires-clause-ranges c =
    let t = c.args.table.now in
    (update_accepted (definition t) c.args.self.now.max_timestamp t.name c.args.sets c.args.relation c.args.time t.key_is_there (rw c.as_slice.ensures at c.in_ok-time.ensures.answers)).ranges

pub mutation_of_update-requires-clause-key : goal.mutation_of_update-requires-clause-key
mutation_of_update-requires-clause-key c =
    let t = c.args.table.now in
    (update_accepted (definition t) c.args.self.now.max_timestamp t.name c.args.sets c.args.relation c.args.time t.key_is_there (rw c.as_slice.ensures at c.in_ok-time.ensures.answers)).key

pub returns-in_err-time-clause-answers : goal.returns-in_err-time-clause-answers
returns-in_err-time-clause-answers c =
    answers_exit refusal_of_fault _ c.from_residual.result c.in_err-time.field-0.0 c.from_residual.ensures.1 (rw c.as_slice.ensures at c.in_err-time.ensures.answers)

pub returns-clause-answers : goal.returns-clause-answers
returns-clause-answers c = rw c.as_slice.ensures at c.in_ok-time.ensures.answers
