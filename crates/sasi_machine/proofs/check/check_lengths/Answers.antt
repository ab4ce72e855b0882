use Rattle.sasi_model.specs.Refusals.{each, time_rules, value_too_long}
use Rattle.sasi_schema.specs.Defined.{definition}
use Rattle.sasi_machine.specs.Faults.{refusal_of_fault}
use Rattle.sasi_machine.proofs.CheckSteps.{pair_fails, pair_passes}
use Rattle.sasi_machine.proofs.check.check_lengths.Goals as goal

pub returns-in_err-check_literals-clause-answers : goal.returns-in_err-check_literals-clause-answers
returns-in_err-check_literals-clause-answers c =
    let d = definition c.args.table.now in
    let sets = c.args.sets.now in
    let relation = c.args.relation.now in
    pair_fails refusal_of_fault (each (value_too_long d) sets) (value_too_long d relation.column relation.value) (time_rules c.args.max_timestamp c.args.time) c.from_residual.result
    c.in_err-check_literals.field-0.0 c.from_residual.ensures.1 c.in_err-check_literals.ensures

pub returns-clause-answers : goal.returns-clause-answers
returns-clause-answers c =
    let d = definition c.args.table.now in
    let sets = c.args.sets.now in
    let relation = c.args.relation.now in
    pair_passes refusal_of_fault (each (value_too_long d) sets) (value_too_long d relation.column relation.value) (time_rules c.args.max_timestamp c.args.time) c.time_of.result
    c.in_ok-check_literals.ensures c.time_of.ensures.answers
