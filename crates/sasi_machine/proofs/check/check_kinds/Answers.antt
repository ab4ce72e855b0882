use Rattle.sasi_model.specs.Refusals.{each, wrong_type, wrong_where}
use Rattle.sasi_machine.specs.Checks.{range_rules}
use Rattle.sasi_schema.specs.Defined.{definition}
use Rattle.sasi_machine.specs.Faults.{refusal_of_fault}
use Rattle.sasi_machine.proofs.CheckSteps.{pair_fails, pair_passes}
use Rattle.sasi_machine.proofs.check.check_kinds.Goals as goal

pub returns-in_err-check_literals-clause-answers : goal.returns-in_err-check_literals-clause-answers
returns-in_err-check_literals-clause-answers c =
    let d = definition c.args.table.now in
    let sets = c.args.sets.now in
    let relation = c.args.relation.now in
    pair_fails refusal_of_fault (each (wrong_type d) sets) (wrong_where d relation.column relation.value) (range_rules d c.args.max_timestamp sets relation c.args.time) c.from_residual.result
    c.in_err-check_literals.field-0.0 c.from_residual.ensures.1 c.in_err-check_literals.ensures

pub returns-clause-answers : goal.returns-clause-answers
returns-clause-answers c =
    let d = definition c.args.table.now in
    let sets = c.args.sets.now in
    let relation = c.args.relation.now in
    pair_passes refusal_of_fault (each (wrong_type d) sets) (wrong_where d relation.column relation.value) (range_rules d c.args.max_timestamp sets relation c.args.time) c.check_ranges.result
    c.in_ok-check_literals.ensures c.check_ranges.ensures.answers
