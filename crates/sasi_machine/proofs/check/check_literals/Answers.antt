use Rattle.std.proofs.Common.{[], ◌∷◌}
use Rattle.sasi_model.specs.Refusals.{each}
use Rattle.sasi_machine.specs.Rules.{literal_rule}
use Rattle.sasi_schema.proofs.RuleLaws.{answers_behind}
use Rattle.sasi_schema.specs.Defined.{definition}
use Rattle.sasi_machine.specs.Faults.{refusal_of_fault}
use Rattle.sasi_machine.proofs.CheckSteps.{fails}
use Rattle.sasi_machine.proofs.check.check_literals.Goals as goal

pub returns-in_err-check_each : goal.returns-in_err-check_each
returns-in_err-check_each c =
    let d = definition c.args.table.now in
    let relation = c.args.relation.now in
    fails refusal_of_fault (each (literal_rule c.args.of_sets d) c.args.sets.now) (literal_rule c.args.of_where d relation.column relation.value ∷ []) c.from_residual.result
    c.in_err-check_each.field-0.0 c.from_residual.ensures.1 c.in_err-check_each.ensures

pub returns : goal.returns
returns c =
    let d = definition c.args.table.now in
    let relation = c.args.relation.now in
    answers_behind refusal_of_fault (each (literal_rule c.args.of_sets d) c.args.sets.now) (literal_rule c.args.of_where d relation.column relation.value ∷ []) c.check.result
    c.in_ok-check_each.ensures c.check.ensures
