use Rattle.sasi_schema.proofs.RuleLaws.{answers_exit}
use Rattle.sasi_schema.specs.Defined.{definition}
use Rattle.sasi_machine.specs.Faults.{refusal_of_fault}
use Rattle.sasi_machine.specs.Rules.{literal_rule}
use Rattle.sasi_machine.proofs.Passed.{each_told}
use Rattle.sasi_machine.proofs.literal_rule.LiteralRule.check_each.Goals as goal

pub returns-in_err-check : goal.returns-in_err-check
returns-in_err-check c =
    answers_exit refusal_of_fault _ c.from_residual.result c.in_err-check.field-0.0 c.from_residual.ensures.1
    (each_told (literal_rule c.args.self (definition c.args.table.now)) c.args.given.now c.loop-column.column-index
    c.loop-column-item.result _ c.loop-column-test.true c.loop-column-item.is c.loop-column.invariant c.in_err-check.ensures)
