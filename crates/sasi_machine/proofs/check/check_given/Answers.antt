use Rattle.std.proofs.Common.{◌++◌}
use Rattle.sasi_model.specs.Refusals.{each, number_range, wrong_type}
use Rattle.sasi_machine.specs.Checks.{given_key_rules}
use Rattle.sasi_schema.proofs.RuleLaws.{answers_behind}
use Rattle.sasi_schema.specs.Defined.{definition}
use Rattle.sasi_machine.specs.Faults.{refusal_of_fault}
use Rattle.sasi_machine.proofs.CheckSteps.{fails}
use Rattle.sasi_machine.proofs.check.check_given.Goals as goal

pub returns-in_err-check_each-clause-answers : goal.returns-in_err-check_each-clause-answers
returns-in_err-check_each-clause-answers c =
    let d = definition c.args.table.now in
    let given = c.args.given.now in
    let rest = given_key_rules d c.args.max_timestamp given c.args.time in
    fails refusal_of_fault (each (wrong_type d) given) (each (number_range d) given ++ rest) c.from_residual.result
    c.in_err-check_each.field-0.0 c.from_residual.ensures.1 c.in_err-check_each.ensures

pub returns-in_err-check_each-2-clause-answers : goal.returns-in_err-check_each-2-clause-answers
returns-in_err-check_each-2-clause-answers c =
    let d = definition c.args.table.now in
    let given = c.args.given.now in
    let rest = given_key_rules d c.args.max_timestamp given c.args.time in
    let result = c.from_residual-in_err-check_each-2.result in
    answers_behind refusal_of_fault (each (wrong_type d) given) (each (number_range d) given ++ rest) result c.in_ok-check_each.ensures
    (fails refusal_of_fault (each (number_range d) given) rest result
    c.in_err-check_each-2.field-0.0 c.from_residual-in_err-check_each-2.ensures.1 c.in_err-check_each-2.ensures)

pub returns-clause-answers : goal.returns-clause-answers
returns-clause-answers c =
    let d = definition c.args.table.now in
    let given = c.args.given.now in
    let rest = given_key_rules d c.args.max_timestamp given c.args.time in
    let result = c.check_given_key.result in
    answers_behind refusal_of_fault (each (wrong_type d) given) (each (number_range d) given ++ rest) result c.in_ok-check_each.ensures
    (answers_behind refusal_of_fault (each (number_range d) given) rest result c.in_ok-check_each-2.ensures c.check_given_key.ensures.answers)
