use Rattle.std.proofs.Common.{[], ◌∷◌, ◌++◌}
use Rattle.sasi_model.specs.Refusals.{each, key_empty, time_rules, value_too_long}
use Rattle.sasi_machine.specs.Checks.{missing_rule}
use Rattle.sasi_schema.proofs.RuleLaws.{answers_behind}
use Rattle.sasi_schema.specs.Defined.{definition}
use Rattle.sasi_machine.specs.Faults.{refusal_of_fault}
use Rattle.sasi_machine.proofs.CheckSteps.{fails}
use Rattle.sasi_machine.proofs.check.check_given_key.Goals as goal

pub returns-in_err-check_each-clause-answers : goal.returns-in_err-check_each-clause-answers
returns-in_err-check_each-clause-answers c =
    let d = definition c.args.table.now in
    let given = c.args.given.now in
    let empty = each (key_empty d) given in
    let rest = each (value_too_long d) given ++ time_rules c.args.max_timestamp c.args.time in
    let result = c.from_residual-in_err-check_each.result in
    answers_behind refusal_of_fault (missing_rule d given ∷ []) (empty ++ rest) result c.in_ok-check_key_is_given.ensures
    (fails refusal_of_fault empty rest result c.in_err-check_each.field-0.0 c.from_residual-in_err-check_each.ensures.1 c.in_err-check_each.ensures)

pub returns-in_err-check_each-2-clause-answers : goal.returns-in_err-check_each-2-clause-answers
returns-in_err-check_each-2-clause-answers c =
    let d = definition c.args.table.now in
    let given = c.args.given.now in
    let empty = each (key_empty d) given in
    let long = each (value_too_long d) given in
    let times = time_rules c.args.max_timestamp c.args.time in
    let result = c.from_residual-in_err-check_each-2.result in
    answers_behind refusal_of_fault (missing_rule d given ∷ []) (empty ++ (long ++ times)) result c.in_ok-check_key_is_given.ensures
    (answers_behind refusal_of_fault empty (long ++ times) result c.in_ok-check_each.ensures
    (fails refusal_of_fault long times result c.in_err-check_each-2.field-0.0 c.from_residual-in_err-check_each-2.ensures.1 c.in_err-check_each-2.ensures))

pub returns-clause-answers : goal.returns-clause-answers
returns-clause-answers c =
    let d = definition c.args.table.now in
    let given = c.args.given.now in
    let empty = each (key_empty d) given in
    let long = each (value_too_long d) given in
    let times = time_rules c.args.max_timestamp c.args.time in
    let result = c.time_of.result in
    answers_behind refusal_of_fault (missing_rule d given ∷ []) (empty ++ (long ++ times)) result c.in_ok-check_key_is_given.ensures
    (answers_behind refusal_of_fault empty (long ++ times) result c.in_ok-check_each.ensures
    (answers_behind refusal_of_fault long times result c.in_ok-check_each-2.ensures c.time_of.ensures.answers))
