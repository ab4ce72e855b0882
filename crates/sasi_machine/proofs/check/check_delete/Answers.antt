use Rattle.std.proofs.Common.{[], ◌∷◌, ◌++◌, map}
use Rattle.sasi_model.specs.Refusals.{no_column, no_regular_column, repeat_rules}
use Rattle.sasi_machine.specs.Checks.{kind_rules}
use Rattle.sasi_schema.proofs.RuleLaws.{answers_behind}
use Rattle.sasi_schema.specs.Defined.{definition}
use Rattle.sasi_machine.specs.Faults.{refusal_of_fault}
use Rattle.sasi_machine.proofs.CheckSteps.{fails}
use Rattle.sasi_machine.proofs.KeyRules.{delete_answers}
use Rattle.sasi_machine.proofs.check.check_delete.Goals as goal

pub returns-in_err-check_names-clause-answers : goal.returns-in_err-check_names-clause-answers
returns-in_err-check_names-clause-answers c =
    let d = definition c.args.table.now in
    let relation = c.args.relation.now in
    let named = map (no_regular_column d) c.args.columns.now in
    let column = no_column d relation.column in
    let repeats = repeat_rules [] c.args.columns.now in
    let kinds = kind_rules d c.args.max_timestamp [] relation c.args.time in
    delete_answers refusal_of_fault c.from_residual.result d c.args.max_timestamp c.args.table.now.name c.args.columns.now relation c.args.time c.args.table.now.key_is_there
    (fails refusal_of_fault named (column ∷ (repeats ++ kinds)) c.from_residual.result c.in_err-check_names.field-0.0 c.from_residual.ensures.1 c.in_err-check_names.ensures)

pub returns-in_err-check-clause-answers : goal.returns-in_err-check-clause-answers
returns-in_err-check-clause-answers c =
    let d = definition c.args.table.now in
    let relation = c.args.relation.now in
    let named = map (no_regular_column d) c.args.columns.now in
    let column = no_column d relation.column in
    let repeats = repeat_rules [] c.args.columns.now in
    let kinds = kind_rules d c.args.max_timestamp [] relation c.args.time in
    let result = c.from_residual-in_err-check.result in
    delete_answers refusal_of_fault result d c.args.max_timestamp c.args.table.now.name c.args.columns.now relation c.args.time c.args.table.now.key_is_there
    (answers_behind refusal_of_fault named (column ∷ (repeats ++ kinds)) result c.in_ok-check_names.ensures
    (fails refusal_of_fault (column ∷ []) (repeats ++ kinds) result c.in_err-check.field-0.0 c.from_residual-in_err-check.ensures.1 c.in_err-check.ensures))

pub returns-in_err-check_once-clause-answers : goal.returns-in_err-check_once-clause-answers
returns-in_err-check_once-clause-answers c =
    let d = definition c.args.table.now in
    let relation = c.args.relation.now in
    let named = map (no_regular_column d) c.args.columns.now in
    let column = no_column d relation.column in
    let repeats = repeat_rules [] c.args.columns.now in
    let kinds = kind_rules d c.args.max_timestamp [] relation c.args.time in
    let result = c.from_residual-in_err-check_once.result in
    delete_answers refusal_of_fault result d c.args.max_timestamp c.args.table.now.name c.args.columns.now relation c.args.time c.args.table.now.key_is_there
    (answers_behind refusal_of_fault named (column ∷ (repeats ++ kinds)) result c.in_ok-check_names.ensures
    (answers_behind refusal_of_fault (column ∷ []) (repeats ++ kinds) result c.in_ok-check.ensures
    (fails refusal_of_fault repeats kinds result c.in_err-check_once.field-0.0 c.from_residual-in_err-check_once.ensures.1 c.in_err-check_once.ensures)))

pub returns-clause-answers : goal.returns-clause-answers
returns-clause-answers c =
    let d = definition c.args.table.now in
    let relation = c.args.relation.now in
    let named = map (no_regular_column d) c.args.columns.now in
    let column = no_column d relation.column in
    let repeats = repeat_rules [] c.args.columns.now in
    let kinds = kind_rules d c.args.max_timestamp [] relation c.args.time in
    let result = c.check_kinds.result in
    delete_answers refusal_of_fault result d c.args.max_timestamp c.args.table.now.name c.args.columns.now relation c.args.time c.args.table.now.key_is_there
    (answers_behind refusal_of_fault named (column ∷ (repeats ++ kinds)) result c.in_ok-check_names.ensures
    (answers_behind refusal_of_fault (column ∷ []) (repeats ++ kinds) result c.in_ok-check.ensures
    (answers_behind refusal_of_fault repeats kinds result c.in_ok-check_once.ensures c.check_kinds.ensures.answers)))
