use Rattle.std.proofs.Common.{[], ◌∷◌, ◌++◌, map}
use Rattle.sasi_model.specs.Refusals.{no_column, no_regular_column, repeat_rules}
use Rattle.sasi_machine.specs.Checks.{kind_rules}
use Rattle.sasi_schema.proofs.RuleLaws.{answers_behind}
use Rattle.sasi_schema.specs.Defined.{definition}
use Rattle.sasi_machine.specs.Faults.{refusal_of_fault}
use Rattle.sasi_machine.proofs.CheckSteps.{fails}
use Rattle.sasi_machine.proofs.KeyRules.{update_answers}
use Rattle.sasi_machine.proofs.check.check_update.Goals as goal

pub returns-in_err-check_sets-clause-answers : goal.returns-in_err-check_sets-clause-answers
returns-in_err-check_sets-clause-answers c =
    let d = definition c.args.table.now in
    let relation = c.args.relation.now in
    let named = map (λ set. no_regular_column d set.0) c.args.sets.now in
    let column = no_column d relation.column in
    let repeats = repeat_rules [] (map (λ set. set.0) c.args.sets.now) in
    let kinds = kind_rules d c.args.max_timestamp c.args.sets.now relation c.args.time in
    update_answers refusal_of_fault c.from_residual.result d c.args.max_timestamp c.args.table.now.name c.args.sets.now relation c.args.time c.args.table.now.key_is_there
    (fails refusal_of_fault named (column ∷ (repeats ++ kinds)) c.from_residual.result c.in_err-check_sets.field-0.0 c.from_residual.ensures.1 c.in_err-check_sets.ensures)

pub returns-in_err-check-clause-answers : goal.returns-in_err-check-clause-answers
returns-in_err-check-clause-answers c =
    let d = definition c.args.table.now in
    let relation = c.args.relation.now in
    let named = map (λ set. no_regular_column d set.0) c.args.sets.now in
    let column = no_column d relation.column in
    let repeats = repeat_rules [] (map (λ set. set.0) c.args.sets.now) in
    let kinds = kind_rules d c.args.max_timestamp c.args.sets.now relation c.args.time in
    let result = c.from_residual-in_err-check.result in
    update_answers refusal_of_fault result d c.args.max_timestamp c.args.table.now.name c.args.sets.now relation c.args.time c.args.table.now.key_is_there
    (answers_behind refusal_of_fault named (column ∷ (repeats ++ kinds)) result c.in_ok-check_sets.ensures
    (fails refusal_of_fault (column ∷ []) (repeats ++ kinds) result c.in_err-check.field-0.0 c.from_residual-in_err-check.ensures.1 c.in_err-check.ensures))

pub returns-in_err-check_set_once-clause-answers : goal.returns-in_err-check_set_once-clause-answers
returns-in_err-check_set_once-clause-answers c =
    let d = definition c.args.table.now in
    let relation = c.args.relation.now in
    let named = map (λ set. no_regular_column d set.0) c.args.sets.now in
    let column = no_column d relation.column in
    let repeats = repeat_rules [] (map (λ set. set.0) c.args.sets.now) in
    let kinds = kind_rules d c.args.max_timestamp c.args.sets.now relation c.args.time in
    let result = c.from_residual-in_err-check_set_once.result in
    update_answers refusal_of_fault result d c.args.max_timestamp c.args.table.now.name c.args.sets.now relation c.args.time c.args.table.now.key_is_there
    (answers_behind refusal_of_fault named (column ∷ (repeats ++ kinds)) result c.in_ok-check_sets.ensures
    (answers_behind refusal_of_fault (column ∷ []) (repeats ++ kinds) result c.in_ok-check.ensures
    (fails refusal_of_fault repeats kinds result c.in_err-check_set_once.field-0.0 c.from_residual-in_err-check_set_once.ensures.1 c.in_err-check_set_once.ensures)))

pub returns-clause-answers : goal.returns-clause-answers
returns-clause-answers c =
    let d = definition c.args.table.now in
    let relation = c.args.relation.now in
    let named = map (λ set. no_regular_column d set.0) c.args.sets.now in
    let column = no_column d relation.column in
    let repeats = repeat_rules [] (map (λ set. set.0) c.args.sets.now) in
    let kinds = kind_rules d c.args.max_timestamp c.args.sets.now relation c.args.time in
    let result = c.check_kinds.result in
    update_answers refusal_of_fault result d c.args.max_timestamp c.args.table.now.name c.args.sets.now relation c.args.time c.args.table.now.key_is_there
    (answers_behind refusal_of_fault named (column ∷ (repeats ++ kinds)) result c.in_ok-check_sets.ensures
    (answers_behind refusal_of_fault (column ∷ []) (repeats ++ kinds) result c.in_ok-check.ensures
    (answers_behind refusal_of_fault repeats kinds result c.in_ok-check_set_once.ensures c.check_kinds.ensures.answers)))
