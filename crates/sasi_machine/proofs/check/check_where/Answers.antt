use Rattle.std.proofs.Common.{[], ◌∷◌}
use Rattle.sasi_model.specs.Refusals.{key_empty}
use Rattle.sasi_machine.specs.Checks.{length_rules, other_key_rule}
use Rattle.sasi_schema.proofs.RuleLaws.{answers_behind}
use Rattle.sasi_schema.specs.Defined.{definition}
use Rattle.sasi_machine.specs.Faults.{refusal_of_fault}
use Rattle.sasi_machine.proofs.CheckSteps.{fails}
use Rattle.sasi_machine.proofs.check.check_where.Goals as goal

pub returns-in_err-check-clause-answers : goal.returns-in_err-check-clause-answers
returns-in_err-check-clause-answers c =
    let d = definition c.args.table.now in
    let relation = c.args.relation.now in
    let empty = key_empty d relation.column relation.value in
    let rest = length_rules d c.args.max_timestamp c.args.sets.now relation c.args.time in
    let result = c.from_residual-in_err-check.result in
    answers_behind refusal_of_fault (other_key_rule d relation.column ∷ []) (empty ∷ rest) result c.in_ok-check_is_key.ensures
    (fails refusal_of_fault (empty ∷ []) rest result c.in_err-check.field-0.0 c.from_residual-in_err-check.ensures.1 c.in_err-check.ensures)

pub returns-clause-answers : goal.returns-clause-answers
returns-clause-answers c =
    let d = definition c.args.table.now in
    let relation = c.args.relation.now in
    let empty = key_empty d relation.column relation.value in
    let rest = length_rules d c.args.max_timestamp c.args.sets.now relation c.args.time in
    answers_behind refusal_of_fault (other_key_rule d relation.column ∷ []) (empty ∷ rest) c.check_lengths.result c.in_ok-check_is_key.ensures
    (answers_behind refusal_of_fault (empty ∷ []) rest c.check_lengths.result c.in_ok-check.ensures c.check_lengths.ensures.answers)
