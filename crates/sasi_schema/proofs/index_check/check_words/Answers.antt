use Rattle.std.proofs.Common.{[], ◌++◌}
use Rattle.sasi_model.specs.Indexes.{class_given}
use Rattle.sasi_model.specs.Refusals.{option_rules}
use Rattle.sasi_schema.proofs.RuleLaws.{refused_before, answers_behind, answers_exit}
use Rattle.sasi_schema.specs.Checks.{mode_rules, using_rules}
use Rattle.sasi_schema.specs.Faults.{refusal_of_fault}
use Rattle.sasi_schema.proofs.index_check.check_words.Goals as goal

pub returns-in_err-check_options : goal.returns-in_err-check_options
returns-in_err-check_options c =
    let options = c.args.options.now in
    let allowed = option_rules c.args.kind (class_given options) [] options in
    let modes = mode_rules c.args.column.now c.args.number c.args.kind options in
    let result = c.from_residual-in_err-check_options.result in
    answers_behind refusal_of_fault (using_rules c.args.class.now) (allowed ++ modes) result c.in_ok-check_using.ensures
    (answers_exit refusal_of_fault _ result c.in_err-check_options.field-0.0 c.from_residual-in_err-check_options.ensures.1 (refused_before _ allowed modes (rw c.class_given.ensures at c.in_err-check_options.ensures)))

pub returns : goal.returns
returns c =
    let options = c.args.options.now in
    let allowed = option_rules c.args.kind (class_given options) [] options in
    let modes = mode_rules c.args.column.now c.args.number c.args.kind options in
    let result = c.check_mode.result in
    answers_behind refusal_of_fault (using_rules c.args.class.now) (allowed ++ modes) result c.in_ok-check_using.ensures
    (answers_behind refusal_of_fault allowed modes result (rw c.class_given.ensures at c.in_ok-check_options.ensures) c.check_mode.ensures)
