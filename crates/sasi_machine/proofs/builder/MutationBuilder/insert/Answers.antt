use Rattle.std.proofs.Common.{[], ◌++◌, map}
use Rattle.std.specs.List.{zip}
use Rattle.sasi_model.specs.Refusals.{no_column, repeat_rules}
use Rattle.sasi_schema.proofs.RuleLaws.{refused_before, answers_behind, answers_exit}
use Rattle.sasi_schema.specs.Defined.{definition}
use Rattle.sasi_machine.specs.Checks.{given_rules}
use Rattle.sasi_machine.specs.Faults.{refusal_of_fault}
use Rattle.sasi_machine.proofs.KeyRules.{insert_answers}
use Rattle.sasi_machine.proofs.builder.MutationBuilder.insert.Goals as goal

pub returns-in_err-check_names-clause-answers : goal.returns-in_err-check_names-clause-answers
returns-in_err-check_names-clause-answers c =
    let d = definition c.args.table.now in
    let given = given_rules d c.args.self.now.max_timestamp (zip c.args.columns.items c.args.values.items) c.args.time in
    insert_answers refusal_of_fault c.from_residual.result d c.args.self.now.max_timestamp c.args.table.now.name c.args.columns.items (zip c.args.columns.items c.args.values.items) c.args.time c.args.table.now.key_is_there
    (answers_exit refusal_of_fault _ c.from_residual.result c.in_err-check_names.field-0.0 c.from_residual.ensures.1
    (refused_before _ (map (no_column d) c.args.columns.items) (repeat_rules [] c.args.columns.items ++ given) (rw c.as_slice.ensures.value at c.in_err-check_names.ensures)))

pub returns-in_err-check_once-clause-answers : goal.returns-in_err-check_once-clause-answers
returns-in_err-check_once-clause-answers c =
    let d = definition c.args.table.now in
    let given = given_rules d c.args.self.now.max_timestamp (zip c.args.columns.items c.args.values.items) c.args.time in
    let result = c.from_residual-in_err-check_once.result in
    insert_answers refusal_of_fault result d c.args.self.now.max_timestamp c.args.table.now.name c.args.columns.items (zip c.args.columns.items c.args.values.items) c.args.time c.args.table.now.key_is_there
    (answers_behind refusal_of_fault (map (no_column d) c.args.columns.items) (repeat_rules [] c.args.columns.items ++ given) result (rw c.as_slice.ensures.value at c.in_ok-check_names.ensures)
    (answers_exit refusal_of_fault (repeat_rules [] c.args.columns.items ++ given) result c.in_err-check_once.field-0.0 c.from_residual-in_err-check_once.ensures.1
    (refused_before _ (repeat_rules [] c.args.columns.items) given (rw c.as_slice-2.ensures.value at c.in_err-check_once.ensures))))

pub returns-clause-answers : goal.returns-clause-answers
returns-clause-answers c =
    let d = definition c.args.table.now in
    let given = given_rules d c.args.self.now.max_timestamp (zip c.args.columns.items c.args.values.items) c.args.time in
    let result = c.insert_given.result in
    insert_answers refusal_of_fault result d c.args.self.now.max_timestamp c.args.table.now.name c.args.columns.items (zip c.args.columns.items c.args.values.items) c.args.time c.args.table.now.key_is_there
    (answers_behind refusal_of_fault (map (no_column d) c.args.columns.items) (repeat_rules [] c.args.columns.items ++ given) result (rw c.as_slice.ensures.value at c.in_ok-check_names.ensures)
    (answers_behind refusal_of_fault (repeat_rules [] c.args.columns.items) given result (rw c.as_slice-2.ensures.value at c.in_ok-check_once.ensures)
    (rw c.in_ok-given.ensures at c.insert_given.ensures.answers)))
