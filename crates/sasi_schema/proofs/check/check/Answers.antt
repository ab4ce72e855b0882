use Rattle.std.proofs.Common.{[], ◌++◌}
use Rattle.sasi_model.specs.Refusals.{repeat_rules, names_in}
use Rattle.sasi_schema.proofs.RuleLaws.{refused_before, answers_behind, answers_exit}
use Rattle.sasi_schema.specs.Checks.{name_rules, key_rules, count_rules}
use Rattle.sasi_schema.specs.Defined.{definitions}
use Rattle.sasi_schema.specs.Faults.{refusal_of_fault}
use Rattle.sasi_schema.proofs.check.check.Goals as goal

pub returns-in_err-check_keys : goal.returns-in_err-check_keys
returns-in_err-check_keys c =
    let columns = c.args.columns.now in
    let keys = c.args.keys.now in
    let counts = count_rules (definitions c.args.tables.now) c.args.table.now columns keys in
    let result = c.from_residual-in_err-check_keys.result in
    answers_behind refusal_of_fault (name_rules (definitions c.args.tables.now) c.args.table.now) (key_rules columns keys ++ (repeat_rules [] (names_in columns) ++ counts)) result c.in_ok-check_name.ensures
    (answers_exit refusal_of_fault _ result c.in_err-check_keys.field-0.0 c.from_residual-in_err-check_keys.ensures.1
    (refused_before _ (key_rules columns keys) (repeat_rules [] (names_in columns) ++ counts) c.in_err-check_keys.ensures))

pub returns-in_err-check_repeats : goal.returns-in_err-check_repeats
returns-in_err-check_repeats c =
    let columns = c.args.columns.now in
    let keys = c.args.keys.now in
    let counts = count_rules (definitions c.args.tables.now) c.args.table.now columns keys in
    let result = c.from_residual-in_err-check_repeats.result in
    answers_behind refusal_of_fault (name_rules (definitions c.args.tables.now) c.args.table.now) (key_rules columns keys ++ (repeat_rules [] (names_in columns) ++ counts)) result c.in_ok-check_name.ensures
    (answers_behind refusal_of_fault (key_rules columns keys) (repeat_rules [] (names_in columns) ++ counts) result c.in_ok-check_keys.ensures
    (answers_exit refusal_of_fault _ result c.in_err-check_repeats.field-0.0 c.from_residual-in_err-check_repeats.ensures.1
    (refused_before _ (repeat_rules [] (names_in columns)) counts c.in_err-check_repeats.ensures)))

pub returns : goal.returns
returns c =
    let columns = c.args.columns.now in
    let keys = c.args.keys.now in
    let counts = count_rules (definitions c.args.tables.now) c.args.table.now columns keys in
    let result = c.check_counts.result in
    answers_behind refusal_of_fault (name_rules (definitions c.args.tables.now) c.args.table.now) (key_rules columns keys ++ (repeat_rules [] (names_in columns) ++ counts)) result c.in_ok-check_name.ensures
    (answers_behind refusal_of_fault (key_rules columns keys) (repeat_rules [] (names_in columns) ++ counts) result c.in_ok-check_keys.ensures
    (answers_behind refusal_of_fault (repeat_rules [] (names_in columns)) counts result c.in_ok-check_repeats.ensures c.check_counts.ensures))
