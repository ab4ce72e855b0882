use Rattle.std.proofs.Common.{ℕ, List, Option, ◌++◌, [], ◌∷◌, ap, arith, ◌∙◌}
use Rattle.std.specs.List.{flat_map}
use Rattle.sasi_types.specs.declared.decorated_key.DecoratedKey.{DecoratedKey}
use Rattle.sasi_types.specs.declared.value.Value.{Value}
use Rattle.sasi_model.specs.Abbreviations.{row_line}
use Rattle.sasi_model.specs.Cells.{Partition}
use Rattle.sasi_model.specs.Filters.{where_of}
use Rattle.sasi_machine.specs.TableRows.{rows_picked}
use Rattle.sasi_machine.proofs.Printed.{line_printed, no_line}
use Rattle.sasi_machine.proofs.table_rows.add_line.Goals as goal

pub returns-then-branch-eq0-clause-lines : goal.returns-then-branch-eq0-clause-lines
returns-then-branch-eq0-clause-lines g c = λ token.
    let q = c.args.query.now in
    let entry : DecoratedKey × Partition = (record { token = token; key = c.args.key.now }, c.args.part.now) in
    no_line (rows_picked q.picked.key q.picked.columns (where_of q.filter) (entry ∷ [])) c.in_ok-print_row.field-0 c.args.lines.now.items (c.in_ok-print_row.ensures.rows token) (omega (arith, c.if-branch-eq0.true))

pub returns-clause-lines : goal.returns-clause-lines
returns-clause-lines g c = λ token.
    let q = c.args.query.now in
    let entry : DecoratedKey × Partition = (record { token = token; key = c.args.key.now }, c.args.part.now) in
    let rows : List (List (Option Value)) = rows_picked q.picked.key q.picked.columns (where_of q.filter) (entry ∷ []) in
    line_printed rows c.print_row.new.reply c.in_ok-print_row.field-0 c.args.lines.now.items c.push_line.new.lines.items (c.in_ok-print_row.ensures.rows token) c.in_ok-print_row.ensures.few
    (omega (arith, c.if-branch-eq0.false)) (c.in_ok-print_row.ensures.reply token ∙ ap (λ (front : List ℕ). front ++ flat_map row_line rows) c.new-line.ensures) c.in_ok-push_line.ensures
