use Rattle.std.proofs.Common.{sym, ◌∙◌}
use Rattle.sasi_types.specs.declared.decorated_key.DecoratedKey.{DecoratedKey}
use Rattle.sasi_model.specs.Cells.{Partition}
use Rattle.sasi_model.specs.Filters.{where_of}
use Rattle.sasi_machine.proofs.Printed.{none_counted, none_printed, one_counted, row_printed}
use Rattle.sasi_machine.proofs.row_query.RowQuery.print_row.Goals as goal

pub returns-then-not-branch-clause-reply : goal.returns-then-not-branch-clause-reply
returns-then-not-branch-clause-reply g c token =
    let q = c.args.self.now in
    let entry : DecoratedKey × Partition = (record { token = token; key = c.args.key.now }, c.args.part.now) in
    none_printed q.picked.key q.picked.columns (where_of q.filter) entry c.args.reply.now (sym (c.in_ok-answers.ensures.answers token) ∙ c.if-not-branch.true)

pub returns-then-not-branch-clause-rows : goal.returns-then-not-branch-clause-rows
returns-then-not-branch-clause-rows g c token =
    let q = c.args.self.now in
    let entry : DecoratedKey × Partition = (record { token = token; key = c.args.key.now }, c.args.part.now) in
    none_counted q.picked.key q.picked.columns (where_of q.filter) entry (sym (c.in_ok-answers.ensures.answers token) ∙ c.if-not-branch.true)

pub returns-clause-reply : goal.returns-clause-reply
returns-clause-reply g c token =
    let q = c.args.self.now in
    let entry : DecoratedKey × Partition = (record { token = token; key = c.args.key.now }, c.args.part.now) in
    row_printed q.picked.key q.picked.columns (where_of q.filter) entry c.args.reply.now _ (sym (c.in_ok-answers.ensures.answers token) ∙ c.if-not-branch.false) c.in_ok-picked_row.ensures.ok

pub returns-clause-rows : goal.returns-clause-rows
returns-clause-rows g c token =
    let q = c.args.self.now in
    let entry : DecoratedKey × Partition = (record { token = token; key = c.args.key.now }, c.args.part.now) in
    one_counted q.picked.key q.picked.columns (where_of q.filter) entry (sym (c.in_ok-answers.ensures.answers token) ∙ c.if-not-branch.false)
