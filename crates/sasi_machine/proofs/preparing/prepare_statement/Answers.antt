use Rattle.std.proofs.Common.{IfOk, subst, sym}
use Rattle.sasi_types.specs.declared.statement.Statement.{Statement}
use Rattle.sasi_machine.specs.Prepares.{IsPreparedFor, known_by}
use Rattle.sasi_machine.proofs.StatementPreparing.{for_any}
use Rattle.sasi_machine.proofs.preparing.prepare_statement.Goals as goal

pub returns-in-Query-clause-prepares : goal.returns-in-Query-clause-prepares
returns-in-Query-clause-prepares g c =
    subst (λ (statement : Statement). IfOk c.prepare_select.result (IsPreparedFor (known_by c.args.schema.now c.args.builder.now.max_timestamp) statement c.args.reply.now c.prepare_select.new.reply)) (sym c.in-Query.is)
    (for_any (known_by c.args.schema.now c.args.builder.now.max_timestamp) _ c.args.reply.now c.prepare_select.new.reply c.prepare_select.result c.prepare_select.ensures.prepares)

pub returns-in-OpenCursor-clause-prepares : goal.returns-in-OpenCursor-clause-prepares
returns-in-OpenCursor-clause-prepares g c =
    subst (λ (statement : Statement). IfOk c.prepare_open.result (IsPreparedFor (known_by c.args.schema.now c.args.builder.now.max_timestamp) statement c.args.reply.now c.prepare_open.new.reply)) (sym c.in-OpenCursor.is)
    (for_any (known_by c.args.schema.now c.args.builder.now.max_timestamp) _ c.args.reply.now c.prepare_open.new.reply c.prepare_open.result c.prepare_open.ensures.prepares)
