use Rattle.std.proofs.Common.{IfOk, subst, sym}
use Rattle.sasi_types.specs.declared.statement.Statement.{Statement}
use Rattle.sasi_machine.specs.Prepares.{IsPreparedFor, known_by}
use Rattle.sasi_machine.proofs.StatementPreparing.{for_any, for_every}
use Rattle.sasi_machine.proofs.preparing.prepare_other.Goals as goal

pub returns-in-CreateTable : goal.returns-in-CreateTable
returns-in-CreateTable c =
    subst (λ (statement : Statement). IfOk c.prepare_table.result (IsPreparedFor (known_by c.args.schema.now c.args.builder.now.max_timestamp) statement c.args.reply.now c.prepare_table.new.reply)) (sym c.in-CreateTable.is)
    (for_any (known_by c.args.schema.now c.args.builder.now.max_timestamp) _ c.args.reply.now c.prepare_table.new.reply c.prepare_table.result c.prepare_table.ensures)

pub returns-in-CreateIndex : goal.returns-in-CreateIndex
returns-in-CreateIndex c =
    subst (λ (statement : Statement). IfOk c.prepare_index.result (IsPreparedFor (known_by c.args.schema.now c.args.builder.now.max_timestamp) statement c.args.reply.now c.prepare_index.new.reply)) (sym c.in-CreateIndex.is)
    (for_any (known_by c.args.schema.now c.args.builder.now.max_timestamp) _ c.args.reply.now c.prepare_index.new.reply c.prepare_index.result (rw c.as_ref.ensures.value at (c.prepare_index.ensures c.in-CreateIndex.stepped)))

pub returns-in-Trace : goal.returns-in-Trace
returns-in-Trace c =
    subst (λ (statement : Statement). IfOk c.prepare_trace.result (IsPreparedFor (known_by c.args.schema.now c.args.builder.now.max_timestamp) statement c.args.reply.now c.prepare_trace.new.reply)) (sym c.in-Trace.is)
    (for_every (known_by c.args.schema.now c.args.builder.now.max_timestamp) _ c.args.reply.now c.prepare_trace.new.reply c.prepare_trace.result c.prepare_trace.ensures)

pub returns-in-ShowFiles : goal.returns-in-ShowFiles
returns-in-ShowFiles c =
    let known = known_by c.args.schema.now c.args.builder.now.max_timestamp in
    subst (λ (statement : Statement). IsPreparedFor known statement c.args.reply.now c.args.reply.now c.prepare_files.result) (sym c.in-ShowFiles.is)
    (record { now = c.prepare_files.ensures known c.args.reply.now; timeless = λ timeless other. c.prepare_files.ensures (record known { max_timestamp = other }) c.args.reply.now })

pub returns-in-Fetch : goal.returns-in-Fetch
returns-in-Fetch c =
    subst (λ (statement : Statement). IfOk c.prepare_fetch.result (IsPreparedFor (known_by c.args.schema.now c.args.builder.now.max_timestamp) statement c.args.reply.now c.prepare_fetch.new.reply)) (sym c.in-Fetch.is)
    (for_every (known_by c.args.schema.now c.args.builder.now.max_timestamp) _ c.args.reply.now c.prepare_fetch.new.reply c.prepare_fetch.result c.prepare_fetch.ensures)

pub returns-in-CloseCursor : goal.returns-in-CloseCursor
returns-in-CloseCursor c =
    let known = known_by c.args.schema.now c.args.builder.now.max_timestamp in
    subst (λ (statement : Statement). IsPreparedFor known statement c.args.reply.now c.args.reply.now c.prepare_close.result) (sym c.in-CloseCursor.is)
    (record { now = c.prepare_close.ensures known c.args.reply.now; timeless = λ timeless other. c.prepare_close.ensures (record known { max_timestamp = other }) c.args.reply.now })
