use Rattle.std.proofs.Common.{IfOk, Some, ap, refl, subst, sym}
use Rattle.std.proofs.lemmas.Result.{IfOk-weaker}
use Rattle.sasi_types.specs.declared.statement.Statement.{Statement}
use Rattle.sasi_types.specs.declared.statement.Statement.TheVariants.{BeginCompact, Compact, StepCompact}
use Rattle.sasi_machine.specs.Prepares.{IsPreparedFor, known_by}
use Rattle.sasi_machine.proofs.StatementPreparing.{for_any}
use Rattle.sasi_machine.proofs.preparing.prepare_on_table.Goals as goal

pub returns-in-Flush : goal.returns-in-Flush
returns-in-Flush c =
    subst (λ (statement : Statement). IfOk c.prepare_flush.result (IsPreparedFor (known_by c.args.schema.now c.args.builder.now.max_timestamp) statement c.args.reply.now c.prepare_flush.new.reply)) (sym c.in-Flush.is)
    (for_any (known_by c.args.schema.now c.args.builder.now.max_timestamp) _ c.args.reply.now c.prepare_flush.new.reply c.prepare_flush.result c.prepare_flush.ensures)

pub returns-in-Compact : goal.returns-in-Compact
returns-in-Compact c =
    let known = known_by c.args.schema.now c.args.builder.now.max_timestamp in
    subst (λ (statement : Statement). IfOk c.prepare_compact.result (IsPreparedFor known statement c.args.reply.now c.prepare_compact.new.reply)) (sym c.in-Compact.is)
    (for_any known _ c.args.reply.now c.prepare_compact.new.reply c.prepare_compact.result (IfOk-weaker c.prepare_compact.result _ _ (λ prepared prepares max_time. prepares max_time (Compact c.in-Compact.table) refl) c.prepare_compact.ensures))

pub returns-in-BeginCompact : goal.returns-in-BeginCompact
returns-in-BeginCompact c =
    let known = known_by c.args.schema.now c.args.builder.now.max_timestamp in
    subst (λ (statement : Statement). IfOk c.prepare_compact-in-BeginCompact.result (IsPreparedFor known statement c.args.reply.now c.prepare_compact-in-BeginCompact.new.reply)) (sym c.in-BeginCompact.is)
    (for_any known _ c.args.reply.now c.prepare_compact-in-BeginCompact.new.reply c.prepare_compact-in-BeginCompact.result (IfOk-weaker c.prepare_compact-in-BeginCompact.result _ _ (λ prepared prepares max_time. prepares max_time (BeginCompact c.in-BeginCompact.table) refl) c.prepare_compact-in-BeginCompact.ensures))

pub returns-in-StepCompact : goal.returns-in-StepCompact
returns-in-StepCompact c =
    let known = known_by c.args.schema.now c.args.builder.now.max_timestamp in
    subst (λ (statement : Statement). IfOk c.prepare_compact-in-StepCompact.result (IsPreparedFor known statement c.args.reply.now c.prepare_compact-in-StepCompact.new.reply)) (sym c.in-StepCompact.is)
    (for_any known _ c.args.reply.now c.prepare_compact-in-StepCompact.new.reply c.prepare_compact-in-StepCompact.result (IfOk-weaker c.prepare_compact-in-StepCompact.result _ _ (λ prepared prepares max_time. prepares max_time (StepCompact c.in-StepCompact.table c.in-StepCompact.units) (ap (λ steps. Some (c.in-StepCompact.table, steps)) (sym c.unit_steps.ensures))) c.prepare_compact-in-StepCompact.ensures))
