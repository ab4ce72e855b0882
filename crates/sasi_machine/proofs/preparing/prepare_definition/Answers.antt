use Rattle.std.proofs.Common.{subst}
use Rattle.sasi_types.specs.declared.statement.Statement.TheVariants.{CreateTable}
use Rattle.sasi_schema.specs.Faults as schema
use Rattle.sasi_machine.specs.StatementSteps.{IsRefused}
use Rattle.sasi_machine.specs.Prepares.{known_by}
use Rattle.sasi_machine.proofs.StatementPreparing.{create_asks}
use Rattle.sasi_machine.proofs.StatementStepping.{refuses}
use Rattle.sasi_machine.proofs.preparing.prepare_definition.Goals as goal

pub returns-in_ok-ok-in-Ok : goal.returns-in_ok-ok-in-Ok
returns-in_ok-ok-in-Ok c max_time =
    create_asks (known_by c.args.schema.now max_time) c.args.table.now c.args.columns.now c.args.keys.now c.in-Ok.table c.args.reply.now c.ok.new.reply c.in-Ok.ensures.answers c.in-Ok.ensures.made c.in-Ok.ensures.number c.in_ok-ok-in-Ok.ensures.ok

pub returns-in_ok-outcome-in-Err : goal.returns-in_ok-outcome-in-Err
returns-in_ok-outcome-in-Err c max_time =
    let o = c.in_ok-outcome-in-Err.outcome in
    refuses (known_by c.args.schema.now max_time) (CreateTable c.args.table.now c.args.columns.now c.args.keys.now) (schema.refusal_of_fault c.in-Err.fault) c.args.reply.now c.reply_fault.new.reply o c.in-Err.ensures.answers
    (subst (λ refused. IsRefused refused c.args.reply.now c.reply_fault.new.reply o) c.of_schema.ensures c.in_ok-outcome-in-Err.ensures)
