use Rattle.sasi_machine.specs.Faults.{refusal_of_fault}
use Rattle.sasi_machine.specs.Prepares.{known_by}
use Rattle.sasi_machine.proofs.StatementPreparing.{write_asks}
use Rattle.sasi_machine.proofs.StatementStepping.{refuses}
use Rattle.sasi_machine.proofs.preparing.prepare_mutation.Goals as goal

pub returns-in_ok-ok-in-Ok : goal.returns-in_ok-ok-in-Ok
returns-in_ok-ok-in-Ok c =
    record { now = write_asks (known_by c.args.schema.now c.args.builder.now.max_timestamp) c.args.statement c.in-Ok.mutation c.args.reply.now c.ok.new.reply c.requires.writing c.in-Ok.ensures.write c.in-Ok.ensures.answers c.in_ok-ok-in-Ok.ensures.ok; timeless = λ none. absurd none }

pub returns-in_ok-outcome-in-Err : goal.returns-in_ok-outcome-in-Err
returns-in_ok-outcome-in-Err c =
    record { now = refuses (known_by c.args.schema.now c.args.builder.now.max_timestamp) c.args.statement (refusal_of_fault c.in-Err.fault) c.args.reply.now c.reply_fault.new.reply c.in_ok-outcome-in-Err.outcome c.in-Err.ensures.answers c.in_ok-outcome-in-Err.ensures; timeless = λ none. absurd none }
