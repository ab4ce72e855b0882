use Rattle.std.proofs.Common.{sym}
use Rattle.sasi_schema.specs.Defined.{definition}
use Rattle.sasi_machine.specs.Prepares.{known_by}
use Rattle.sasi_machine.proofs.StatementPreparing.{flush_asks, flush_refused}
use Rattle.sasi_machine.proofs.preparing.prepare_flush.Goals as goal

pub returns-in_ok-ok-in-Some : goal.returns-in_ok-ok-in-Some
returns-in_ok-ok-in-Some c max_time =
    flush_asks (known_by c.args.schema.now max_time) c.args.table c.in-Some.table.now.number (definition c.in-Some.table.now) c.args.reply.now c.ok.new.reply (sym c.in-Some.ensures.number) (sym c.in-Some.ensures.definition) c.in_ok-ok-in-Some.ensures.ok

pub returns-in_ok-outcome-in-None : goal.returns-in_ok-outcome-in-None
returns-in_ok-outcome-in-None c max_time =
    flush_refused (known_by c.args.schema.now max_time) c.args.table c.args.reply.now c.reply_refusal.new.reply c.in_ok-outcome-in-None.outcome (sym c.in-None.ensures.definition) (c.in_ok-outcome-in-None.ensures.reply, c.in_ok-outcome-in-None.ensures.outcome)
