use Rattle.std.proofs.Common.{sym}
use Rattle.std.proofs.lemmas.Result.{IfOk-weaker}
use Rattle.sasi_machine.specs.Prepares.{known_by}
use Rattle.sasi_machine.proofs.CompactPreparing.{compact_absent}
use Rattle.sasi_machine.proofs.preparing.prepare_compact.Goals as goal

pub returns-in-Some : goal.returns-in-Some
returns-in-Some c =
    IfOk-weaker c.prepare_steps.result _ _ (λ prepared prepares max_time statement is.
    prepares (known_by c.args.schema.now max_time) statement (record { table = c.args.table; asked_is = is; numbered = sym c.in-Some.ensures.number; found = sym c.in-Some.ensures.definition })) c.prepare_steps.ensures

pub returns-in_ok-outcome-in-None : goal.returns-in_ok-outcome-in-None
returns-in_ok-outcome-in-None c max_time statement is =
    compact_absent (known_by c.args.schema.now max_time) statement c.args.table c.args.steps c.args.reply.now c.reply_refusal.new.reply c.in_ok-outcome-in-None.outcome is (sym c.in-None.ensures.definition) (c.in_ok-outcome-in-None.ensures.reply, c.in_ok-outcome-in-None.ensures.outcome)
