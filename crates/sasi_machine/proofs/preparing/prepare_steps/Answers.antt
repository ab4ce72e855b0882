use Rattle.std.proofs.Common.{Option, subst}
use Rattle.sasi_machine.specs.Prepares.{AsksSteps}
use Rattle.sasi_machine.specs.declared.prepared.CompactSteps.{CompactSteps}
use Rattle.sasi_machine.proofs.CompactPreparing.{no_steps, steps_asked}
use Rattle.sasi_machine.proofs.preparing.prepare_steps.Goals as goal

pub returns-in_ok-ok-in-Some : goal.returns-in_ok-ok-in-Some
returns-in_ok-ok-in-Some c known statement asks =
    steps_asked known statement c.args.table.now c.in-Some.steps c.args.reply.now c.ok.new.reply
    (subst (λ (o : Option CompactSteps). AsksSteps known c.args.table.now o statement) c.in-Some.is asks) c.in_ok-ok-in-Some.ensures.ok

pub returns-in_ok-outcome-in-None : goal.returns-in_ok-outcome-in-None
returns-in_ok-outcome-in-None c known statement asks =
    no_steps known statement c.args.table.now c.args.reply.now c.reply_refusal.new.reply c.in_ok-outcome-in-None.outcome
    (subst (λ (o : Option CompactSteps). AsksSteps known c.args.table.now o statement) c.in-None.is asks) (c.in_ok-outcome-in-None.ensures.reply, c.in_ok-outcome-in-None.ensures.outcome)
