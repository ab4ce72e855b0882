use Rattle.sasi_machine.proofs.SelectPreparing.{fetch_asks, fetch_refused}
use Rattle.sasi_machine.proofs.preparing.prepare_fetch.Goals as goal

pub returns-in-Some : goal.returns-in-Some
returns-in-Some c known = fetch_asks known c.args.count _ c.args.reply.now c.in-Some.ensures.some.0 c.in-Some.ensures.some.1

pub returns-in_ok-outcome-in-None : goal.returns-in_ok-outcome-in-None
returns-in_ok-outcome-in-None c known =
    fetch_refused known c.args.cursor c.args.count c.args.reply.now c.reply_refusal.new.reply c.in_ok-outcome-in-None.outcome c.in-None.ensures.none (c.in_ok-outcome-in-None.ensures.reply, c.in_ok-outcome-in-None.ensures.outcome)
