use Rattle.sasi_machine.proofs.StatementPreparing.{trace_asks}
use Rattle.sasi_machine.proofs.preparing.prepare_trace.Goals as goal

pub returns : goal.returns
returns c known = trace_asks known c.args.on c.args.reply.now c.ok.new.reply c.in_ok-ok.ensures.ok
