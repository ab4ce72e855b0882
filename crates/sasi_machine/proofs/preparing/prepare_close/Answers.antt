use Rattle.sasi_machine.proofs.SelectPreparing.{close_asks}
use Rattle.sasi_machine.proofs.preparing.prepare_close.Goals as goal

pub returns : goal.returns
returns c known reply = close_asks known c.args.cursor reply
