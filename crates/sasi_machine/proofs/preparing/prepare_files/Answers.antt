use Rattle.sasi_machine.proofs.StatementPreparing.{files_asks}
use Rattle.sasi_machine.proofs.preparing.prepare_files.Goals as goal

pub returns : goal.returns
returns c known reply = files_asks known reply
