use Rattle.sasi_machine.specs.Prepares.{known_by}
use Rattle.sasi_machine.proofs.StatementPreparing.{can_be_done}
use Rattle.sasi_machine.proofs.preparing.prepare_change.Goals as goal

pub returns-clause-can : goal.returns-clause-can
returns-clause-can c = can_be_done (known_by c.args.schema.now c.args.max_timestamp) _ c.args.reply.now c.prepare_other.new.reply c.prepare_other.result c.requires.written c.prepare_other.ensures
