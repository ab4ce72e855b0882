use Rattle.sasi_compact.proofs.Beginning.{none_deleted}
use Rattle.sasi_compact.proofs.task.CompactTask.give_up.Goals as goal

pub returns-clause-changes : goal.returns-clause-changes
returns-clause-changes g c = none_deleted _ _
