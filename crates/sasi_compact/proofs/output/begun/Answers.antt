use Rattle.sasi_host.proofs.ChangeLaws.{untouched}
use Rattle.sasi_compact.proofs.output.begun.Goals as goal

pub returns-in-Some-clause-changes : goal.returns-in-Some-clause-changes
returns-in-Some-clause-changes g c = untouched _ _
