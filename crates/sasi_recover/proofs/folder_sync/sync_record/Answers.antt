use Rattle.sasi_host.proofs.ChangeLaws.{stays}
use Rattle.sasi_recover.proofs.folder_sync.sync_record.Goals as goal

pub returns-clause-changes : goal.returns-clause-changes
returns-clause-changes g c = stays (g.H.Host.view c.args.host.now)
