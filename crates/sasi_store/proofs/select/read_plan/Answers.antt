use Rattle.sasi_host.proofs.ChangeLaws.{stays}
use Rattle.sasi_store.proofs.select.read_plan.Goals as goal

pub returns-in_err-pages-clause-changes : goal.returns-in_err-pages-clause-changes
returns-in_err-pages-clause-changes g c = stays (g.H.Host.view c.args.host.now)
