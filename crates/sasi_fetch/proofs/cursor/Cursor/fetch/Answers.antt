use Rattle.sasi_host.proofs.ChangeLaws.{stays}
use Rattle.sasi_fetch.proofs.cursor.Cursor.fetch.Goals as goal

pub returns-in_err-pages-in-Often-clause-changes : goal.returns-in_err-pages-in-Often-clause-changes
returns-in_err-pages-in-Often-clause-changes g c = stays (g.H.Host.view c.args.host.now)
