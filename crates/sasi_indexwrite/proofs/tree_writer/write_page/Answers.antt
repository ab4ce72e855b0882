use Rattle.sasi_host.proofs.ChangeLaws.{untouched}
use Rattle.sasi_indexwrite.proofs.tree_writer.write_page.Goals as goal

pub returns-then-len-lt-PAGE-clause-changes : goal.returns-then-len-lt-PAGE-clause-changes
returns-then-len-lt-PAGE-clause-changes g c = untouched (g.H.Host.view c.args.host.now) c.args.trees.now.file
