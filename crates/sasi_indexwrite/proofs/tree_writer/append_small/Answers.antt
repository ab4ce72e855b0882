use Rattle.sasi_host.proofs.ChangeLaws.{untouched}
use Rattle.sasi_indexwrite.proofs.tree_writer.append_small.Goals as goal

pub returns-in_err-tree-clause-changes : goal.returns-in_err-tree-clause-changes
returns-in_err-tree-clause-changes g c = untouched (g.H.Host.view c.args.host.now) c.args.trees.now.file
