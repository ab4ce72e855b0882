use Rattle.sasi_host.proofs.ChangeLaws.{untouched}
use Rattle.sasi_indexwrite.proofs.term_writer.write_sparse.Goals as goal

pub returns-in_err-push_all-clause-changes : goal.returns-in_err-push_all-clause-changes
returns-in_err-push_all-clause-changes g c = untouched (g.H.Host.view c.args.host.now) c.args.writer.now.trees.file

pub returns-clause-changes : goal.returns-clause-changes
returns-clause-changes g c = untouched (g.H.Host.view c.args.host.now) c.args.writer.now.trees.file
