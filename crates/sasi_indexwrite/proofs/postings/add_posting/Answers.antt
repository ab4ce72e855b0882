use Rattle.sasi_host.proofs.ChangeLaws.{untouched}
use Rattle.sasi_indexwrite.proofs.postings.add_posting.Goals as goal

pub returns-in_err-push-in-Spill-clause-changes : goal.returns-in_err-push-in-Spill-clause-changes
returns-in_err-push-in-Spill-clause-changes g c = untouched (g.H.Host.view c.args.host.now) c.args.writer.now.trees.file

pub returns-in_ok-push-in-Spill-clause-changes : goal.returns-in_ok-push-in-Spill-clause-changes
returns-in_ok-push-in-Spill-clause-changes g c = untouched (g.H.Host.view c.args.host.now) c.args.writer.now.trees.file
