use Rattle.sasi_host.proofs.ChangeLaws.{untouched}
use Rattle.sasi_indexwrite.proofs.term_writer.begin_term.Goals as goal

pub returns-then-eq-clause-changes : goal.returns-then-eq-clause-changes
returns-then-eq-clause-changes g c = untouched (g.H.Host.view c.args.host.now) c.args.writer.now.trees.file
