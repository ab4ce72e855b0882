use Rattle.sasi_cursors_tests.proofs.Counting.{rows_given, rows_gone}
use Rattle.sasi_cursors_tests.proofs.agreement.fetch.Goals as goal

pub returns-clause-given : goal.returns-clause-given
returns-clause-given c = λ session agrees. rw (c.min-given.ensures) (rows_given c.args.name.now c.args.cursors.now session agrees c.in-Some.left.now c.in-Some.ensures.value c.args.count)

pub returns-clause-agrees : goal.returns-clause-agrees
returns-clause-agrees c = λ session agrees. rw (c.min-given.ensures) (rows_gone c.args.name.now c.args.cursors.now session agrees c.in-Some.left.now c.in-Some.ensures.value c.args.count c.in-Some.ensures.once)
