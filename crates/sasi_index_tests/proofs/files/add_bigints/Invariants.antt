use Rattle.sasi_indexwrite.specs.TermsSoFar.{AreUpTo}
use Rattle.sasi_index_tests.proofs.files.add_bigints.Given as goal

abbrev pub invariant-loop-k : goal.invariant-loop-k
invariant-loop-k g l = AreUpTo l.gather.postings l.last
