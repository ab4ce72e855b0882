use Rattle.sasi_indexwrite.specs.TermsSoFar.{AreUpTo}
use Rattle.sasi_indexbench.proofs.measured.fill.Given as goal

abbrev pub invariant-loop-number : goal.invariant-loop-number
invariant-loop-number l = AreUpTo l.gather.postings l.last
