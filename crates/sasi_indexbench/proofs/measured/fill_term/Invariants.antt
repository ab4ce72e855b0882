use Rattle.sasi_indexwrite.specs.TermsSoFar.{AreUpTo}
use Rattle.sasi_indexbench.proofs.measured.fill_term.Given as goal

abbrev pub invariant-loop-turn : goal.invariant-loop-turn
invariant-loop-turn l = AreUpTo l.gather.postings l.last
