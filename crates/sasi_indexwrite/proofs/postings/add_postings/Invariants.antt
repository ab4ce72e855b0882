use Rattle.std.proofs.Common.{length}
use Rattle.sasi_indexwrite.proofs.Taking.{HasTaken}
use Rattle.sasi_indexwrite.proofs.postings.add_postings.Given as goal

abbrev pub invariant-loop-posting : goal.invariant-loop-posting
invariant-loop-posting g l =
    HasTaken (g.H.Host.view l.fn.host) (g.H.Host.view l.host) l.fn.gather.postings l.gather.postings l.fn.writer l.writer l.spill

abbrev pub decreases-loop-posting : goal.decreases-loop-posting
decreases-loop-posting g l = length l.gather.postings
