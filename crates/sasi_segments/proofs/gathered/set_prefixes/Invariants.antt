use Rattle.sasi_segments.specs.Prefixes.{with_prefix}
use Rattle.sasi_segments.proofs.Prefixes.{AreFirst}
use Rattle.sasi_segments.proofs.gathered.set_prefixes.Given as goal

abbrev pub invariant-loop-posting : goal.invariant-loop-posting
invariant-loop-posting l = AreFirst (with_prefix l.shared l.terms) l.fn.postings l.postings l.posting-index
