use Rattle.std.proofs.Common.{arith}
use Rattle.sasi_segments.proofs.Prefixes.{shares_all, shares_next}
use Rattle.sasi_segments.proofs.TermsInBytes.{nothing}
use Rattle.sasi_segments.proofs.gathered.shared_length.Goals as goal

pub loop-posting-preserved : goal.loop-posting-preserved
loop-posting-preserved c = (
  omega (arith, c.loop-posting.invariant.0, c.shared_with-shared.ensures.fewer),
  shares_next c.args.terms.now c.term_at-front.result.now c.args.postings.now c.loop-posting.posting-index c.loop-posting.shared c.shared_with-shared.result nothing c.loop-posting-test.true c.shared_with-shared.ensures.fewer
      c.shared_with-shared.ensures.begins c.loop-posting.invariant.1,
)

pub returns : goal.returns
returns c = shares_all c.args.terms.now c.term_at-front.result.now c.args.postings.now c.loop-posting.posting-index c.loop-posting.shared c.loop-posting-test.false c.loop-posting.invariant.1
