use Rattle.std.proofs.Common.{ℕ, ap, arith, get_or}
use Rattle.sasi_segments.specs.Prefixes.{with_prefix}
use Rattle.sasi_segments.proofs.Prefixes.{all_first, first_more}
use Rattle.sasi_segments.proofs.TermsInBytes.{nothing}
use Rattle.sasi_segments.proofs.gathered.set_prefixes.Goals as goal

pub loop-posting-preserved : goal.loop-posting-preserved
loop-posting-preserved c =
    let here = get_or c.loop-posting.postings c.loop-posting.posting-index nothing in
    first_more (with_prefix c.shared_length-shared.result c.args.terms.now) c.args.postings.now c.loop-posting.postings c.loop-posting.posting-index nothing (record here { prefix = c.prefix_in-posting.result }) (omega (arith, c.loop-posting-test.true, c.loop-posting.auto.postings))
    c.loop-posting.invariant (ap (λ (n : ℕ). record here { prefix = n }) c.prefix_in-posting.ensures)

pub returns : goal.returns
returns c = record {
  set = (
    c.shared_length-shared.result,
    c.shared_length-shared.ensures,
    all_first (with_prefix c.shared_length-shared.result c.args.terms.now) c.args.postings.now c.loop-posting.postings c.loop-posting.posting-index
        (omega (arith, c.loop-posting-test.false, c.loop-posting.auto.postings)) c.loop-posting.invariant,
  );
}
