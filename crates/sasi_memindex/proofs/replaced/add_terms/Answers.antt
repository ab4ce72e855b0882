use Rattle.std.proofs.Common.{◌≡◌, ◌∙◌, sym, ap}
use Rattle.std.specs.FinSet as set
use Rattle.sasi_memindex.proofs.PostingLaws.{add_more, all_added, one_more_of, posting_of}
use Rattle.sasi_memindex.specs.declared.posting.Posting.{Posting}
use Rattle.sasi_memindex.specs.Kept.{set_of}
use Rattle.sasi_memindex.specs.Postings.{posting}
use Rattle.sasi_memindex.proofs.replaced.add_terms.Goals as goal

pub loop-term-preserved : goal.loop-term-preserved
loop-term-preserved c =
    let cur = set_of c.loop-term.postings in
    let made : c.in_ok-new.field-0 ≡ posting c.term-item.result c.args.key.now = c.in_ok-new.ensures.made ∙ ap (λ t. posting t c.args.key.now) c.bytes.ensures in
    record {
      now = λ p. add_more cur (set_of c.add.new.postings) c.args.key.now c.args.terms.now c.loop-term.term-index c.term-item.result c.loop-term-test.true c.term-item.is (c.in_ok-add.ensures.ok ∙ ap (λ (p : Posting). set.insert cur p) made) p ∙ c.loop-term.invariant.now p;
      of = λ type terms are. one_more_of type cur (set_of c.add.new.postings) c.in_ok-new.field-0 c.in_ok-add.ensures.ok
          (posting_of type c.args.terms.now c.loop-term.term-index c.term-item.result c.loop-term-test.true c.term-item.is terms c.args.key.now c.in_ok-new.field-0 made c.in_ok-new.ensures.some)
          (c.loop-term.invariant.of type terms are);
    }

pub returns-clause-ok : goal.returns-clause-ok
returns-clause-ok c = λ p.
    sym (all_added (set_of c.loop-term.postings) c.args.key.now c.args.terms.now c.loop-term.term-index c.loop-term-test.false p) ∙ c.loop-term.invariant.now p
