use Rattle.std.proofs.Common.{◌≡◌, ◌∙◌, sym, ap}
use Rattle.std.specs.FinSet as set
use Rattle.sasi_memindex.proofs.PostingLaws.{all_removed, remove_more, still_of}
use Rattle.sasi_memindex.specs.declared.posting.Posting.{Posting}
use Rattle.sasi_memindex.specs.Kept.{set_of}
use Rattle.sasi_memindex.specs.Postings.{posting}
use Rattle.sasi_memindex.proofs.replaced.remove_terms.Goals as goal

pub loop-term-preserved : goal.loop-term-preserved
loop-term-preserved c =
    let cur = set_of c.loop-term.postings in
    let new = c.remove.ensures ∙ ap (λ (p : Posting). set.remove cur p) (c.in_ok-new.ensures.made ∙ ap (λ t. posting t c.args.key.now) c.bytes.ensures) in
    record {
      now = λ p. remove_more cur (set_of c.remove.new.postings) c.args.key.now c.args.terms.now c.loop-term.term-index c.term-item.result c.loop-term-test.true c.term-item.is new p ∙ c.loop-term.invariant.now p;
      of = λ type are. still_of type cur (set_of c.remove.new.postings) c.in_ok-new.field-0 c.remove.ensures (c.loop-term.invariant.of type are);
    }

pub returns-clause-ok : goal.returns-clause-ok
returns-clause-ok c = λ p.
    sym (all_removed (set_of c.loop-term.postings) c.args.key.now c.args.terms.now c.loop-term.term-index c.loop-term-test.false p) ∙ c.loop-term.invariant.now p
