use Rattle.std.proofs.Common.{◌∙◌, refl, arith}
use Rattle.sasi_hits.proofs.OpenHitLaws.{all_begun, one_begun}
use Rattle.sasi_hits.proofs.open_searches.search_others.Goals as goal

pub loop-word-preserved : goal.loop-word-preserved
loop-word-preserved c =
    one_begun c.args.index.now c.args.op.now c.args.words.now c.loop-word.word-index c.loop-word.others.items c.push.new.self.items c.word-item.result _
    c.loop-word-test.true c.word-item.is (c.in_ok-search.ensures.asked.2 ∙ c.bytes.ensures)
    (record { fresh = c.in_ok-search.ensures.fresh; head = refl; index_is = c.in_ok-search.ensures.asked.0; op_is = c.in_ok-search.ensures.asked.1 })
    c.in_ok-push.ensures.items c.loop-word.invariant

pub returns-clause-words : goal.returns-clause-words
returns-clause-words c = all_begun c.args.index.now c.args.op.now c.args.words.now c.loop-word.word-index c.loop-word.others.items (omega (arith, c.loop-word-test.false)) c.loop-word.invariant
