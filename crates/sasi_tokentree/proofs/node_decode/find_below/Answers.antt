use Rattle.std.proofs.Common.{◌≡◌, ℕ, ◌+◌, ◌-◌, ◌*◌, ◌<◌, ◌∙◌, ap, subst, sym, arith}
use borrow.Author.Count.{below_more}
use Rattle.sasi_types.specs.declared.tree.Pair.{Pair}
use Rattle.sasi_host.specs.Damages.{HasAt}
use Rattle.sasi_tokentree.specs.Format.{pair_at, entry}
use Rattle.sasi_tokentree.specs.Reads.{CountsBelow}
use Rattle.sasi_tokentree.proofs.NodeParts.{disorder_in, pairs_fit, found_at, found_all, no_disorder}
use Rattle.sasi_tokentree.proofs.NodeCounts.{counts_all, counts_to, entry_read, one_after, one_smaller}
use Rattle.sasi_tokentree.proofs.node_decode.find_below.Goals as goal

pub returns-then-is_out_of_order-clause-seen : goal.returns-then-is_out_of_order-clause-seen
returns-then-is_out_of_order-clause-seen c level header =
    let some = c.is_out_of_order.ensures.some c.if-is_out_of_order.true in
    disorder_in c.args.file c.args.at c.args.bytes.now level c.args.count c.loop-index.index _ c.loop-index.last c.entry_in-pair.result c.found.result
    header c.requires.whole some (omega arith) (pairs_fit c.loop-index.last c.entry_in-pair.result c.loop-index.invariant.fits.0
    c.loop-index.invariant.fits.1 (omega arith) (omega arith))
    (c.loop-index.invariant.stands some) c.entry_in-pair.ensures.stands (c.is_out_of_order.ensures.order c.if-is_out_of_order.true)
    c.found.ensures.file c.found.ensures.at c.found.ensures.rule (omega arith) c.found.ensures.seen

pub returns-then-is_out_of_order-clause-no_false_damage : goal.returns-then-is_out_of_order-clause-no_false_damage
returns-then-is_out_of_order-clause-no_false_damage c level entries fit rising is =
    let some = c.is_out_of_order.ensures.some c.if-is_out_of_order.true in
    no_disorder level c.args.count c.loop-index.index c.args.bytes.now entries c.loop-index.last c.entry_in-pair.result c.requires.whole is rising (omega arith) some
    (c.loop-index.invariant.last level entries fit is some) (c.entry_in-pair.ensures.is level entries fit is) (c.is_out_of_order.ensures.order c.if-is_out_of_order.true)

pub returns-then-token-pair-clause-ok : goal.returns-then-token-pair-clause-ok
returns-then-token-pair-clause-ok c level entries fit rising is =
    found_at level c.args.count c.args.token c.loop-index.index c.args.bytes.now entries c.entry_in-pair.result c.requires.whole is
    rising (omega arith) (c.entry_in-pair.ensures.is level entries fit is) (omega arith) (c.loop-index.invariant.below level entries fit is)

pub returns-clause-ok : goal.returns-clause-ok
returns-clause-ok c level entries fit rising is =
    let all : c.loop-index.index ≡ c.args.count = omega arith in
    subst (λ (n : ℕ). CountsBelow entries c.args.token n) all
    (found_all level c.loop-index.index c.args.token c.args.bytes.now entries
    (c.requires.whole ∙ ap (λ (n : ℕ). 8 + 16 * n) (sym all)) is (c.loop-index.invariant.below level entries fit is))

pub loop-index-init : goal.loop-index-init
loop-index-init c = record {
  fits = (omega arith, omega arith);
  stands = λ some. absurd (omega (arith, some));
  last = λ level entries fit is some. absurd (omega (arith, some));
  below = λ level entries fit is k lt. absurd (omega (arith, lt));
  smaller = λ k lt. absurd (omega (arith, lt));
  rising = λ k lt some. absurd (omega (arith, lt));
}

pub loop-index-preserved : goal.loop-index-preserved
loop-index-preserved c =
    let bytes = c.args.bytes.now in
    let index = c.loop-index.index in
    let last = c.loop-index.last in
    let pair = c.entry_in-pair.result in
    let on = c.loop-index.invariant in
    let less : pair.token < c.args.token = omega arith in
    let back : index ≡ index + 1 - 1 = omega arith in
    let here = entry_read bytes c.args.count index pair (omega arith) c.entry_in-pair.ensures.stands (omega arith) (omega arith) in
    record {
      fits = (omega arith, omega arith);
      stands = λ some. subst (λ (n : ℕ). HasAt bytes (8 + 16 * n) (entry pair)) back c.entry_in-pair.ensures.stands;
      last = λ level entries fit is some. c.entry_in-pair.ensures.is level entries fit is ∙ ap (λ (n : ℕ). pair_at entries n) back;
      below = λ level entries fit is. below_more (λ (k : ℕ). (pair_at entries k).token < c.args.token) index (on.below level entries fit is)
          (subst (λ (p : Pair). p.token < c.args.token) (c.entry_in-pair.ensures.is level entries fit is) less);
      smaller = one_smaller bytes c.args.count c.args.token index pair here less on.smaller;
      rising = one_after bytes c.args.count index last pair (λ some. entry_read bytes c.args.count (index - 1) last (omega (arith, some)) (on.stands some) on.fits.0 on.fits.1) here
          (c.is_out_of_order.ensures.not c.if-is_out_of_order.false) on.rising;
    }

pub returns-then-token-pair-clause-counts : goal.returns-then-token-pair-clause-counts
returns-then-token-pair-clause-counts c level header =
    let bytes = c.args.bytes.now in
    let index = c.loop-index.index in
    let last = c.loop-index.last in
    let pair = c.entry_in-pair.result in
    let on = c.loop-index.invariant in
    let here = entry_read bytes c.args.count index pair (omega arith) c.entry_in-pair.ensures.stands (omega arith) (omega arith) in
    counts_to bytes level c.args.count c.args.token index pair header here (omega arith) on.smaller
    (one_after bytes c.args.count index last pair (λ some. entry_read bytes c.args.count (index - 1) last (omega (arith, some)) (on.stands some) on.fits.0 on.fits.1) here
    (c.is_out_of_order.ensures.not c.if-is_out_of_order.false) on.rising)

pub returns-clause-counts : goal.returns-clause-counts
returns-clause-counts c level header =
    counts_all c.args.bytes.now level c.args.count c.args.token c.loop-index.index (omega arith) header c.loop-index.invariant.smaller c.loop-index.invariant.rising
