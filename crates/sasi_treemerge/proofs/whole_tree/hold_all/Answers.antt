use Rattle.std.proofs.Common.{List, subst, sym, take}
use Rattle.std.proofs.lemmas.List.{take_more}
use Rattle.std.specs.BinaryHeap.{heap_items}
use Rattle.sasi_types.specs.declared.tree.Pair.{Pair}
use Rattle.sasi_treemerge.specs.Merges.{HoldsMore}
use Rattle.sasi_treemerge.proofs.Holding.{holds_next}
use Rattle.sasi_treemerge.proofs.whole_tree.hold_all.Goals as goal

pub loop-pair-preserved : goal.loop-pair-preserved
loop-pair-preserved c =
    let here = c.loop-pair.invariant in
    record {
      put = subst (λ (l : List Pair). HoldsMore l (heap_items c.args.held.now) (heap_items c.hold.new.pairs)) (sym (take_more c.args.pairs.now c.loop-pair.pair-index _ c.loop-pair-test.true))
          (holds_next (take c.loop-pair.pair-index c.args.pairs.now) _ (heap_items c.args.held.now) (heap_items c.loop-pair.held) (heap_items c.hold.new.pairs) here.put c.in_ok-hold.ensures.put);
      heap = λ was. c.in_ok-hold.ensures.heap (here.heap was);
    }
