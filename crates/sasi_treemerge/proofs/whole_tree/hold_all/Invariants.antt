use Rattle.std.proofs.Common.{take}
use Rattle.std.specs.BinaryHeap.{KeepsHeap, heap_items}
use Rattle.sasi_treemerge.specs.Held.{held_cmp}
use Rattle.sasi_treemerge.specs.Merges.{HoldsMore}
use Rattle.sasi_treemerge.proofs.whole_tree.hold_all.Given as goal

abbrev pub invariant-loop-pair : goal.invariant-loop-pair
invariant-loop-pair l = record {
  put : HoldsMore (take l.pair-index l.fn.pairs) (heap_items l.fn.held) (heap_items l.held);
  heap : KeepsHeap held_cmp (heap_items l.fn.held) (heap_items l.held);
}
