use Rattle.std.proofs.Common.{◌≡◌}
use Rattle.std.specs.BinaryHeap.{KeepsHeap, heap_items}
use Rattle.sasi_host.specs.Buffered.{IsBuffered}
use Rattle.sasi_host.specs.PageReading.{HasRead}
use Rattle.sasi_host.specs.View.{IsThere}
use Rattle.sasi_treemerge.specs.Held.{held_cmp}
use Rattle.sasi_treemerge.specs.Merges.{IsAtHead, unread_in}
use Rattle.sasi_treemerge.proofs.Holding.{IsReading}
use Rattle.sasi_treemerge.proofs.Stepping.{Pays}
use Rattle.sasi_treemerge.proofs.whole_tree.hold_tree.Given as goal

abbrev pub invariant-loop-source : goal.invariant-loop-source
invariant-loop-source g l =
    let view = g.H.Host.view in
    record {
      there : IsThere (view l.host) l.fn.file;
      read : HasRead (g.P.PageReader.agrees l.pages) (g.P.PageReader.covers l.fn.pages) (g.P.PageReader.covers l.pages) (view l.fn.host) (view l.host) l.fn.file;
      named : l.source.tree.value.buffered.file ≡ l.fn.file;
      buffered : IsBuffered l.source.tree.value.buffered (view l.host).files;
      at_head : IsAtHead (view l.host) l.fn.file l.source;
      reading : IsReading (view l.fn.host) l.fn.file l.fn.list l.source (heap_items l.fn.held) (heap_items l.held);
      heap : KeepsHeap held_cmp (heap_items l.fn.held) (heap_items l.held);
      pays : Pays (view l.fn.host) (view l.host) l.fn.list.pairs (unread_in l.source);
    }

abbrev pub decreases-loop-source : goal.decreases-loop-source
decreases-loop-source g l = unread_in l.source
