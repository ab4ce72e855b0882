use Rattle.std.proofs.Common.{refl}
use Rattle.sasi_treemerge.proofs.Merging.{can_hold}
use Rattle.sasi_treemerge.proofs.merge.TreeMerge.add.Goals as goal

pub returns-then-list-clause-merge : goal.returns-then-list-clause-merge
returns-then-list-clause-merge g c =
    can_hold (g.H.Host.view c.args.host.now) (g.H.Host.view c.hold_tree.new.host) c.args.self.now _ c.hold_tree.ensures.read.changes refl refl (c.in_ok-hold_tree.ensures.heap c.requires.merge.held_heap) c.requires.merge
