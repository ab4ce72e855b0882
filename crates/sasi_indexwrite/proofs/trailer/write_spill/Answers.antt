use Rattle.sasi_host.specs.Disk.{InPlace}
use Rattle.sasi_host.proofs.ChangeLaws.{touches, touches_on}
use Rattle.sasi_tokentree.specs.Writes.{KeepsBefore}
use Rattle.sasi_indexwrite.proofs.TermSteps.{few_pairs}
use Rattle.sasi_indexwrite.proofs.trailer.write_spill.Goals as goal

pub returns-in_err-tree-clause-changes : goal.returns-in_err-tree-clause-changes
returns-in_err-tree-clause-changes g c = touches _ _ c.args.file (InPlace (KeepsBefore c.args.at)) c.write.ensures.changes

pub tree_size-requires : goal.tree_size-requires
tree_size-requires g c = few_pairs c.args.at c.args.spill.now c.as_slice.result.now c.as_slice.ensures (c.in_ok-tree.ensures.fits c.requires.fits)

pub returns-in_err-blocks_at-clause-changes : goal.returns-in_err-blocks_at-clause-changes
returns-in_err-blocks_at-clause-changes g c =
    touches_on _ _ _ c.args.file (touches _ _ c.args.file (InPlace (KeepsBefore c.args.at)) c.write.ensures.changes) c.write_padding.ensures.changes

pub returns-clause-changes : goal.returns-clause-changes
returns-clause-changes g c = touches_on _ _ _ c.args.file (touches _ _ c.args.file (InPlace (KeepsBefore c.args.at)) c.write.ensures.changes) c.write_padding.ensures.changes
