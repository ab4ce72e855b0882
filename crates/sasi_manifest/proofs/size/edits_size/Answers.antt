use Rattle.std.proofs.Common.{arith}
use Rattle.sasi_manifest.proofs.EditBytes.{edit_bytes}
use Rattle.sasi_manifest.proofs.Sizes.{edits_size, size_step}
use Rattle.sasi_manifest.proofs.size.edits_size.Goals as goal

pub loop-edit-preserved : goal.loop-edit-preserved
loop-edit-preserved c = record {
  fits = omega (arith, c.saturating_add-size.ensures);
  counted = size_step edit_bytes c.args.edits.now c.loop-edit.edit-index c.edit-item.result c.loop-edit.size c.saturating_add-size.result _ (omega (arith, c.loop-edit-test.true)) c.edit-item.is (omega (arith, c.saturating_add-size.ensures, c.edit_size.ensures)) c.loop-edit.invariant.counted;
}

pub returns : goal.returns
returns c = edits_size c.args.edits.now c.loop-edit.edit-index c.loop-edit.size c.loop-edit-test.false c.loop-edit.invariant.fits c.loop-edit.invariant.counted
