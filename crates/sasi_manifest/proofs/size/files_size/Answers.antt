use Rattle.std.proofs.Common.{arith}
use Rattle.sasi_manifest.specs.ListedFiles.{file_length}
use Rattle.sasi_manifest.proofs.Sizes.{sum_all, sum_step}
use Rattle.sasi_manifest.proofs.size.files_size.Goals as goal

pub loop-file-preserved : goal.loop-file-preserved
loop-file-preserved c = record {
  fits = omega (arith, c.saturating_add-size.ensures);
  counted = sum_step file_length c.args.files.now c.loop-file.file-index c.file-item.result c.loop-file.size c.saturating_add-size.result _ (omega (arith, c.loop-file-test.true)) c.file-item.is (omega (arith, c.saturating_add-size.ensures, c.file_size.ensures)) c.loop-file.invariant.counted;
}

pub returns : goal.returns
returns c = sum_all file_length c.args.files.now c.loop-file.file-index c.loop-file.size c.loop-file-test.false c.loop-file.invariant.fits c.loop-file.invariant.counted
