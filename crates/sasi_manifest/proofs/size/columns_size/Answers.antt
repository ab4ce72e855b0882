use Rattle.std.proofs.Common.{arith}
use Rattle.sasi_manifest.proofs.EditBytes.{column_bytes}
use Rattle.sasi_manifest.proofs.Sizes.{columns_size, size_step}
use Rattle.sasi_manifest.proofs.size.columns_size.Goals as goal

pub loop-column-preserved : goal.loop-column-preserved
loop-column-preserved c = record {
  fits = omega (arith, c.saturating_add-size.ensures);
  counted = size_step column_bytes c.args.columns.now c.loop-column.column-index c.column-item.result c.loop-column.size c.saturating_add-size.result _ (omega (arith, c.loop-column-test.true)) c.column-item.is (omega (arith, c.saturating_add-size.ensures, c.column_size.ensures)) c.loop-column.invariant.counted;
}

pub returns : goal.returns
returns c = columns_size c.args.columns.now c.loop-column.column-index c.loop-column.size c.loop-column-test.false c.loop-column.invariant.fits c.loop-column.invariant.counted
