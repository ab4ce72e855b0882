use Rattle.std.proofs.Common.{arith}
use Rattle.sasi_memtable.specs.Sizes.{value_bytes}
use Rattle.sasi_memtable.proofs.Counts.{all_added, part_added}
use Rattle.sasi_memtable.proofs.size.bytes_of_values.Goals as goal

pub loop-entry-preserved : goal.loop-entry-preserved
loop-entry-preserved c = record {
  fits = omega (arith, c.saturating_add-bytes.ensures);
  counted = part_added value_bytes c.args.cells.now c.loop-entry.entry-index c.entry-item.result c.loop-entry.bytes c.saturating_add-bytes.result (omega (arith, c.loop-entry-test.true)) c.entry-item.is c.loop-entry.invariant.fits (omega (arith, c.saturating_add-bytes.ensures, c.bytes_of_value.ensures)) c.loop-entry.invariant.counted;
}

pub returns : goal.returns
returns c = all_added value_bytes c.args.cells.now c.loop-entry.entry-index c.loop-entry.bytes c.loop-entry-test.false c.loop-entry.invariant.fits c.loop-entry.invariant.counted
