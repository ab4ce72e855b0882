use Rattle.std.proofs.Common.{arith}
use Rattle.sasi_manifest.proofs.EditBytes.{column_bytes, columns_put, names_at, put_step}
use Rattle.sasi_manifest.proofs.put.put_columns.Goals as goal

pub put_column-requires : goal.put_column-requires
put_column-requires c =
    let name = (names_at c.args.columns.now c.loop-column.column-index c.column-item.result (omega (arith, c.loop-column-test.true)) c.column-item.is c.loop-column.invariant.names).0 in
    name.short

pub loop-column-preserved : goal.loop-column-preserved
loop-column-preserved c =
    let within = c.loop-column-test.true in
    record {
      bytes = put_step column_bytes c.args.columns.now c.loop-column.column-index c.column-item.result c.loop-column.out.items c.put_column.new.out.items _ (omega (arith, within)) c.column-item.is c.in_ok-put_column.ensures c.loop-column.invariant.bytes;
      names = (names_at c.args.columns.now c.loop-column.column-index c.column-item.result (omega (arith, within)) c.column-item.is c.loop-column.invariant.names).1;
    }

pub returns : goal.returns
returns c = columns_put c.args.columns.now c.loop-column.column-index c.args.out.now.items c.loop-column.out.items c.loop-column-test.false c.loop-column.invariant.bytes
