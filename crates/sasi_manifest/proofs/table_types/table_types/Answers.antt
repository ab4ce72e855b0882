use Rattle.sasi_manifest.proofs.NumberedTypes.{types_more}
use Rattle.sasi_manifest.proofs.table_types.table_types.Goals as goal

pub loop-i-preserved : goal.loop-i-preserved
loop-i-preserved c =
    let t = c.index-tables-i.result in
    types_more c.args.tables.now c.loop-i.i t c.in_ok-own.own c.loop-i.types c.push.new.self _ c.loop-i-test.true c.index-tables-i.is t.table.key_is_there
    c.in_ok-own.ensures c.in_ok-push.ensures.ok c.loop-i.invariant
