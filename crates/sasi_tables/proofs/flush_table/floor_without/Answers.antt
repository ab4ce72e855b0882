use Rattle.sasi_tables.proofs.FloorLaws.{lowering_done, lowering_first, lowering_more}
use Rattle.sasi_tables.proofs.flush_table.floor_without.Goals as goal

pub loop-held-init : goal.loop-held-init
loop-held-init c = λ book. lowering_first book c.args.table c.args.last c.args.tables.now c.requires

pub loop-held-preserved : goal.loop-held-preserved
loop-held-preserved c = λ book.
    lowering_more book c.loop-held.floor c.args.table c.args.last c.args.tables.now c.loop-held.held-index c.held-item.result (c.loop-held.invariant book) c.loop-held-test.true c.held-item.is c.lower-floor.result c.lower-floor.ensures

pub returns : goal.returns
returns c = λ book. lowering_done book c.loop-held.floor c.args.table c.args.last c.args.tables.now c.loop-held.held-index (c.loop-held.invariant book) c.loop-held-test.false
