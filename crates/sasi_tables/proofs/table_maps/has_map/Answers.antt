use Rattle.sasi_tables.proofs.EachMap.{frozen_rise, has_here, has_nowhere, have_not_more, have_not_yet}
use Rattle.sasi_tables.proofs.table_maps.has_map.Goals as goal

pub loop-table-init : goal.loop-table-init
loop-table-init c = have_not_yet c.args.tables.now c.args.number

pub has_number-requires : goal.has_number-requires
has_number-requires c = frozen_rise c.args.tables.now c.requires c.loop-table.table-index c.table-item.result c.loop-table-test.true c.table-item.is

pub loop-table-preserved : goal.loop-table-preserved
loop-table-preserved c =
    have_not_more c.args.tables.now c.args.number c.loop-table.table-index c.table-item.result c.loop-table-test.true c.table-item.is c.has_number.result c.has_number.ensures c.loop-table.invariant c.if-has_number.false

pub returns-then-has_number : goal.returns-then-has_number
returns-then-has_number c = has_here c.args.tables.now c.args.number c.loop-table.table-index c.table-item.result c.loop-table-test.true c.table-item.is c.has_number.result c.has_number.ensures c.if-has_number.true

pub returns : goal.returns
returns c = has_nowhere c.args.tables.now c.args.number c.loop-table.table-index c.loop-table.invariant c.loop-table-test.false
