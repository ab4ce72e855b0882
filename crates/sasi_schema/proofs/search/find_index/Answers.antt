use Rattle.std.proofs.Common.{sym, ◌∙◌}
use Rattle.sasi_schema.proofs.Indexed.{index_here, index_past}
use Rattle.sasi_schema.proofs.search.find_index.Goals as goal

pub returns-in-Some : goal.returns-in-Some
returns-in-Some c =
    sym (c.loop-table.invariant ∙ index_here c.args.name.now c.args.tables.now c.loop-table.table-index c.table-item.result _ c.loop-table-test.true c.table-item.is
    (sym (rw (c.as_slice.ensures, c.in-Some.is) at c.index_in.ensures)))

pub loop-table-preserved : goal.loop-table-preserved
loop-table-preserved c =
    c.loop-table.invariant ∙ index_past c.args.name.now c.args.tables.now c.loop-table.table-index c.table-item.result c.loop-table-test.true c.table-item.is
    (sym (rw (c.as_slice.ensures, c.in_default.is) at c.index_in.ensures))
