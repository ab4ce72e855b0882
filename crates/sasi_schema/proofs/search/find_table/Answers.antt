use Rattle.std.proofs.Common.{sym, ◌∙◌}
use Rattle.sasi_schema.proofs.Rises.{number_told}
use Rattle.sasi_schema.proofs.search.find_table.Goals as goal

pub returns-then-eq-clause-number : goal.returns-then-eq-clause-number
returns-then-eq-clause-number c =
    number_told c.args.name.now c.args.tables.now c.loop-table.table-index c.table-item.result c.loop-table-test.true c.table-item.is
    (rw (← c.bytes.ensures, ← c.bytes-in-loop-table.ensures) (sym c.eq.ensures ∙ c.if-eq.true)) c.loop-table.invariant.number
