use Rattle.std.proofs.Common.{IsTrue, sym, subst, ◌∙◌, arith}
use Rattle.sasi_cells.proofs.Partitions.{no_entries, nothing_written}
use Rattle.sasi_cells.proofs.partition.Partition.is_unwritten.Goals as goal

pub returns-then-self-eq0 : goal.returns-then-self-eq0
returns-then-self-eq0 c none =
    sym c.self.view_is ∙ nothing_written c.self.inside.deleted c.self.inside.cells.items (omega (arith, c.if-self-eq0.true)) (no_entries c.self.inside.cells.items _ (sym c.self.inside.cells.ok.0) (subst IsTrue c.is_empty.ensures none))
