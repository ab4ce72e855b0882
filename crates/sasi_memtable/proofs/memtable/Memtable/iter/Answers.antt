use Rattle.std.proofs.Common.{sym, ap, ◌∙◌}
use Rattle.std.specs.FinMap as fin
use Rattle.sasi_memtable.specs.MemtableView.{MemtableView}
use Rattle.sasi_memtable.proofs.Ordered.{entries-from_ordered}
use Rattle.sasi_memtable.proofs.memtable.Memtable.iter.Goals as goal

pub returns-clause-rest : goal.returns-clause-rest
returns-clause-rest c =
    c.iter.ensures.rest ∙ sym (entries-from_ordered c.self.inside.partitions.entries c.iter.ensures.ordered) ∙ ap (λ (m : MemtableView). fin.entries m.partitions) c.self.view_is
