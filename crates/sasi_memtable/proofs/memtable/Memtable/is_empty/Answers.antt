use Rattle.std.proofs.Common.{◌==◌, length, sym, ap, ◌∙◌}
use Rattle.std.specs.FinMap as fin
use Rattle.sasi_memtable.specs.MemtableView.{MemtableView}
use Rattle.sasi_memtable.proofs.Ordered.{entries-from_ordered}
use Rattle.sasi_memtable.proofs.memtable.Memtable.is_empty.Goals as goal

pub returns : goal.returns
returns c =
    ap (λ n. n == 0) (c.len.ensures.len ∙ ap length (sym (entries-from_ordered c.self.inside.partitions.entries c.len.ensures.ordered) ∙ ap (λ (m : MemtableView). fin.entries m.partitions) c.self.view_is))
