use Rattle.std.proofs.Common.{sym, ap, ◌∙◌}
use Rattle.std.specs.FinMap as fin
use Rattle.sasi_memtable.specs.MemtableView.{MemtableView}
use Rattle.sasi_memtable.proofs.Ordered.{get-from_partitions}
use Rattle.sasi_memtable.proofs.memtable.Memtable.get.Goals as goal

pub returns : goal.returns
returns c =
    c.get.ensures.value ∙ sym (get-from_partitions c.self.inside.partitions.entries c.args.key.now) ∙ ap (λ (m : MemtableView). fin.get m.partitions c.args.key.now) c.self.view_is
