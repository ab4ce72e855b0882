use Rattle.std.proofs.Common.{slice_get, sym, ap, ◌∙◌}
use Rattle.std.specs.FinMap as fin
use Rattle.sasi_memtable.specs.MemtableView.{MemtableView}
use Rattle.sasi_memtable.proofs.Ordered.{Entries, entries-from_ordered}
use Rattle.sasi_memtable.proofs.memtable.Memtable.at.Goals as goal

pub returns-clause-entry : goal.returns-clause-entry
returns-clause-entry c =
    c.entry_at.ensures.entry
    ∙ ap (λ (es : Entries). slice_get es c.args.position) (sym (entries-from_ordered c.self.inside.partitions.entries c.entry_at.ensures.ordered) ∙ ap (λ (m : MemtableView). fin.entries m.partitions) c.self.view_is)
