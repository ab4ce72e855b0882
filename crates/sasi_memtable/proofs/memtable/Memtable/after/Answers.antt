use Rattle.std.proofs.Common.{slice_get, sym, ap, ◌∙◌}
use Rattle.std.specs.FinMap as fin
use Rattle.std.specs.Option.{option_map}
use Rattle.sasi_memtable.specs.MemtableView.{MemtableView, entries_after}
use Rattle.sasi_memtable.proofs.Ordered.{Entries, entries-from_ordered}
use Rattle.sasi_memtable.proofs.memtable.Memtable.after.Goals as goal

pub returns : goal.returns
returns c =
    c.first_after.ensures.entry
    ∙ ap (λ (es : Entries). slice_get (entries_after (option_map (λ k. k.now) c.args.key) es) 0) (sym (entries-from_ordered c.self.inside.partitions.entries c.first_after.ensures.ordered) ∙ ap (λ (m : MemtableView). fin.entries m.partitions) c.self.view_is)
