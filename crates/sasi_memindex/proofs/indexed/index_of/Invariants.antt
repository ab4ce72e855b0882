use Rattle.std.proofs.Common.{◌≡◌, map}
use Rattle.sasi_memindex.specs.MemIndexView.{subject}
use Rattle.sasi_memindex.proofs.BuiltIndexes.{IsIndexBefore, IsRestOf}
use Rattle.sasi_memindex.proofs.indexed.index_of.Given as goal

abbrev pub invariant-partitions : goal.invariant-partitions
invariant-partitions g l = record {
  index : IsIndexBefore l.memtable.partitions l.key-iterator l.index;
  rest : IsRestOf l.memtable.partitions l.key-iterator;
  of : subject l.index ≡ (l.def.column, (l.def.kind, l.def.rule));
  classes : map (λ b. (goal.Analyzer-dyn g (b.vtable, b.value)).kind b.value) l.kit.objects.items ≡ map (λ b. (goal.Analyzer-dyn g (b.vtable, b.value)).kind b.value) l.fn.kit.objects.items;
}
