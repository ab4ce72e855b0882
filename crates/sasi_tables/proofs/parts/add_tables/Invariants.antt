use Rattle.std.proofs.Common.{◌≡◌, length, map}
use Rattle.std.specs.Vec.Iter.{into_iter_items, into_iter_len}
use Rattle.sasi_tables.proofs.OpenedMaps.{IsAdding}
use Rattle.sasi_tables.proofs.parts.add_tables.Given as goal

-- the tables so far have maps with their indexes, and the others are left
abbrev pub invariant-loop-table : goal.invariant-loop-table
invariant-loop-table g l = record {
  on : IsAdding (map (λ b. (goal.Analyzer-dyn g (b.vtable, b.value)).kind b.value) l.fn.kit.objects.items) l.listed (into_iter_items l.initial.table-iterator) (into_iter_items l.table-iterator) l.maps l.last l.tables.items;
  count : into_iter_len l.table-iterator ≡ length (into_iter_items l.table-iterator);
  kinds : map (λ b. (goal.Analyzer-dyn g (b.vtable, b.value)).kind b.value) l.kit.objects.items ≡ map (λ b. (goal.Analyzer-dyn g (b.vtable, b.value)).kind b.value) l.fn.kit.objects.items;
}
