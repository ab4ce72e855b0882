use Rattle.std.proofs.Common.{◌≡◌, ◌<◌, ◌≤◌, ℕ, map, slice_get, Some}
use Rattle.sasi_cells.specs.Maps.{put}
use Rattle.sasi_memindex.specs.Book.{IsKept, subjects}
use Rattle.sasi_memindex.specs.MemIndexView.{MemIndexView}
use Rattle.sasi_memindex.proofs.indexed.change_all.Given as goal

abbrev pub invariant-indexes : goal.invariant-indexes
invariant-indexes g l = record {
  done : (position : ℕ) (i : ℕ × MemIndexView) → position < l.at → slice_get l.indexes position ≡ Some i → IsKept (put l.fn.memtable.partitions l.fn.key l.fn.change) i.1;
  left : (position : ℕ) (i : ℕ × MemIndexView) → l.at ≤ position → slice_get l.indexes position ≡ Some i → slice_get l.fn.indexes position ≡ Some i;
  same : subjects l.indexes ≡ subjects l.fn.indexes;
  classes : map (λ b. (goal.Analyzer-dyn g (b.vtable, b.value)).kind b.value) l.kit.objects.items ≡ map (λ b. (goal.Analyzer-dyn g (b.vtable, b.value)).kind b.value) l.fn.kit.objects.items;
}
