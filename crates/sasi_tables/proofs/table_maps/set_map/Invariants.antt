use Rattle.std.proofs.Common.{◌≡◌, Some, map, take}
use Rattle.std.specs.FinMap.{get}
use Rattle.sasi_memindex.specs.Book.{bare}
use Rattle.sasi_tables.specs.Held.{AreAdded, OthersStay}
use Rattle.sasi_tables.proofs.table_maps.set_map.Given as goal

-- the map has the indexes so far
abbrev pub invariant-loop-def : goal.invariant-loop-def
invariant-loop-def g l = record {
  added : AreAdded (take l.def-index l.defs) (Some (bare l.fn.memtable)) (get l.maps l.number);
  others : OthersStay l.number l.fn.maps l.maps;
  kinds : map (λ b. (goal.Analyzer-dyn g (b.vtable, b.value)).kind b.value) l.kit.objects.items ≡ map (λ b. (goal.Analyzer-dyn g (b.vtable, b.value)).kind b.value) l.fn.kit.objects.items;
}
