use Rattle.std.proofs.Common.{◌≡◌, map, take}
use Rattle.sasi_tables.specs.Held.{IsAddedToAll}
use Rattle.sasi_tables.proofs.table_maps.add_to_each.Given as goal

-- the maps so far have the index
abbrev pub invariant-loop-number : goal.invariant-loop-number
invariant-loop-number g l = record {
  added : IsAddedToAll l.def (take l.number-index l.numbers) l.fn.maps l.maps;
  kinds : map (λ b. (goal.Analyzer-dyn g (b.vtable, b.value)).kind b.value) l.kit.objects.items ≡ map (λ b. (goal.Analyzer-dyn g (b.vtable, b.value)).kind b.value) l.fn.kit.objects.items;
}
