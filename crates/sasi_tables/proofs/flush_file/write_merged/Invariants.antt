use Rattle.std.proofs.Common.{◌≡◌, map}
use Rattle.std.specs.FinMap as fin
use Rattle.sasi_tables.specs.Held.{maps_with, merged_in}
use Rattle.sasi_tables.specs.MergedMaps.{merged_after}
use Rattle.sasi_tables.proofs.MapWriting.{WritesMap}
use Rattle.sasi_tables.proofs.flush_file.write_merged.Given as goal

-- what the merge has behind the last key is left
abbrev pub invariant-loop-turn : goal.invariant-loop-turn
invariant-loop-turn g l = record {
  on : WritesMap (g.H.Host.view l.fn.host) (g.H.Host.view l.host) l.fn.files l.files (fin.entries (merged_in l.maps l.unflushed)) (merged_after l.last (maps_with l.maps l.unflushed));
  kinds : map (λ b. (goal.Analyzer-dyn g (b.vtable, b.value)).kind b.value) l.kit.objects.items ≡ map (λ b. (goal.Analyzer-dyn g (b.vtable, b.value)).kind b.value) l.fn.kit.objects.items;
}
