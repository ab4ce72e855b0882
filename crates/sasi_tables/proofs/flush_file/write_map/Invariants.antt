use Rattle.std.proofs.Common.{◌≡◌, map}
use Rattle.std.specs.FinMap as fin
use Rattle.sasi_tables.proofs.MapWriting.{WritesMap}
use Rattle.sasi_tables.proofs.flush_file.write_map.Given as goal

abbrev pub invariant-loop-key : goal.invariant-loop-key
invariant-loop-key g l = record {
  on : WritesMap (g.H.Host.view l.fn.host) (g.H.Host.view l.host) l.fn.files l.files (fin.entries l.memtable.partitions) l.key-iterator;
  kinds : map (λ b. (goal.Analyzer-dyn g (b.vtable, b.value)).kind b.value) l.kit.objects.items ≡ map (λ b. (goal.Analyzer-dyn g (b.vtable, b.value)).kind b.value) l.fn.kit.objects.items;
}
