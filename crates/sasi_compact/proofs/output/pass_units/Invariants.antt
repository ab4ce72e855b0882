use Rattle.std.proofs.Common.{◌≡◌, map}
use Rattle.sasi_compact.proofs.Units.{HasRun}
use Rattle.sasi_compact.proofs.output.pass_units.Given as goal

-- so many units are done, each of which passed a partition
abbrev pub invariant-loop-unit : goal.invariant-loop-unit
invariant-loop-unit g l = record {
  run : HasRun (g.H.Host.view l.fn.host) (g.H.Host.view l.host) l.compaction l.fn.output l.output l.unit;
  kinds : map (λ b. (goal.Analyzer-dyn g (b.vtable, b.value)).kind b.value) l.kit.objects.items ≡ map (λ b. (goal.Analyzer-dyn g (b.vtable, b.value)).kind b.value) l.fn.kit.objects.items;
}
