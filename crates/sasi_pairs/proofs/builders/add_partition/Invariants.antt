use Rattle.std.proofs.Common.{◌≡◌, ◌++◌, drop, map, take}
use Rattle.sasi_pairs.specs.Gathered.{defs_of, with_partition}
use Rattle.sasi_pairs.proofs.builders.add_partition.Given as goal

abbrev pub invariant-builders : goal.invariant-builders
invariant-builders g l = record {
  filled : l.builders ≡ map (with_partition l.pair l.part) (take l.at l.fn.builders) ++ drop l.at l.fn.builders;
  defs : defs_of l.builders ≡ defs_of l.fn.builders;
  classes : map (λ b. (goal.Analyzer-dyn g (b.vtable, b.value)).kind b.value) l.kit.objects.items ≡ map (λ b. (goal.Analyzer-dyn g (b.vtable, b.value)).kind b.value) l.fn.kit.objects.items;
}
