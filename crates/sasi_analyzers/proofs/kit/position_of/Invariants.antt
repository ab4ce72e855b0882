use Rattle.std.proofs.Common.{length, ◌-◌, ◌≡◌, ◌≤◌, false, map, take}
use Rattle.sasi_analyzers.specs.Kits.{has_class}
use Rattle.sasi_analyzers.proofs.kit.position_of.Given as goal

abbrev pub invariant-objects : goal.invariant-objects
invariant-objects g l = (l.position ≤ length l.objects) × (has_class l.class (map (λ b. (goal.Analyzer-dyn g (b.vtable, b.value)).kind b.value) (take l.position l.objects)) ≡ false)

abbrev pub decreases-objects : goal.decreases-objects
decreases-objects g l = length l.objects - l.position
