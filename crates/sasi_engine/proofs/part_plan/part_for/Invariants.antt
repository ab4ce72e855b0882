use Rattle.std.proofs.Common.{◌≡◌, drop}
use Rattle.sasi_engine.specs.inside.Sources.{part_for}
use Rattle.sasi_engine.proofs.part_plan.part_for.Given as goal

abbrev pub invariant-loop-part : goal.invariant-loop-part
invariant-loop-part l = part_for l.index (drop l.part-index l.parts) ≡ part_for l.index l.parts
