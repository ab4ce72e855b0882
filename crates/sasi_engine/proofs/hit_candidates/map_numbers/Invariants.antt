use Rattle.std.proofs.Common.{◌≡◌, ◌++◌, drop}
use Rattle.sasi_engine.specs.Plans.{map_numbers}
use Rattle.sasi_engine.proofs.hit_candidates.map_numbers.Given as goal

abbrev pub invariant-loop-part : goal.invariant-loop-part
invariant-loop-part l = l.numbers.items ++ map_numbers (drop l.part-index l.parts) ≡ map_numbers l.parts
