use Rattle.std.proofs.Common.{◌≡◌, ◌++◌, drop}
use Rattle.sasi_engine.specs.Plans.{file_numbers}
use Rattle.sasi_engine.proofs.hit_candidates.file_numbers.Given as goal

abbrev pub invariant-loop-part : goal.invariant-loop-part
invariant-loop-part l = l.numbers.items ++ file_numbers (drop l.part-index l.parts) ≡ file_numbers l.parts
