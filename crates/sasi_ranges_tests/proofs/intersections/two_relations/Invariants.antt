use Rattle.std.proofs.Common.{◌≡◌, length}
use Rattle.sasi_ranges_tests.proofs.intersections.two_relations.Given as goal

abbrev pub invariant-loop-first : goal.invariant-loop-first
invariant-loop-first g l = length l.relations ≡ l.first
