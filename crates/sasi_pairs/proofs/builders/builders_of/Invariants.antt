use Rattle.std.proofs.Common.{◌≡◌, ◌++◌, drop, map}
use Rattle.sasi_pairs.specs.Gathered.{fresh}
use Rattle.sasi_pairs.proofs.builders.builders_of.Given as goal

abbrev pub invariant-loop-def : goal.invariant-loop-def
invariant-loop-def l = l.builders.items ++ map fresh (drop l.def-index l.defs) ≡ map fresh l.defs
