use Rattle.std.proofs.Common.{◌≡◌, ◌++◌, drop}
use Rattle.sasi_manifest.proofs.number_set.NumberSet.of.Given as goal

abbrev pub invariant-loop-number : goal.invariant-loop-number
invariant-loop-number l = l.set ++ drop l.number-index l.numbers ≡ l.numbers
