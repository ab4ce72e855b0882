use Rattle.std.proofs.Common.{length}
use Rattle.sasi_cql.proofs.Placing.{SkippedSoFar}
use Rattle.sasi_cql.proofs.separator.skip_separators.Given as goal

abbrev pub invariant-separators : goal.invariant-separators
invariant-separators l = SkippedSoFar l.text l.left l.unclosed

abbrev pub decreases-separators : goal.decreases-separators
decreases-separators l = length l.left
