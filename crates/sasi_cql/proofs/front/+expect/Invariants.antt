use Rattle.std.proofs.Common.{length}
use Rattle.sasi_cql.proofs.front.+expect.Given as goal

abbrev pub decreases-expect : goal.decreases-expect
decreases-expect l = length l.wanted.now
