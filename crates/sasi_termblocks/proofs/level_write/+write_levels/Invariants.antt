use Rattle.std.proofs.Common.{length}
use Rattle.sasi_termblocks.proofs.level_write.+write_levels.Given as goal

abbrev pub decreases-write_levels : goal.decreases-write_levels
decreases-write_levels g l = length l.first_terms.now
