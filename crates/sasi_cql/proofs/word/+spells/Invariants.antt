use Rattle.std.proofs.Common.{length}
use Rattle.sasi_cql.proofs.word.+spells.Given as goal

abbrev pub decreases-spells : goal.decreases-spells
decreases-spells l = length l.keyword.now
