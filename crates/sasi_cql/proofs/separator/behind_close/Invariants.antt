use Rattle.std.proofs.Common.{length}
use Rattle.sasi_cql.proofs.Comments.{SameClose}
use Rattle.sasi_cql.proofs.separator.behind_close.Given as goal

abbrev pub invariant-bytes : goal.invariant-bytes
invariant-bytes l = SameClose l.bytes l.left

abbrev pub decreases-bytes : goal.decreases-bytes
decreases-bytes l = length l.left
