use Rattle.std.proofs.Common.{◌≡◌, length, drop}
use Rattle.sasi_model.specs.Pieces.{to_byte}
use Rattle.sasi_cql.proofs.separator.behind_line.Given as goal

abbrev pub invariant-bytes : goal.invariant-bytes
invariant-bytes l = drop (to_byte 10 l.bytes) l.bytes ≡ drop (to_byte 10 l.left) l.left

abbrev pub decreases-bytes : goal.decreases-bytes
decreases-bytes l = length l.left
