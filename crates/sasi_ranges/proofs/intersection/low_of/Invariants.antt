use Rattle.std.proofs.Common.{◌≡◌, None, drop}
use Rattle.sasi_ranges.specs.inside.Heads.{low_at}
use Rattle.sasi_ranges.proofs.intersection.low_of.Given as goal

abbrev pub invariant-loop-at : goal.invariant-loop-at
invariant-loop-at g l = low_at l.streams l.low (drop l.at-index l.positions) ≡ low_at l.streams None l.positions
