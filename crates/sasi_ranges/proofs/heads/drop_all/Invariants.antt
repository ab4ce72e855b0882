use Rattle.std.proofs.Common.{◌≡◌}
use Rattle.sasi_ranges.specs.inside.Heads.{dropped}
use Rattle.sasi_ranges.proofs.Least.{mapped_first}
use Rattle.sasi_ranges.proofs.heads.drop_all.Given as goal

abbrev pub invariant-loop-head : goal.invariant-loop-head
invariant-loop-head g l = l.streams ≡ mapped_first l.head-index (dropped l.least) l.fn.streams
