use Rattle.std.proofs.Common.{◌≡◌, None, drop}
use Rattle.sasi_ranges.specs.inside.Heads.{least_from}
use Rattle.sasi_ranges.proofs.heads.least_of.Given as goal

abbrev pub invariant-loop-head : goal.invariant-loop-head
invariant-loop-head g l = least_from l.least (drop l.head-index l.streams) ≡ least_from None l.fn.streams
