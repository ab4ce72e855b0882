use Rattle.std.proofs.Common.{◌≡◌, Some, drop}
use Rattle.sasi_ranges.specs.inside.Heads.{greatest_low}
use Rattle.sasi_ranges.proofs.intersection.greatest_low.Given as goal

abbrev pub invariant-loop-relation : goal.invariant-loop-relation
invariant-loop-relation g l = greatest_low l.streams (Some l.greatest) (drop l.relation-index l.relations) ≡ greatest_low l.streams (Some 0) l.relations
