use Rattle.std.proofs.Common.{◌≡◌}
use Rattle.sasi_ranges.specs.inside.Meets.{singles}
use Rattle.sasi_ranges.proofs.relation_streams.each_alone.Given as goal

abbrev pub invariant-loop-at : goal.invariant-loop-at
invariant-loop-at l = l.relations ≡ singles l.at
