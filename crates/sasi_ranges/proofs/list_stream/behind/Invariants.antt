use Rattle.std.proofs.Common.{◌≡◌, ◌-◌, drop, length}
use Rattle.sasi_ranges.specs.Entries.{from_token}
use Rattle.sasi_ranges.proofs.list_stream.behind.Given as goal

abbrev pub invariant-loop-at : goal.invariant-loop-at
invariant-loop-at l = from_token l.token (drop l.at l.entries) ≡ from_token l.token (drop l.next l.entries)

abbrev pub decreases-loop-at : goal.decreases-loop-at
decreases-loop-at l = length l.entries - l.at
