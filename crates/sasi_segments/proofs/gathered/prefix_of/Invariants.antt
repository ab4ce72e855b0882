use Rattle.std.proofs.Common.{◌≡◌, ◌-◌, ◌^◌, ◌<◌, drop}
use Rattle.sasi_segments.specs.Prefixes.{joined, prefix_of}
use Rattle.sasi_segments.proofs.gathered.prefix_of.Given as goal

abbrev pub invariant-loop-i : goal.invariant-loop-i
invariant-loop-i l = (l.prefix < 256 ^ l.i) × (joined l.prefix (8 - l.i) (drop l.i l.bytes) ≡ prefix_of l.bytes)
