use Rattle.std.proofs.Common.{◌≡◌, map}
use Rattle.sasi_ranges.specs.inside.Heads.{unread}
use Rattle.sasi_ranges.proofs.heads.headed.Given as goal

abbrev pub invariant-loop-stream : goal.invariant-loop-stream
invariant-loop-stream g l = l.heads.items ≡ map unread l.yielded
