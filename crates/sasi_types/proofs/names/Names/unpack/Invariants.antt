use Rattle.std.proofs.Common.{◌≡◌, ◌++◌, length}
use Rattle.sasi_types.proofs.names.Names.unpack.Given as goal

abbrev pub invariant-names : goal.invariant-names
invariant-names l = l.fn.self ≡ l.names.items ++ l.left

abbrev pub decreases-names : goal.decreases-names
decreases-names l = length l.left
