use Rattle.std.proofs.Common.{◌≡◌, ◌++◌, length}
use Rattle.sasi_types.proofs.literals.Literals.unpack.Given as goal

abbrev pub invariant-literals : goal.invariant-literals
invariant-literals l = l.fn.self ≡ l.literals.items ++ l.left

abbrev pub decreases-literals : goal.decreases-literals
decreases-literals l = length l.left
