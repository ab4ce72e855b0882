use Rattle.std.proofs.Common.{◌≡◌, ◌++◌, length}
use Rattle.sasi_types.specs.Related.{related}
use Rattle.sasi_types.proofs.relations.Relations.unpack.Given as goal

-- the relations so far, and those that are left
abbrev pub invariant-tests : goal.invariant-tests
invariant-tests l = (l.fn.self ≡ l.relations.items ++ related l.columns l.tests l.values) × (length l.columns ≡ length l.tests) × (length l.values ≡ length l.tests)

abbrev pub decreases-tests : goal.decreases-tests
decreases-tests l = length l.tests
