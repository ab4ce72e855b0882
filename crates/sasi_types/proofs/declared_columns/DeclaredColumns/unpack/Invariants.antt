use Rattle.std.proofs.Common.{◌≡◌, ◌++◌, length}
use Rattle.std.specs.List.{zip}
use Rattle.sasi_types.proofs.declared_columns.DeclaredColumns.unpack.Given as goal

-- the columns so far, and those that are left
abbrev pub invariant-types : goal.invariant-types
invariant-types l = (l.fn.self ≡ l.columns ++ zip l.names l.types) × (length l.names ≡ length l.types)

abbrev pub decreases-types : goal.decreases-types
decreases-types l = length l.types
