use Rattle.std.proofs.Common.{◌≡◌, ◌++◌, length}
use Rattle.std.specs.List.{flat_map}
use Rattle.sasi_model.specs.Statements.{columns_of, keys_of}
use Rattle.sasi_cql.specs.TableItems.{declarations}
use Rattle.sasi_cql.proofs.declarations.Declarations.split.Given as goal

-- what was taken, and what is left
abbrev pub invariant-kinds : goal.invariant-kinds
invariant-kinds l =
    (l.columns ++ flat_map columns_of (declarations l.names l.kinds) ≡ flat_map columns_of l.fn.self)
    × (l.keys ++ flat_map keys_of (declarations l.names l.kinds) ≡ flat_map keys_of l.fn.self)
    × (length l.names ≡ length l.kinds)

abbrev pub decreases-kinds : goal.decreases-kinds
decreases-kinds l = length l.kinds
