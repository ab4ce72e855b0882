-- Relations by their parts.
use Rattle.std.specs.Prelude.{ℕ, List, [], ◌∷◌}
use Rattle.sasi_types.specs.declared.literal.Literal.{Literal}
use Rattle.sasi_types.specs.declared.relation.Relation.{Relation}
use Rattle.sasi_types.specs.declared.relation.Test.{Test}

-- the relations of these columns, tests and values
abbrev pub related : List (List ℕ) → List Test → List Literal → List Relation
related [] tests values = []
related (column ∷ columns) [] values = []
related (column ∷ columns) (test ∷ tests) [] = []
related (column ∷ columns) (test ∷ tests) (value ∷ values) = record { column = column; test = test; value = value } ∷ related columns tests values
