-- The items of a CREATE TABLE, by the names of which they declare something, and what they declare.
use Rattle.std.specs.Prelude.{ℕ, List, [], ◌∷◌}
use Rattle.sasi_types.specs.declared.declaration.Declaration.{Declaration}
use Rattle.sasi_types.specs.declared.declaration.Declaration.TheVariants as item
use Rattle.sasi_cql.specs.declared.declared.Declared.{Declared}
use Rattle.sasi_cql.specs.declared.declared.Declared.TheVariants as kind

-- the item that declares this of a name
abbrev pub declaration : List ℕ → Declared → Declaration
declaration name (kind.Column type) = item.Column name type
declaration name (kind.KeyColumn type) = item.KeyColumn name type
declaration name kind.Key = item.Key name

-- the items of these names
abbrev pub declarations : List (List ℕ) → List Declared → List Declaration
declarations [] kinds = []
declarations (name ∷ names) [] = []
declarations (name ∷ names) (kind ∷ kinds) = declaration name kind ∷ declarations names kinds
