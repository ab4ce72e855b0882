-- Names of tables and columns.
use Rattle.std.specs.Prelude.{◌≡◌, false, List, [], ◌∷◌, ◌++◌}
use Rattle.std.specs.List.{list_any}
use Rattle.sasi_host.specs.Names.{Bytes}
use Rattle.sasi_model.specs.Statements.{same}
pub use Rattle.sasi_model.specs.Naming.{IsWord, IsName}

-- the name is none of these
abbrev pub IsFree : List Bytes → Bytes → Type 0
IsFree taken name = list_any (same name) taken ≡ false

-- the names differ from these and from one another
abbrev pub AreApart : List Bytes → List Bytes → Type 0
AreApart taken [] = Unit {0}
AreApart taken (name ∷ names) = IsFree taken name × AreApart (taken ++ name ∷ []) names

abbrev pub AreNames : List Bytes → Type 0
AreNames [] = Unit {0}
AreNames (name ∷ names) = IsName name × AreNames names
