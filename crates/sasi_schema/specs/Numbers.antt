-- The numbers of tables: from 1, in the order of their creation.
use Rattle.std.specs.Prelude.{◌≡◌, ℕ, suc, List, [], ◌∷◌, Option, None, Some, if◌then◌else◌, ⊤}
use Rattle.sasi_model.specs.Statements.{same}
use Rattle.sasi_model.specs.State.{Definition, Column, position_in}
use Rattle.sasi_model.specs.Abbreviations.{one_more, column_at, name_or_none}

-- the number of the table of a name
abbrev pub number_of_table : List ℕ → List Definition → Option ℕ
number_of_table name [] = None
number_of_table name (d ∷ ds) = if same d.name name then Some 1 else one_more (number_of_table name ds)

-- numbers that rise by one from this one on
abbrev pub RisesFrom : ℕ → List ℕ → Type 0
RisesFrom n [] = ⊤
RisesFrom n (number ∷ numbers) = (number ≡ n) × RisesFrom (suc n) numbers

-- the first column of the key's name is the key
abbrev pub IsKeyAt : ℕ → List Column → Type 0
IsKeyAt key columns = position_in (name_or_none (column_at key columns)) columns ≡ Some key
