-- The column types of the listed tables.
use Rattle.std.specs.Prelude.{ℕ, suc, List, [], ◌∷◌}
use Rattle.std.specs.List.{cons_option}
use Rattle.std.specs.Option.{option_map}
use Rattle.sasi_types.specs.declared.column.ColumnType.{ColumnType}
use Rattle.sasi_model.specs.Stored.{column_types}
use Rattle.sasi_manifest.specs.ListedDefinition.{ListedDefinition}

-- the numbers of the tables, from this one on, with the types of their columns
abbrev pub numbered_types : ℕ → List ListedDefinition → List (ℕ × List ColumnType)
numbered_types n [] = []
numbered_types n (table ∷ tables) = cons_option (option_map (λ types. (n, types)) (column_types table.definition)) (numbered_types (suc n) tables)
