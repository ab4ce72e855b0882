-- The rules of a CREATE TABLE and of a CREATE CUSTOM INDEX, by the checks that try them.
use Rattle.std.specs.Prelude.{ℕ, ◌==◌, not, nat_lt, nat_le, List, [], ◌∷◌, ◌++◌, length, map, is_some}
use Rattle.std.specs.List.{list_any}
use Rattle.sasi_model.specs.Statements.{same}
use Rattle.sasi_types.specs.declared.column.ColumnType.{ColumnType}
use Rattle.sasi_model.specs.Indexes.{IndexOption, class_given, index_named, index_on}
use Rattle.sasi_model.specs.State.{Column, Definition, definition_of, number_of_column}
use Rattle.sasi_model.specs.Refusals.{RefusalRule, index_column_rules, index_exists, mode_rule, names_in, no_column, option_rules, type_of_column, using_rule}
use Rattle.sasi_model.specs.Abbreviations.{TableExists, NoColumn, KeyMissing, TooManyTables, TooManyColumns, TABLE_LIMIT, COLUMN_LIMIT}

-- ---- a table

-- the name is free
abbrev pub name_rules : List Definition → List ℕ → List RefusalRule
name_rules tables table = (is_some (definition_of table tables), TableExists table) ∷ []

-- the keys are columns
abbrev pub key_rules : List Column → List (List ℕ) → List RefusalRule
key_rules columns keys = map (λ key. (not (list_any (same key) (names_in columns)), NoColumn key)) keys

-- there is a key, and no limit is passed
abbrev pub count_rules : List Definition → List ℕ → List Column → List (List ℕ) → List RefusalRule
count_rules tables table columns keys = (length keys == 0, KeyMissing table) ∷ (nat_le TABLE_LIMIT (length tables), TooManyTables) ∷ (nat_lt COLUMN_LIMIT (length columns), TooManyColumns) ∷ []

-- ---- an index

-- no index has the name, and none is on the column
abbrev pub taken_rules : List Definition → Definition → List ℕ → ℕ → List RefusalRule
taken_rules tables d name number = index_exists (index_named name tables) ∷ index_exists (index_on number d.indexes) ∷ []

-- the class behind USING is that of an index
abbrev pub using_rules : List ℕ → List RefusalRule
using_rules class = using_rule class ∷ []

-- the mode is for the column
abbrev pub mode_rules : List ℕ → ℕ → ColumnType → List IndexOption → List RefusalRule
mode_rules column number type options = mode_rule column number type options ∷ []

-- the class behind USING, the options, and the mode
abbrev pub word_rules : List ℕ → ℕ → ColumnType → List ℕ → List IndexOption → List RefusalRule
word_rules column number type class options = using_rules class ++ (option_rules type (class_given options) [] options ++ mode_rules column number type options)

-- the rules of an index of this name on a column that the table may have
abbrev pub column_rules : List Definition → Definition → List ℕ → List ℕ → List ℕ → List IndexOption → List RefusalRule
column_rules tables d name column class options = no_column d column ∷ index_column_rules tables d name column class options (number_of_column d column) (type_of_column d column)
