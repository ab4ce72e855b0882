-- What an INSERT, an UPDATE or a DELETE writes: the key, and the change of its partition.
use Rattle.std.specs.Prelude.{◌≡◌, ◌≤◌, ℕ, List, [], length, Option, None, Some, ⊤}
use Rattle.std.specs.List.{zip}
use Rattle.sasi_types.specs.declared.literal.Literal.{Literal}
use Rattle.sasi_types.specs.declared.literal.Literal.TheVariants.{Null}
use Rattle.sasi_types.specs.declared.literal.Number.{Number}
use Rattle.sasi_types.specs.declared.statement.Statement.{Statement}
use Rattle.sasi_types.specs.declared.statement.Statement.TheVariants.{Insert, Update, Delete}
use Rattle.sasi_cells.specs.Rows.{IsStored}
use Rattle.sasi_model.specs.Cells.{Partition, empty_partition}
use Rattle.sasi_model.specs.Refusals.{Known}
use Rattle.sasi_model.specs.State.{Definition, definition_of}
use Rattle.sasi_model.specs.Step.{delete_change, insert_change, value_given}
use Rattle.sasi_model.specs.Abbreviations.{key_literal, update_change, stored_of, COLUMN_LIMIT, key_type}
use Rattle.sasi_schema.specs.Numbers.{IsKeyAt, number_of_table}
use Rattle.sasi_machine.specs.Checks.{IsTimeOf}
use Rattle.sasi_cells.specs.declared.mutation.Mutation.{Mutation}

-- an INSERT, an UPDATE or a DELETE
abbrev pub IsWriting : Statement → Type 0
IsWriting (Insert table columns values time) = ⊤
IsWriting (Update table time sets key value) = ⊤
IsWriting (Delete table columns time key value) = ⊤
IsWriting statement = ⊥

-- the table that is written; no name where none is
abbrev pub table_named : Statement → List ℕ
table_named (Insert table columns values time) = table
table_named (Update table time sets key value) = table
table_named (Delete table columns time key value) = table
table_named statement = []

-- the time that is given
abbrev pub time_in : Statement → Option Number
time_in (Insert table columns values time) = time
time_in (Update table time sets key value) = time
time_in (Delete table columns time key value) = time
time_in statement = None

-- the literal of the key
abbrev pub key_in : Definition → Statement → Literal
key_in d (Insert table columns values time) = key_literal d (zip columns values)
key_in d (Update table time sets key value) = value
key_in d (Delete table columns time key value) = value
key_in d statement = Null

-- the change
abbrev pub change_in : Definition → ℕ → Statement → Partition
change_in d t (Insert table columns values time) = insert_change d t (zip columns values)
change_in d t (Update table time sets key value) = update_change d t sets
change_in d t (Delete table columns time key value) = delete_change d t columns
change_in d t statement = empty_partition

-- a mutation of a table of this definition: the change of the key's partition
pub record IsChange (d : Definition) (key : Literal) (change : Partition) (mutation : Mutation) : Type 0 where
  pub key_is : mutation.key ≡ stored_of (value_given (key_type d) key)
  pub stored : IsStored (key_type d) mutation.key
  pub change_is : mutation.change ≡ change

-- what an INSERT of these literals writes to the table of this definition
pub record IsInsertTo (max_timestamp : ℕ) (d : Definition) (given : List (List ℕ × Literal)) (time_given : Option Number) (mutation : Mutation) : Type 0 where
  pub time : ℕ
  pub time_is : IsTimeOf max_timestamp time_given time
  pub change : IsChange d (key_literal d given) (insert_change d time given) mutation

-- what the statement writes to the table of this definition
pub record IsWriteTo (max_timestamp : ℕ) (d : Definition) (statement : Statement) (mutation : Mutation) : Type 0 where
  pub time : ℕ
  pub time_is : IsTimeOf max_timestamp (time_in statement) time
  pub change : IsChange d (key_in d statement) (change_in d time statement) mutation

-- what the statement writes, to the table that it names
pub record IsWrite (known : Known) (statement : Statement) (w : Mutation) : Type 0 where
  pub definition : Definition
  pub found : definition_of (table_named statement) known.tables ≡ Some definition
  pub key_is_there : IsKeyAt definition.key definition.columns
  pub few : length definition.columns ≤ COLUMN_LIMIT
  pub number : number_of_table (table_named statement) known.tables ≡ Some w.table
  pub written : IsWriteTo known.max_timestamp definition statement w
