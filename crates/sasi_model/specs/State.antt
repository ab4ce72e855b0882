-- The state of a script: tables in the order of their creation, each a finite map from keys to partitions. The map is
-- ordered by the tokens of the keys, then by their bytes. Every answer has this order.
use Rattle.std.specs.Prelude.{ℕ, suc, ◌==◌, nat_lt, slice_get, map, List, [], ◌∷◌, ◌++◌, Option, None, Some, if◌then◌else◌, unwrap_or}
use Rattle.std.specs.FinMap as map_
use Rattle.std.specs.List.{find}
use Rattle.std.specs.Option.{option_map}
use Rattle.sasi_types.specs.declared.column.ColumnType.{ColumnType}
use Rattle.sasi_types.specs.declared.mode.Mode.{Mode}
use Rattle.sasi_types.specs.declared.rule.Rule.{Rule}
use Rattle.sasi_types.specs.declared.partitioner.Partitioner.{Partitioner}
use Rattle.sasi_types.specs.declared.decorated_key.DecoratedKey.{DecoratedKey}
use Rattle.sasi_types.specs.DecoratedKey.{decorated_cmp}
use Rattle.sasi_types.specs.Token.{token_of}
use Rattle.sasi_model.specs.Tokens.{same}
use Rattle.sasi_model.specs.Cells.{Partition, empty_partition, largest, merge, max_timestamp_of}

-- a column's name and type
abbrev pub Column : Type 0
Column = List ℕ × ColumnType

-- the definition of an index by a CREATE CUSTOM INDEX
pub record Index : Type 0 where
  pub name : List ℕ
  -- the number of the indexed column, from 1
  pub column : ℕ
  pub mode : Mode
  -- how terms are made of a text; none for a number
  pub rule : Option Rule

-- the definition of a table by a CREATE TABLE, with the indexes that are defined on it
pub record Definition : Type 0 where
  pub name : List ℕ
  -- in declared order, the key column among them
  pub columns : List Column
  -- the position of the key column, from 0
  pub key : ℕ
  -- in the order of their creation
  pub indexes : List Index

pub record Table : Type 0 where
  pub definition : Definition
  pub partitions : map_.FinMap decorated_cmp Partition

pub record State : Type 0 where
  pub partitioner : Partitioner
  pub tables : List Table

-- the definition with one index more
abbrev pub with_index : Index → Definition → Definition
with_index index d = record d { indexes = d.indexes ++ index ∷ [] }

-- ---- tables

-- the definition of the table of a name
abbrev pub definition_of : List ℕ → List Definition → Option Definition
definition_of name ds = find (λ d. same d.name name) ds

-- the table of a name
abbrev pub table_of : List ℕ → List Table → Option Table
table_of name ts = find (λ t. same t.definition.name name) ts

-- the tables, with the table of that name changed
abbrev pub with_table : List ℕ → (Table → Table) → List Table → List Table
with_table name change [] = []
with_table name change (t ∷ ts) = if same t.definition.name name then change t ∷ ts else t ∷ with_table name change ts

-- ---- columns

-- the position of the first column of that name, from 0
abbrev pub position_in : List ℕ → List Column → Option ℕ
position_in name [] = None
position_in name (column ∷ columns) = if same name column.0 then Some 0 else option_map (λ n. suc n) (position_in name columns)

-- the number of the column at a position: 0 for the key, and the others from 1 in declared order, without the key
abbrev pub number_at : ℕ → ℕ → ℕ
number_at key position = if position == key then 0 else if nat_lt position key then suc position else position

-- the number of the column of a name, if the table has it
abbrev pub number_of_column : Definition → List ℕ → Option ℕ
number_of_column d name = option_map (number_at d.key) (position_in name d.columns)

-- the key column, if the table has it
abbrev pub key_column : Definition → Option Column
key_column d = slice_get d.columns d.key

-- ---- partitions

-- the decorated key: the token and the key
abbrev pub decorated : Partitioner → List ℕ → DecoratedKey
decorated partitioner key = record { token = token_of partitioner key; key = key }

-- the table after a change, which is merged into the partition of its key
abbrev pub apply : DecoratedKey → Partition → Table → Table
apply decorated_key change t = record t { partitions = map_.insert t.partitions decorated_key (merge (unwrap_or (map_.get t.partitions decorated_key) empty_partition) change) }

-- ---- times

-- the largest timestamp of the state, deletions included, and 0 if there is none
unfoldable pub max_timestamp : State → ℕ
max_timestamp s = largest (map (λ t. largest (map max_timestamp_of (map_.values t.partitions))) s.tables)
