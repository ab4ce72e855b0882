-- What is known of the definition of an index.
use Rattle.std.specs.Prelude.{◌≡◌, ℕ, ◌-◌, ◌<◌, ◌≤◌, List, [], length, is_some, slice_get, Some}
use Rattle.sasi_types.specs.declared.column.ColumnType.{ColumnType}
use Rattle.sasi_types.specs.declared.index_def.IndexDef.{IndexDef}
use Rattle.sasi_model.specs.Indexes.{is_text}
use Rattle.sasi_model.specs.State.{Column, Definition}
use Rattle.sasi_model.specs.Abbreviations.{kind_of}

-- the type of the column with a number, where the key stands at this position among the columns
abbrev pub kind_at : List Column → ℕ → ℕ → ColumnType
kind_at columns key column = kind_of (record { name = []; columns = columns; key = key; indexes = [] }) column

-- It is an index of the table with this number, these columns and the key at this position: its column is there and isn't the
-- key, its kind is the column's type, and an index of texts has a rule, and no other has one.
pub record IsIndexOf (number : ℕ) (columns : List Column) (key : ℕ) (def : IndexDef) : Type 0 where
  pub table : def.table ≡ number
  pub above : 1 ≤ def.column
  pub within : def.column < length columns
  pub kind : def.kind ≡ kind_at columns key def.column
  pub ruled : is_some def.rule ≡ is_text def.kind

-- It is an index of one of the tables.
pub record IsIndexIn (tables : List Definition) (def : IndexDef) : Type 0 where
  pub definition : Definition
  pub above : 1 ≤ def.table
  pub found : slice_get tables (def.table - 1) ≡ Some definition
  pub is : IsIndexOf def.table definition.columns definition.key def
