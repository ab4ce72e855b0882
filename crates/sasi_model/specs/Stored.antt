-- Partitions that can be stored: the ranges that the formats of logs and data files allow, and in a table the types of its
-- columns.
use Rattle.std.specs.Prelude.{◌≡◌, ℕ, ◌^◌, ◌<◌, ◌≤◌, List, [], ◌∷◌, length, map, Option, Some, IfSome, FitsSigned, slice_get}
use Rattle.std.specs.Int.{w32, w64}
use Rattle.std.specs.List.{AllByRecursion, remove}
use Rattle.std.specs.Option.{option_map}
use Rattle.std.specs.Str.{IsUtf8}
use Rattle.std.specs.FinMap as map_
use Rattle.sasi_types.specs.declared.cell.Cell.{Cell}
use Rattle.sasi_types.specs.declared.column.ColumnType.{ColumnType}
use Rattle.sasi_types.specs.declared.column.ColumnType.TheVariants as types
use Rattle.sasi_types.specs.declared.value.Value.{Value}
use Rattle.sasi_types.specs.declared.value.Value.TheVariants.{Text, Int, BigInt, Uuid}
use Rattle.sasi_types.specs.Value.{type_of}
use Rattle.sasi_model.specs.Cells.{Partition}
use Rattle.sasi_model.specs.State.{Definition, key_column}

-- ---- ranges

-- a column's number, and its cell
abbrev pub Entry : Type 0
Entry = ℕ × Cell

-- the cells with their columns, in the order of the columns
abbrev pub cells_of : Partition → List Entry
cells_of part = map_.entries part.cells

-- the value has bytes: a text is UTF-8 and short enough, a number is one of its width, and a uuid has sixteen bytes
abbrev pub HasBytes : Value → Type 0
HasBytes (Text text) = IsUtf8 text × (length text < 2 ^ 16)
HasBytes (Int number) = FitsSigned w32 number
HasBytes (BigInt number) = FitsSigned w64 number
HasBytes (Uuid bytes) = length bytes ≡ 16

-- the value of the cell, if it is live, has bytes
abbrev pub HasCellBytes : Entry → Type 0
HasCellBytes entry = IfSome entry.1.value HasBytes

-- a cell that no deletion with this timestamp shadows; the row's marker, in column 0, is an empty text
pub record IsCell (deleted : ℕ) (entry : Entry) : Type 0 where
  pub column : entry.0 < 2 ^ 16
  pub above : deleted < entry.1.time
  pub time : entry.1.time ≤ 2 ^ 62
  pub value : HasCellBytes entry
  pub marker : entry.0 ≡ 0 → entry.1.value ≡ Some (Text [])

-- at most 64 cells, and one at least where nothing is deleted
pub record IsCount (deleted count : ℕ) : Type 0 where
  pub few : count ≤ 64
  pub some : deleted ≡ 0 → 1 ≤ count

-- the key and the partition have a body
pub record HasBody (key : List ℕ) (part : Partition) : Type 0 where
  pub key_some : 1 ≤ length key
  pub key_short : length key < 2 ^ 16
  pub deleted : part.deleted ≤ 2 ^ 62
  pub count : IsCount part.deleted (length (cells_of part))
  pub cells : AllByRecursion (IsCell part.deleted) (cells_of part)

-- ---- in a table

-- the types of a table's columns: the key's first, and then those of the regular columns in order
abbrev pub column_types : Definition → Option (List ColumnType)
column_types d = option_map (λ column. column.1 ∷ map (λ column. column.1) (remove d.columns d.key)) (key_column d)

-- the bytes are those of a value of the type
abbrev pub IsValueOf : ColumnType → List ℕ → Type 0
IsValueOf types.Text bytes = IsUtf8 bytes
IsValueOf types.Int bytes = length bytes ≡ 4
IsValueOf types.BigInt bytes = length bytes ≡ 8
IsValueOf types.Uuid bytes = length bytes ≡ 16

-- the bytes are those of a value of the type at this position of the list
pub record IsTypedAt (types : List ColumnType) (position : ℕ) (bytes : List ℕ) : Type 0 where
  pub type : ColumnType
  pub listed : slice_get types position ≡ Some type
  pub value : IsValueOf type bytes

-- the cell is the marker's, or one of a regular column of the list, with a value of its type if it is live
pub record IsListed (types : List ColumnType) (entry : Entry) : Type 0 where
  pub column : entry.0 < length types
  pub typed : (value : Value) → entry.1.value ≡ Some value → 1 ≤ entry.0 → slice_get types entry.0 ≡ Some (type_of value)

-- the key and the partition have a body in a table with these types
pub record IsBodyOf (types : List ColumnType) (key : List ℕ) (part : Partition) : Type 0 where
  pub has : HasBody key part
  pub key_typed : IsTypedAt types 0 key
  pub columns : AllByRecursion (IsListed types) (cells_of part)
