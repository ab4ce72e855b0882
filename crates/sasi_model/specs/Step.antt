-- The step of one piece, by a parser: the state after it, and the reply. A write is merged into the partition of its key. A refused piece
-- leaves the state unchanged.
use Rattle.std.specs.Prelude.{ℕ, pos, codes, ◌+◌, suc, zero, List, [], ◌∷◌, ◌++◌, length, map, Option, None, Some, slice_get}
use Rattle.std.specs.List.{filter_map, find, range_with_len, zip}
use Rattle.std.specs.Option.{option_and_then, option_map, option_map_or}
use Rattle.std.specs.FinMap as map_
use Rattle.sasi_types.specs.declared.cell.Cell.{Cell}
use Rattle.sasi_types.specs.declared.literal.Literal.{Literal}
use Rattle.sasi_types.specs.declared.literal.Literal.TheVariants as literals
use Rattle.sasi_types.specs.declared.literal.Number.{Number}
use Rattle.sasi_types.specs.declared.literal.Number.TheVariants.{Fits}
use Rattle.sasi_types.specs.declared.partitioner.Partitioner.{Partitioner}
use Rattle.sasi_types.specs.declared.decorated_key.DecoratedKey.{DecoratedKey}
use Rattle.sasi_types.specs.declared.value.Value.{Value}
use Rattle.sasi_types.specs.declared.value.Value.TheVariants.{Text}
use Rattle.sasi_types.specs.Value.{stored}
use Rattle.sasi_types.specs.declared.statement.Select.{Select}
use Rattle.sasi_types.specs.declared.statement.Statement.{Statement}
use Rattle.sasi_types.specs.declared.statement.Statement.TheVariants.{CreateTable, CreateIndex, Insert, Update, Delete, Query, Flush, Compact, BeginCompact, StepCompact, Trace}
use Rattle.sasi_model.specs.Pieces.{Piece}
use Rattle.sasi_model.specs.Cells.{Cells, Partition, value_at}
use Rattle.sasi_model.specs.State.{Column, Definition, Index, Table, State, decorated, table_of, with_table, position_in, number_of_column, key_column, apply, max_timestamp}
use Rattle.sasi_model.specs.Indexes.{IndexOption, index_made, index_name}
use Rattle.sasi_model.specs.Changes.{empty_table, table_with_index}
use Rattle.sasi_model.specs.Parsers.{Parser, grammar_parser}
use Rattle.sasi_model.specs.Refusals.{Refusal, ParsedPiece, Nothing, Says, Bad, read_by, refusal, type_of_column, is_key_value}
use Rattle.sasi_model.specs.Filters.{filter_of, row_limit, rows_up_to}
use Rattle.sasi_model.specs.Lines.{line, rows_lines, refusal_line}
pub use Rattle.sasi_model.specs.Values.{value_given, value_stored}

-- ---- what a write changes

-- the timestamp of a write: one more than the largest of the state, or the given one; none for a negative number or a wide one
abbrev pub timestamp : ℕ → Option Number → Option ℕ
timestamp max_timestamp None = Some (max_timestamp + 1)
timestamp max_timestamp (Some (Fits (pos n))) = Some n
timestamp max_timestamp (Some time) = None

abbrev pub with_column_cell : Option ℕ → Cell → Cells → Cells
with_column_cell None cell cells = cells
with_column_cell (Some zero) cell cells = cells
with_column_cell (Some (suc n)) cell cells = map_.insert cells (suc n) cell

-- a cell for each regular column that is set: its value, or a tombstone for NULL
abbrev pub cells_set : Definition → ℕ → List (List ℕ × Literal) → Cells
cells_set d time [] = map_.empty
cells_set d time (set ∷ sets) = with_column_cell (number_of_column d set.0)
    (record { time = time; value = option_and_then (λ type. value_given type set.1) (type_of_column d set.0) }) (cells_set d time sets)

-- an INSERT writes the marker, whose value is an empty text, and a cell for each regular column that it names
abbrev pub insert_change : Definition → ℕ → List (List ℕ × Literal) → Partition
insert_change d time given = record { deleted = 0; cells = map_.insert (cells_set d time given) 0 (record { time = time; value = Some (Text []) }) }

-- a DELETE of columns writes tombstones, and one of the row a deletion
abbrev pub delete_change : Definition → ℕ → List (List ℕ) → Partition
delete_change d time [] = record { deleted = time; cells = map_.empty }
delete_change d time (column ∷ columns) = record { deleted = 0; cells = cells_set d time (map (λ name. (name, literals.Null)) (column ∷ columns)) }

-- the literal that gives the key its value, if one does
abbrev pub given_key : Definition → List (List ℕ × Literal) → Option Literal
given_key d given = option_map (λ g. g.1) (find (λ g. is_key_value d g.0 g.1) given)

-- the decorated key that a literal gives, if it gives the key column a value
abbrev pub decorated_given : Partitioner → Definition → Literal → Option DecoratedKey
decorated_given p d literal = option_map (λ value. decorated p (stored value)) (option_and_then (λ column. value_given column.1 literal) (key_column d))

-- ---- what a query answers

-- the value of a column by its number: the key's own, or that of its cell
abbrev pub value_numbered : Definition → DecoratedKey → Partition → ℕ → Option Value
value_numbered d decorated_key p zero = option_map (λ column. value_stored column.1 decorated_key.key) (key_column d)
value_numbered d decorated_key p (suc n) = value_at p (suc n)

-- the numbers of the selected columns: those named, or the key and then the others in declared order
abbrev pub selected_columns : Definition → Option (List (List ℕ)) → List ℕ
selected_columns d names = option_map_or (filter_map (number_of_column d)) names (range_with_len 0 (length d.columns))

-- the values of a partition in the columns with these numbers
abbrev pub values_numbered : Definition → List ℕ → DecoratedKey × Partition → List (Option Value)
values_numbered d numbers entry = map (value_numbered d entry.0 entry.1) numbers

-- the rows of a SELECT over the partitions of a table, in their order
abbrev pub select_rows : Definition → Select → List (DecoratedKey × Partition) → List (List (Option Value))
select_rows d select entries = map (values_numbered d (selected_columns d select.columns)) (rows_up_to (row_limit select.limit) (filter_of d select.relations) entries)

-- and their lines
abbrev pub select_lines : Definition → Select → List (DecoratedKey × Partition) → List ℕ
select_lines d select entries = rows_lines (select_rows d select entries)

-- the rows of a SELECT, none where there is no such table
abbrev pub rows_selected : State → Select → List (List (Option Value))
rows_selected s select = option_map_or (λ t. select_rows t.definition select (map_.entries t.partitions)) (table_of select.table s.tables) []

-- ---- one statement

-- the position of the column with PRIMARY KEY, which is the key
abbrev pub primary_key : List Column → List (List ℕ) → Option ℕ
primary_key columns keys = option_and_then (λ key. position_in key columns) (slice_get keys 0)

-- the table after a change of the partition of a key; without a key or a change it stays as it is
abbrev pub applied : Option DecoratedKey → Option Partition → Table → Table
applied (Some decorated_key) (Some change) t = apply decorated_key change t
applied decorated_key change t = t

-- the tables after a write to the named one: its definition gives the literal of the key, and with a timestamp the change of the key's partition
abbrev pub written : State → List ℕ → Option Number → (Definition → Option Literal) → (Definition → ℕ → Partition) → List Table
written s table time key change = with_table table (λ t. applied (option_and_then (decorated_given s.partitioner t.definition) (key t.definition))
    (option_map (change t.definition) (timestamp (max_timestamp s) time)) t) s.tables

-- the index that a CREATE CUSTOM INDEX defines on a table, if the table has the column
abbrev pub index_given : Definition → Option (List ℕ) → List ℕ → List ℕ → List IndexOption → Option Index
index_given d name table column options = index_made (index_name name table column) (number_of_column d column) (type_of_column d column) options

-- An UPDATE writes the cells alone. A SELECT, TRACE, SHOW FILES and statements on cursors write nothing. FLUSH, COMPACT, BEGIN COMPACT and STEP COMPACT change
-- only how the rows are stored. No other statement is built.
abbrev pub tables_after : State → Statement → List Table
tables_after s (CreateTable table columns keys) =
    option_map_or (λ key. s.tables ++ empty_table (record { name = table; columns = columns; key = key; indexes = [] }) ∷ []) (primary_key columns keys) s.tables
tables_after s (CreateIndex name table column class options stepped) = with_table table (λ t. option_map_or (λ index. table_with_index index t) (index_given t.definition name table column options) t) s.tables
tables_after s (Insert table columns values time) =
    written s table time (λ d. given_key d (zip columns values)) (λ d time. insert_change d time (zip columns values))
tables_after s (Update table time sets key value) = written s table time (λ d. Some value) (λ d time. record { deleted = 0; cells = cells_set d time sets })
tables_after s (Delete table columns time key value) = written s table time (λ d. Some value) (λ d time. delete_change d time columns)
tables_after s (Query select) = s.tables
tables_after s (Flush table) = s.tables
tables_after s statement = s.tables

-- a SELECT answers its rows, and each other statement that is built `ok`
abbrev pub answer_of : State → Statement → List ℕ
answer_of s (Query select) = option_map_or (λ t. select_lines t.definition select (map_.entries t.partitions)) (table_of select.table s.tables) []
answer_of s (CreateTable table columns keys) = line (codes "ok")
answer_of s (CreateIndex name table column class options stepped) = line (codes "ok")
answer_of s (Insert table columns values time) = line (codes "ok")
answer_of s (Update table time sets key value) = line (codes "ok")
answer_of s (Delete table columns time key value) = line (codes "ok")
answer_of s (Flush table) = line (codes "ok")
answer_of s (Compact table) = line (codes "ok")
answer_of s (BeginCompact table) = line (codes "ok")
answer_of s (StepCompact table units) = line (codes "ok")
answer_of s (Trace on) = line (codes "ok")
answer_of s statement = []

-- ---- one piece

-- the state after a piece, its reply, and its refusal if it is refused
pub record StepResult : Type 0 where
  pub state : State
  pub reply : List ℕ
  pub refused : Option Refusal

abbrev pub refused_step : State → Refusal → StepResult
refused_step s r = record { state = s; reply = refusal_line r; refused = Some r }

-- a statement that isn't refused
abbrev pub execute : State → Statement → StepResult
execute s statement = record { state = record s { tables = tables_after s statement }; reply = answer_of s statement; refused = None }

abbrev pub step_as : State → ParsedPiece → StepResult
step_as s Nothing = record { state = s; reply = []; refused = None }
step_as s (Bad r) = refused_step s r
step_as s (Says statement) = option_map_or (refused_step s) (refusal s statement) (execute s statement)

unfoldable pub step_by : Parser → State → Piece → StepResult
step_by parser s piece = step_as s (read_by parser piece)

-- ---- pieces, one after another

-- the state after them
abbrev pub state_by : Parser → State → List Piece → State
state_by parser s [] = s
state_by parser s (p ∷ ps) = state_by parser (step_by parser s p).state ps

-- their replies, joined
abbrev pub replies_by : Parser → State → List Piece → List ℕ
replies_by parser s [] = []
replies_by parser s (p ∷ ps) = (step_by parser s p).reply ++ replies_by parser (step_by parser s p).state ps

-- ---- the same by the parser of the grammar

abbrev pub step : State → Piece → StepResult
step = step_by grammar_parser

abbrev pub state_after : State → List Piece → State
state_after = state_by grammar_parser

abbrev pub replies : State → List Piece → List ℕ
replies = replies_by grammar_parser
