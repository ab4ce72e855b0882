-- Short names for parts of the definitions, which contracts and proofs cite.
use Rattle.std.specs.Prelude.{ℕ, suc, ◌+◌, ◌-◌, ◌*◌, ◌^◌, ◌==◌, nat_lt, Bool, List, [], ◌∷◌, ◌++◌, codes, drop, length, map, slice_get, Option, Some, unwrap_or, is_some, if◌then◌else◌}
use Rattle.std.specs.List.{cons_option, filter_map, flat_map, fold, join_by, list_any, range_with_len, remove}
use Rattle.std.specs.Option.{option_and_then, option_map, option_map_or}
use Rattle.std.specs.Fmt.{decimal}
use Rattle.std.specs.declared.cmp.Ordering.{Ordering}
use Rattle.std.specs.Ordering.{nat_cmp, ordering_then}
use Rattle.std.specs.Map.{lookup}
use Rattle.std.specs.FinMap as map_
use Rattle.sasi_types.specs.declared.cell.Cell.{Cell}
use Rattle.sasi_types.specs.declared.column.ColumnType.{ColumnType}
use Rattle.sasi_types.specs.declared.column.ColumnType.TheVariants as types
use Rattle.sasi_types.specs.declared.literal.Literal.{Literal}
use Rattle.sasi_types.specs.declared.literal.Literal.TheVariants.{Null}
use Rattle.sasi_types.specs.declared.partitioner.Partitioner.{Partitioner}
use Rattle.sasi_types.specs.declared.statement.Statement.{Statement}
use Rattle.sasi_types.specs.declared.value.Value.{Value}
use Rattle.sasi_types.specs.declared.value.Value.TheVariants as values
use Rattle.sasi_types.specs.Value.{stored}
use Rattle.sasi_types.specs.DecoratedKey.{decorated_cmp}
use Rattle.sasi_model.specs.Cells.{Partition, largest, max_timestamp_of, value_cmp}
use Rattle.sasi_model.specs.State.{Column, Definition, State, Table, key_column, number_at, number_of_column}
use Rattle.sasi_model.specs.Pieces.{begins}
use Rattle.sasi_model.specs.Tokens.{Lexeme, Uuid, is_digit, is_word_byte, lower_byte}
use Rattle.sasi_model.specs.Refusals.{Refusal, RefusalRule, detail, is_key_value, is_text_with}
use Rattle.sasi_model.specs.Lines.{line, printed}
use Rattle.sasi_model.specs.Step.{StepResult, cells_set, execute, given_key, primary_key, refused_step}
use Rattle.sasi_model.specs.Values.{value_given}

-- ---- columns

abbrev pub one_more : Option ℕ → Option ℕ
one_more found = option_map (λ n. suc n) found

abbrev pub numbered_at : ℕ → Option ℕ → Option ℕ
numbered_at key found = option_map (number_at key) found

abbrev pub column_at : ℕ → List Column → Option Column
column_at position columns = slice_get columns position

abbrev pub name_or_none : Option Column → List ℕ
name_or_none found = option_map_or (λ column. column.0) found []

abbrev pub type_or_text : Option Column → ColumnType
type_or_text found = option_map_or (λ column. column.1) found types.Text

-- the name of the key column, empty where there is none
abbrev pub key_name : Definition → List ℕ
key_name d = name_or_none (key_column d)

-- its type, text where there is none
abbrev pub key_type : Definition → ColumnType
key_type d = type_or_text (key_column d)

-- the types of a table's columns: the key's first, and then those of the regular columns in order
abbrev pub types_of : Definition → List ColumnType
types_of d = key_type d ∷ map (λ column. column.1) (remove d.columns d.key)

-- the type of the column with a number, the key's for 0; text where there is no such column
abbrev pub kind_of : Definition → ℕ → ColumnType
kind_of d column = unwrap_or (slice_get (types_of d) column) types.Text

-- the position of the key column, 0 where there is none
abbrev pub key_position : List Column → List (List ℕ) → ℕ
key_position columns keys = unwrap_or (primary_key columns keys) 0

abbrev pub count_up : ℕ → ℕ → List ℕ
count_up from n = range_with_len from n

abbrev pub numbers_of : Definition → List (List ℕ) → List ℕ
numbers_of d names = filter_map (number_of_column d) names

-- ---- cells

abbrev pub with_entry : ℕ → Option Cell → List (ℕ × Cell) → List (ℕ × Cell)
with_entry column found cells = cons_option (option_map (λ cell. (column, cell)) found) cells

abbrev pub is_live_cell : Cell → Bool
is_live_cell cell = is_some cell.value

abbrev pub any_live : List Cell → Bool
any_live cells = list_any is_live_cell cells

abbrev pub value_of : Option Cell → Option Value
value_of found = option_and_then (λ cell. cell.value) found

-- ---- times

abbrev pub max_timestamp_in : List Cell → ℕ
max_timestamp_in cells = largest (map (λ cell. cell.time) cells)

abbrev pub max_timestamp_of_partitions : List Partition → ℕ
max_timestamp_of_partitions partitions = largest (map max_timestamp_of partitions)

abbrev pub max_timestamp_of_tables : List Table → ℕ
max_timestamp_of_tables tables = largest (map (λ t. largest (map max_timestamp_of (map_.values t.partitions))) tables)

-- ---- values and steps

abbrev pub stored_of : Option Value → List ℕ
stored_of value = option_map_or stored value []

abbrev pub value_set : Option ColumnType → Literal → Option Value
value_set column literal = option_and_then (λ type. value_given type literal) column

-- the literal that gives the key its value, NULL where none does
abbrev pub key_literal : Definition → List (List ℕ × Literal) → Literal
key_literal d given = unwrap_or (given_key d given) Null

abbrev pub execute_or : State → Statement → Option Refusal → StepResult
execute_or s statement refused = option_map_or (refused_step s) refused (execute s statement)

-- ---- lines

abbrev pub row_text : List (Option Value) → List ℕ
row_text values = join_by printed (codes " | ") values

abbrev pub refusal_number : Refusal → ℕ
refusal_number r = r.0

abbrev pub refusal_text : Refusal → List ℕ
refusal_text r = r.1

abbrev pub Partitions : Type 0
Partitions = map_.FinMap decorated_cmp Partition

-- the state without tables
abbrev pub empty_state : Partitioner → State
empty_state partitioner = record { partitioner = partitioner; tables = [] }

abbrev pub definitions : List Table → List Definition
definitions tables = map (λ t. t.definition) tables

-- which of two cells is newer: by timestamp, then by value
abbrev pub cell_cmp : Cell → Cell → Ordering
cell_cmp a b = ordering_then (nat_cmp a.time b.time) (value_cmp a.value b.value)

-- an UPDATE writes the cells alone
abbrev pub update_change : Definition → ℕ → List (List ℕ × Literal) → Partition
update_change d time sets = record { deleted = 0; cells = cells_set d time sets }

-- the table that a CREATE TABLE creates: its key column is the one with PRIMARY KEY
abbrev pub new_definition : List ℕ → List Column → List (List ℕ) → Definition
new_definition name columns keys = record { name = name; columns = columns; key = key_position columns keys; indexes = [] }

-- a live marker
abbrev pub marker : ℕ → Cell
marker time = record { time = time; value = Some (values.Text []) }

abbrev pub ok_line : List ℕ
ok_line = line (codes "ok")

abbrev pub printed_byte : ℕ → List ℕ
printed_byte b = if b == 39 then 39 ∷ 39 ∷ [] else b ∷ []

abbrev pub text_printed : List ℕ → List ℕ
text_printed text = 39 ∷ flat_map printed_byte text ++ 39 ∷ []

abbrev pub row_line : List (Option Value) → List ℕ
row_line values = line (join_by printed (codes " | ") values)

abbrev pub count_line : ℕ → List ℕ
count_line rows = line (codes "(" ++ decimal rows ++ codes " rows)")

-- ---- pieces and tokens

abbrev pub PIECE_LIMIT : ℕ
PIECE_LIMIT = 2 ^ 20

abbrev pub behind_first : List ℕ → List ℕ
behind_first bytes = drop 1 bytes

abbrev pub starts_word : List ℕ → Bool
starts_word bytes = begins is_word_byte bytes

abbrev pub starts_digit : List ℕ → Bool
starts_digit bytes = begins is_digit bytes

abbrev pub lower : List ℕ → List ℕ
lower word = map lower_byte word

-- the value of decimal digits that follow those of n
abbrev pub digits_value_on : ℕ → List ℕ → ℕ
digits_value_on n digits = fold (λ n b. 10 * n + (b - 48)) n digits

abbrev pub NUMBER_LIMIT : ℕ
NUMBER_LIMIT = 2 ^ 127

abbrev pub lexeme_or : Option (List ℕ) → Lexeme → Lexeme
lexeme_or found other = option_map_or (λ bytes. record { token = Uuid bytes; inside = 35 }) found other

-- ---- rules

-- the refusal of the first rule that applies
abbrev pub first_refusal : List RefusalRule → Option Refusal
first_refusal rules = lookup (λ applies. applies) rules

abbrev pub TABLE_LIMIT : ℕ
TABLE_LIMIT = 256

abbrev pub COLUMN_LIMIT : ℕ
COLUMN_LIMIT = 64

abbrev pub TEXT_LIMIT : ℕ
TEXT_LIMIT = 65535

abbrev pub TIME_LIMIT : ℕ
TIME_LIMIT = 2 ^ 62

abbrev pub is_empty_text : ColumnType → Literal → Bool
is_empty_text = is_text_with (λ text. length text == 0)

abbrev pub is_long_text : ColumnType → Literal → Bool
is_long_text = is_text_with (λ text. nat_lt TEXT_LIMIT (length text))

abbrev pub gives_key : Definition → List (List ℕ × Literal) → Bool
gives_key d given = list_any (λ g. is_key_value d g.0 g.1) given

-- ---- the refusals by their names

abbrev pub Syntax : ℕ → Refusal
Syntax offset = (1, codes "Syntax at " ++ decimal offset)

abbrev pub StatementTooLong : Refusal
StatementTooLong = (2, codes "StatementTooLong 1048576")

abbrev pub NotUtf8 : ℕ → Refusal
NotUtf8 offset = (3, codes "NotUtf8 at " ++ decimal offset)

abbrev pub NoTable : List ℕ → Refusal
NoTable name = (4, codes "NoTable " ++ name)

abbrev pub TableExists : List ℕ → Refusal
TableExists name = (5, codes "TableExists " ++ name)

abbrev pub NoColumn : List ℕ → Refusal
NoColumn name = (6, codes "NoColumn " ++ name)

abbrev pub ColumnRepeated : List ℕ → Refusal
ColumnRepeated name = (7, codes "ColumnRepeated " ++ name)

abbrev pub WrongType : List ℕ → Refusal
WrongType name = (8, codes "WrongType " ++ name)

abbrev pub NumberRange : List ℕ → Refusal
NumberRange name = (9, codes "NumberRange " ++ name)

abbrev pub LimitRange : Refusal
LimitRange = (9, codes "NumberRange LIMIT")

abbrev pub KeyMissing : List ℕ → Refusal
KeyMissing name = (10, codes "KeyMissing " ++ name)

abbrev pub KeyEmpty : List ℕ → Refusal
KeyEmpty name = (11, codes "KeyEmpty " ++ name)

abbrev pub ValueTooLong : List ℕ → Refusal
ValueTooLong name = (12, codes "ValueTooLong " ++ name)

abbrev pub IndexExists : List ℕ → Refusal
IndexExists name = (13, codes "IndexExists " ++ name)

abbrev pub BadOption : List ℕ → Refusal
BadOption option = (15, codes "BadOption" ++ detail option)

abbrev pub BadUsing : Refusal
BadUsing = (15, codes "BadOption using")

abbrev pub ModeType : List ℕ → Refusal
ModeType column = (16, codes "ModeType " ++ column)

abbrev pub OperatorUnsupported : List ℕ → Refusal
OperatorUnsupported column = (17, codes "OperatorUnsupported " ++ column)

abbrev pub LikeEmpty : List ℕ → Refusal
LikeEmpty column = (18, codes "LikeEmpty " ++ column)

abbrev pub NeedsFiltering : Refusal
NeedsFiltering = (19, codes "NeedsFiltering")

abbrev pub TimestampRange : Refusal
TimestampRange = (20, codes "TimestampRange")

abbrev pub ClockSpent : Refusal
ClockSpent = (21, codes "ClockSpent")

abbrev pub TooManyTables : Refusal
TooManyTables = (24, codes "TooMany tables 256")

abbrev pub TooManyColumns : Refusal
TooManyColumns = (24, codes "TooMany columns 64")

abbrev pub TooManyRelations : Refusal
TooManyRelations = (24, codes "TooMany relations 32")

abbrev pub TooManyCursors : Refusal
TooManyCursors = (24, codes "TooMany cursors 64")

abbrev pub CursorExists : List ℕ → Refusal
CursorExists cursor = (22, codes "CursorExists " ++ cursor)

abbrev pub NoCursor : List ℕ → Refusal
NoCursor cursor = (23, codes "NoCursor " ++ cursor)

abbrev pub FetchRange : Refusal
FetchRange = (9, codes "NumberRange FETCH")

abbrev pub StepRange : Refusal
StepRange = (9, codes "NumberRange STEP")

abbrev pub ScriptEnds : Refusal
ScriptEnds = (25, codes "Unfinished")

abbrev pub NotBuilt : Refusal
NotBuilt = (90, codes "NotBuilt")
