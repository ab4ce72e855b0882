-- Which pieces are refused, and why. A piece is parsed first, then the rules of its statement are tried: the first rule that
-- applies gives the refusal. Rules are in the order of their numbers, and those of one number in the order of the text.
use Rattle.std.specs.Prelude.{ℕ, codes, pos, negsuc, ◌-◌, ◌^◌, Bool, true, false, not, ◌==◌, nat_lt, nat_le, ◌||◌, ◌&&◌, if◌then◌else◌, List, [], ◌∷◌, ◌++◌, length, map, Option, None, Some, is_some, slice_get, unwrap_or}
use Rattle.std.specs.List.{flat_map, list_any, zip}
use Rattle.std.specs.Option.{option_and_then, option_map, option_map_or}
use Rattle.std.specs.Prelude.{int_le}
use Rattle.std.specs.Fmt.{decimal}
use Rattle.std.specs.Map.{lookup}
use Rattle.std.specs.Str.{is_utf8}
use Rattle.std.specs.Str.Lossy.{utf8_valid_len}
use Rattle.sasi_types.specs.declared.column.ColumnType.{ColumnType}
use Rattle.sasi_types.specs.declared.column.ColumnType.TheVariants as types
use Rattle.sasi_types.specs.declared.literal.Literal.{Literal}
use Rattle.sasi_types.specs.declared.literal.Literal.TheVariants.{Text, Number as Integer, Uuid, Null}
use Rattle.sasi_types.specs.declared.literal.Number.{Number}
use Rattle.sasi_types.specs.declared.literal.Number.TheVariants.{Fits, Wide}
use Rattle.sasi_types.specs.declared.relation.Relation.{Relation}
use Rattle.sasi_types.specs.declared.statement.Statement.{Statement}
use Rattle.sasi_types.specs.declared.statement.Select.{Select}
use Rattle.sasi_types.specs.declared.class.Class.{Class}
use Rattle.sasi_types.specs.declared.statement.Statement.TheVariants.{CreateTable, CreateIndex, Insert, Update, Delete, Query, Flush, Compact, BeginCompact, StepCompact, Trace, ShowFiles, OpenCursor, Fetch, CloseCursor}
use Rattle.sasi_model.specs.Pieces.{Piece, Whole, TooLong, Unfinished}
use Rattle.sasi_model.specs.Tokens.{same}
use Rattle.sasi_model.specs.Parsers.{Parsed, Parses, FailsAt, Parser, grammar_parser}
use Rattle.sasi_model.specs.State.{Column, State, Definition, Index, definition_of, position_in, key_column, number_of_column, max_timestamp}
use Rattle.sasi_model.specs.Indexes.{IndexOption, class_given, index_class, index_name, index_named, index_on, is_allowed, mode_fits, mode_given}
use Rattle.sasi_model.specs.Relations.{is_empty_like, is_unindexed, takes}

-- the number of a refusal, and its name with what it is about
abbrev pub Refusal : Type 0
Refusal = ℕ × List ℕ

-- ---- reading a piece

-- the content of a piece, whatever the state
pub data ParsedPiece : Type 0 where
  -- a `;` alone
  Nothing : ParsedPiece
  Says : Statement → ParsedPiece
  Bad : Refusal → ParsedPiece

-- what is built of the grammar
abbrev pub is_built : Statement → Bool
is_built (CreateTable table columns keys) = true
is_built (CreateIndex name table column class options stepped) = not stepped
is_built (Insert table columns values time) = true
is_built (Update table time sets key value) = true
is_built (Delete table columns time key value) = true
is_built (Query select) = true
is_built (Flush table) = true
is_built (Compact table) = true
is_built (BeginCompact table) = true
is_built (StepCompact table units) = true
is_built (Trace on) = true
is_built ShowFiles = true
is_built (OpenCursor cursor select) = true
is_built (Fetch cursor count) = true
is_built (CloseCursor cursor) = true
is_built statement = false

-- A statement that isn't built is refused, and so is a text without a statement.
abbrev pub piece_parsed : Parsed → ParsedPiece
piece_parsed (Parses statement) = if is_built statement then Says statement else Bad (90, codes "NotBuilt")
piece_parsed (FailsAt at) = Bad (1, codes "Syntax at " ++ decimal at)

-- as this parser parses it; a text that isn't UTF-8 is refused with the length of its longest prefix that is
unfoldable pub read_by : Parser → Piece → ParsedPiece
read_by parser (TooLong finished) = Bad (2, codes "StatementTooLong 1048576")
read_by parser Unfinished = Bad (25, codes "Unfinished")
read_by parser (Whole text) =
    if same text (59 ∷ []) then Nothing
    else if is_utf8 text then piece_parsed (parser text)
    else Bad (3, codes "NotUtf8 at " ++ decimal (utf8_valid_len text))

-- as the parser of the grammar does
abbrev pub read : Piece → ParsedPiece
read = read_by grammar_parser

-- ---- what a piece is judged by

-- the definitions of the tables, and the largest timestamp of the state
pub record Known : Type 0 where
  pub tables : List Definition
  pub max_timestamp : ℕ

abbrev pub known_of : State → Known
known_of s = record { tables = map (λ t. t.definition) s.tables; max_timestamp = max_timestamp s }

-- ---- rules

-- a rule applies, and gives a refusal
abbrev pub RefusalRule : Type 0
RefusalRule = Bool × Refusal

-- a name that is in the list already
abbrev pub repeat_rules : List (List ℕ) → List (List ℕ) → List RefusalRule
repeat_rules before [] = []
repeat_rules before (name ∷ names) = (list_any (same name) before, (7, codes "ColumnRepeated " ++ name)) ∷ repeat_rules (before ++ name ∷ []) names

-- ---- literals

-- a literal of that type; NULL is of every type
abbrev pub is_of : ColumnType → Literal → Bool
is_of types.Text (Text text) = true
is_of types.Int (Integer number) = true
is_of types.BigInt (Integer number) = true
is_of types.Uuid (Uuid bytes) = true
is_of type Null = true
is_of type literal = false

abbrev pub is_null : Literal → Bool
is_null Null = true
is_null literal = false

-- the number fits this many bits and a sign, in two's complement
abbrev pub is_within : ℕ → Number → Bool
is_within bits (Fits z) = int_le (negsuc (2 ^ bits - 1)) z && int_le z (pos (2 ^ bits - 1))
is_within bits Wide = false

-- a number outside the column's type
abbrev pub is_out_of_range : ColumnType → Literal → Bool
is_out_of_range types.Int (Integer number) = not (is_within 31 number)
is_out_of_range types.BigInt (Integer number) = not (is_within 63 number)
is_out_of_range type literal = false

-- a text that passes the test
abbrev pub is_text_with : (List ℕ → Bool) → ColumnType → Literal → Bool
is_text_with test types.Text (Text text) = test text
is_text_with test type literal = false

-- ---- columns with their literals

-- the type of a column, if the table has it
abbrev pub type_of_column : Definition → List ℕ → Option ColumnType
type_of_column d name = option_and_then (λ position. option_map (λ column. column.1) (slice_get d.columns position)) (position_in name d.columns)

-- the test of the literal, if the column exists
abbrev pub tests : (ColumnType → Literal → Bool) → Option ColumnType → Literal → Bool
tests test column literal = option_map_or (λ type. test type literal) column false

-- a rule for each column with its literal
abbrev pub each : (List ℕ → Literal → RefusalRule) → List (List ℕ × Literal) → List RefusalRule
each rule given = map (λ g. rule g.0 g.1) given

abbrev pub is_column : Definition → List ℕ → Bool
is_column d name = is_some (number_of_column d name)

abbrev pub is_key : Definition → List ℕ → Bool
is_key d name = option_map_or (λ column. same name column.0) (key_column d) false

abbrev pub wrong_type : Definition → List ℕ → Literal → RefusalRule
wrong_type d name literal = (tests (λ type given. not (is_of type given)) (type_of_column d name) literal, (8, codes "WrongType " ++ name))

-- the same in a WHERE, where NULL is of no type
abbrev pub wrong_where : Definition → List ℕ → Literal → RefusalRule
wrong_where d name literal = (tests (λ type given. not (is_of type given) || is_null given) (type_of_column d name) literal, (8, codes "WrongType " ++ name))

abbrev pub number_range : Definition → List ℕ → Literal → RefusalRule
number_range d name literal = (tests is_out_of_range (type_of_column d name) literal, (9, codes "NumberRange " ++ name))

abbrev pub key_empty : Definition → List ℕ → Literal → RefusalRule
key_empty d name literal = (is_key d name && tests (is_text_with (λ text. length text == 0)) (type_of_column d name) literal, (11, codes "KeyEmpty " ++ name))

-- a text has at most 65,535 bytes
abbrev pub value_too_long : Definition → List ℕ → Literal → RefusalRule
value_too_long d name literal = (tests (is_text_with (λ text. nat_lt 65535 (length text))) (type_of_column d name) literal, (12, codes "ValueTooLong " ++ name))

abbrev pub no_column : Definition → List ℕ → RefusalRule
no_column d name = (not (is_column d name), (6, codes "NoColumn " ++ name))

-- the name is no column, or the key
abbrev pub no_regular_column : Definition → List ℕ → RefusalRule
no_regular_column d name = (not (is_column d name) || is_key d name, (6, codes "NoColumn " ++ name))

-- ---- times

abbrev pub is_time : Number → Bool
is_time (Fits z) = int_le (pos 1) z && int_le z (pos (2 ^ 62))
is_time Wide = false

-- A timestamp is from 1 to 2^62. The first argument is the largest one of the state.
abbrev pub time_rules : ℕ → Option Number → List RefusalRule
time_rules max_timestamp None = (max_timestamp == 2 ^ 62, (21, codes "ClockSpent")) ∷ []
time_rules max_timestamp (Some time) = (not (is_time time), (20, codes "TimestampRange")) ∷ []

-- ---- the rules of each statement

abbrev pub names_in : List Column → List (List ℕ)
names_in columns = map (λ column. column.0) columns

-- at most 256 tables, and in each 64 columns, the key column included
abbrev pub create_rules : List Definition → List ℕ → List Column → List (List ℕ) → List RefusalRule
create_rules tables table columns keys =
    (is_some (definition_of table tables), (5, codes "TableExists " ++ table))
    ∷ (map (λ key. (not (list_any (same key) (names_in columns)), (6, codes "NoColumn " ++ key))) keys ++ (repeat_rules [] (names_in columns)
    ++ (length keys == 0, (10, codes "KeyMissing " ++ table))
    ∷ (nat_le 256 (length tables), (24, codes "TooMany tables 256")) ∷ (nat_lt 64 (length columns), (24, codes "TooMany columns 64")) ∷ []))

-- the rule that the key is missing, which names the key column; none without such a column
abbrev pub key_missing : Definition → Bool → List RefusalRule
key_missing d applies = option_map_or (λ column. (applies, (10, codes "KeyMissing " ++ column.0)) ∷ []) (key_column d) []

-- a value for the key
abbrev pub is_key_value : Definition → List ℕ → Literal → Bool
is_key_value d name literal = is_key d name && not (is_null literal)

-- an INSERT gives the key a value
abbrev pub insert_rules : ℕ → List ℕ → List (List ℕ) → List (List ℕ × Literal) → Option Number → Option Definition → List RefusalRule
insert_rules max_timestamp table columns given time None = (true, (4, codes "NoTable " ++ table)) ∷ []
insert_rules max_timestamp table columns given time (Some d) =
    map (no_column d) columns ++ (repeat_rules [] columns ++ (each (wrong_type d) given ++ (each (number_range d) given
    ++ (key_missing d (not (list_any (λ g. is_key_value d g.0 g.1) given))
    ++ (each (key_empty d) given ++ (each (value_too_long d) given ++ time_rules max_timestamp time))))))

-- the WHERE of an UPDATE or a DELETE names a column that isn't the key
abbrev pub other_key : Definition → List ℕ → List RefusalRule
other_key d key = key_missing d (is_column d key && not (is_key d key))

abbrev pub update_rules : ℕ → List ℕ → List (List ℕ × Literal) → List ℕ → Literal → Option Number → Option Definition → List RefusalRule
update_rules max_timestamp table sets key value time None = (true, (4, codes "NoTable " ++ table)) ∷ []
update_rules max_timestamp table sets key value time (Some d) =
    map (λ set. no_regular_column d set.0) sets ++ no_column d key ∷ (repeat_rules [] (map (λ set. set.0) sets)
    ++ (each (wrong_type d) sets ++ wrong_where d key value ∷ (each (number_range d) sets ++ number_range d key value
    ∷ (other_key d key ++ key_empty d key value ∷ (each (value_too_long d) sets ++ value_too_long d key value ∷ time_rules max_timestamp time)))))

abbrev pub delete_rules : ℕ → List ℕ → List (List ℕ) → List ℕ → Literal → Option Number → Option Definition → List RefusalRule
delete_rules max_timestamp table columns key value time None = (true, (4, codes "NoTable " ++ table)) ∷ []
delete_rules max_timestamp table columns key value time (Some d) =
    map (no_regular_column d) columns ++ no_column d key ∷ (repeat_rules [] columns ++ wrong_where d key value ∷ number_range d key value
    ∷ (other_key d key ++ key_empty d key value ∷ value_too_long d key value ∷ time_rules max_timestamp time))

-- the table is there; FLUSH, COMPACT and BEGIN COMPACT have no other rule
abbrev pub table_rules : List ℕ → Option Definition → List RefusalRule
table_rules table None = (true, (4, codes "NoTable " ++ table)) ∷ []
table_rules table (Some d) = []

-- ---- SELECT

-- the test of the number of the column, if the table has it
abbrev pub tests_number : (ℕ → Bool) → Option ℕ → Bool
tests_number test number = option_map_or test number false

-- the column takes the relation, or isn't there
abbrev pub is_taken : Definition → Relation → Option ℕ → Option ColumnType → Bool
is_taken d r (Some number) (Some type) = takes d number type r.test r.value
is_taken d r number type = true

abbrev pub operator_unsupported : Definition → Relation → RefusalRule
operator_unsupported d r = (not (is_taken d r (number_of_column d r.column) (type_of_column d r.column)), (17, codes "OperatorUnsupported " ++ r.column))

abbrev pub like_empty : Definition → Relation → RefusalRule
like_empty d r = (tests_number (λ number. is_empty_like d number r.test r.value) (number_of_column d r.column), (18, codes "LikeEmpty " ++ r.column))

-- Rules of a relation, in order: the first one is tried on all relations of the WHERE before the second is, and so on. These come before those of LIMIT,
abbrev pub operand_rules : List (Definition → Relation → RefusalRule)
operand_rules = (λ d r. no_column d r.column) ∷ (λ d r. wrong_where d r.column r.value) ∷ (λ d r. number_range d r.column r.value) ∷ []

-- and these after them.
abbrev pub search_rules : List (Definition → Relation → RefusalRule)
search_rules = (λ d r. key_empty d r.column r.value) ∷ (λ d r. value_too_long d r.column r.value) ∷ operator_unsupported ∷ like_empty ∷ []

abbrev pub relation_rules : List (Definition → Relation → RefusalRule) → Definition → List Relation → List RefusalRule
relation_rules rules d relations = flat_map (λ rule. map (rule d) relations) rules

-- a number of rows, or of the units of a task
abbrev pub is_count : Number → Bool
is_count (Fits z) = int_le (pos 1) z && int_le z (pos (2 ^ 31 - 1))
is_count Wide = false

-- A LIMIT is from 1 to 2^31 - 1.
abbrev pub limit_range : Option Number → RefusalRule
limit_range limit = (option_map_or (λ rows. not (is_count rows)) limit false, (9, codes "NumberRange LIMIT"))

-- the relation is on a column that is neither the key nor indexed
abbrev pub is_filtered : Definition → Relation → Bool
is_filtered d r = tests_number (is_unindexed d) (number_of_column d r.column)

-- two relations, or one on such a column, are allowed with ALLOW FILTERING alone
abbrev pub needs_filtering : Definition → Select → RefusalRule
needs_filtering d select = (not select.filtering && (nat_le 2 (length select.relations) || list_any (is_filtered d) select.relations), (19, codes "NeedsFiltering"))

abbrev pub too_many_relations : Select → RefusalRule
too_many_relations select = (nat_lt 32 (length select.relations), (24, codes "TooMany relations 32"))

-- the rules before that of the number of relations: the columns that it names stand before its WHERE, and LIMIT after it
abbrev pub answer_rules : Select → Option Definition → List RefusalRule
answer_rules select None = (true, (4, codes "NoTable " ++ select.table)) ∷ []
answer_rules select (Some d) =
    map (no_column d) (unwrap_or select.columns []) ++ (relation_rules operand_rules d select.relations
    ++ limit_range select.limit ∷ (relation_rules search_rules d select.relations ++ needs_filtering d select ∷ []))

abbrev pub select_rules : Select → Option Definition → List RefusalRule
select_rules select d = answer_rules select d ++ too_many_relations select ∷ []

-- ---- cursors

-- a FETCH of rows by their number
abbrev pub fetch_range : Number → RefusalRule
fetch_range count = (not (is_count count), (9, codes "NumberRange FETCH"))

-- Of a statement on a cursor these rules come after the others. They depend on the names of the open cursors.
abbrev pub cursor_rules : List (List ℕ) → Statement → List RefusalRule
cursor_rules names (OpenCursor cursor select) =
    (list_any (same cursor) names, (22, codes "CursorExists " ++ cursor)) ∷ (nat_le 64 (length names), (24, codes "TooMany cursors 64")) ∷ too_many_relations select ∷ []
cursor_rules names (Fetch cursor count) = (not (list_any (same cursor) names), (23, codes "NoCursor " ++ cursor)) ∷ []
cursor_rules names (CloseCursor cursor) = (not (list_any (same cursor) names), (23, codes "NoCursor " ++ cursor)) ∷ []
cursor_rules names statement = []

-- ---- STEP COMPACT

-- a STEP of units by their number
abbrev pub step_range : Number → RefusalRule
step_range units = (not (is_count units), (9, codes "NumberRange STEP"))

-- the rule of the table comes before that of the units
abbrev pub step_rules : List ℕ → Number → Option Definition → List RefusalRule
step_rules table units d = table_rules table d ++ step_range units ∷ []

-- ---- CREATE CUSTOM INDEX

-- a text behind the name of a refusal, and nothing behind it for an empty one
abbrev pub detail : List ℕ → List ℕ
detail [] = []
detail (b ∷ bs) = 32 ∷ b ∷ bs

-- an index is there already
abbrev pub index_exists : Option Index → RefusalRule
index_exists found = (is_some found, (13, codes "IndexExists " ++ option_map_or (λ i. i.name) found []))

-- an option that stands before, or that the index can't have
abbrev pub option_rules : ColumnType → Option Class → List (List ℕ) → List IndexOption → List RefusalRule
option_rules type class before [] = []
option_rules type class before (option ∷ options) =
    (list_any (same option.0) before || not (is_allowed type class option), (15, codes "BadOption" ++ detail option.0)) ∷ option_rules type class (before ++ option.0 ∷ []) options

-- the class behind USING
abbrev pub using_rule : List ℕ → RefusalRule
using_rule class = (not (same class index_class), (15, codes "BadOption using"))

-- the key has no index, and each mode is for some types
abbrev pub mode_rule : List ℕ → ℕ → ColumnType → List IndexOption → RefusalRule
mode_rule column number type options = (number == 0 || not (mode_fits (mode_given options) type), (16, codes "ModeType " ++ column))

-- the rules of an index of this name on a column, by its number and type if the table has it
abbrev pub index_column_rules : List Definition → Definition → List ℕ → List ℕ → List ℕ → List IndexOption → Option ℕ → Option ColumnType → List RefusalRule
index_column_rules tables d name column class options (Some number) (Some type) =
    index_exists (index_named name tables) ∷ index_exists (index_on number d.indexes)
    ∷ using_rule class ∷ (option_rules type (class_given options) [] options ++ mode_rule column number type options ∷ [])
index_column_rules tables d name column class options number type = []

abbrev pub index_rules : List Definition → Option (List ℕ) → List ℕ → List ℕ → List ℕ → List IndexOption → Option Definition → List RefusalRule
index_rules tables name table column class options None = (true, (4, codes "NoTable " ++ table)) ∷ []
index_rules tables name table column class options (Some d) =
    no_column d column ∷ index_column_rules tables d (index_name name table column) column class options (number_of_column d column) (type_of_column d column)

-- ---- the rules of a statement

-- by what is known; none for a statement that isn't built. Those of cursors are no part of them.
abbrev pub rules : Known → Statement → List RefusalRule
rules known (CreateTable table columns keys) = create_rules known.tables table columns keys
rules known (CreateIndex name table column class options stepped) = index_rules known.tables name table column class options (definition_of table known.tables)
rules known (Insert table columns values time) = insert_rules known.max_timestamp table columns (zip columns values) time (definition_of table known.tables)
rules known (Update table time sets key value) = update_rules known.max_timestamp table sets key value time (definition_of table known.tables)
rules known (Delete table columns time key value) = delete_rules known.max_timestamp table columns key value time (definition_of table known.tables)
rules known (Query select) = select_rules select (definition_of select.table known.tables)
rules known (Flush table) = table_rules table (definition_of table known.tables)
rules known (Compact table) = table_rules table (definition_of table known.tables)
rules known (BeginCompact table) = table_rules table (definition_of table known.tables)
rules known (StepCompact table units) = step_rules table units (definition_of table known.tables)
rules known (OpenCursor cursor select) = answer_rules select (definition_of select.table known.tables)
rules known (Fetch cursor count) = fetch_range count ∷ []
rules known statement = []

-- that of the first rule that applies
unfoldable pub refusal : State → Statement → Option Refusal
refusal s statement = lookup (λ applies. applies) (rules (known_of s) statement)
