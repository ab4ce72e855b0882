-- The definitions, computed on scripts and texts whose meaning is known.
use Rattle.std.proofs.Common.{◌≡◌, ℕ, pos, negsuc, true, false, List, [], ◌∷◌, codes, Option, Some, None, refl}
use Rattle.uuid.proofs.OnLiterals.{uuid_on_literals}
use Rattle.sasi_types.specs.declared.class.Class.TheVariants.{NonTokenizing, Standard}
use Rattle.sasi_types.specs.declared.column.ColumnType.TheVariants as types
use Rattle.sasi_types.specs.declared.literal.Literal.TheVariants as literals
use Rattle.sasi_types.specs.declared.literal.Number.TheVariants.{Fits, Wide}
use Rattle.sasi_types.specs.declared.mode.Mode.TheVariants as modes
use Rattle.sasi_types.specs.declared.relation.Test.TheVariants as tests
use Rattle.sasi_types.specs.declared.rule.Rule.TheVariants.{Whole as WholeText, Words}
use Rattle.sasi_types.specs.declared.statement.Statement.{Statement}
use Rattle.sasi_types.specs.declared.statement.Statement.TheVariants.{CreateTable, CreateIndex, Insert, Update, Delete, Query, OpenCursor, Fetch, Compact, BeginCompact, StepCompact, StepIndex}
use Rattle.sasi_model.specs.Pieces.{Whole, Unfinished, pieces}
use Rattle.sasi_model.specs.Tokens.{Word, QuotedName, Quoted, Integer, Uuid, Open, Close, Comma, Star, Equal, Less, LessEqual, More, MoreEqual, Colon, OpenBrace, CloseBrace, Semicolon, Unknown, tokens, uuid_in_front, other_lexeme, lexeme, is_separator}
use Rattle.sasi_model.specs.FormReader.{read_items}
use Rattle.sasi_model.specs.Abbreviations.{first_refusal}
use Rattle.sasi_model.specs.Indexes.{IndexOption, class_given, default_name, index_class, index_name, is_allowed, mode_given, rule_given}
use Rattle.sasi_model.specs.Refusals.{Refusal, index_rules, rules}
use Rattle.sasi_model.specs.State.{Definition}
use Rattle.sasi_model.specs.Parsers.{Parses, FailsAt, grammar_parser}

-- ---- pieces

no_script : pieces [] ≡ record { whole = []; last = [] }
no_script = refl

spaces_and_comments_are_nothing : pieces (codes " \n-- a\n// b\n/* c; */ ") ≡ record { whole = []; last = [] }
spaces_and_comments_are_nothing = refl

-- a `;` inside a string, a quoted name or a comment ends no piece
inside_is_no_end : pieces (codes "a ';' \";\" --;\n /*;*/ ; b") ≡ record { whole = Whole (codes "a ';' \";\" --;\n /*;*/ ;") ∷ []; last = Unfinished ∷ [] }
inside_is_no_end = refl

comment_in_front : pieces (codes "-- x;\n ;;a;") ≡ record { whole = Whole (codes ";") ∷ Whole (codes ";") ∷ Whole (codes "a;") ∷ []; last = [] }
comment_in_front = refl

open_comment : pieces (codes "a; /* b;") ≡ record { whole = Whole (codes "a;") ∷ []; last = Unfinished ∷ [] }
open_comment = refl

-- ---- tokens

quote_in_a_string : tokens (codes "Values('it''s' ,\n'' )=*") ≡ Word (codes "values") ∷ Open ∷ Quoted (codes "it's") ∷ Comma ∷ Quoted [] ∷ Close ∷ Equal ∷ Star ∷ []
unfolding is_separator lexeme uuid_in_front other_lexeme
quote_in_a_string = refl

no_such_token : tokens (codes "a_1 !;'b") ≡ Word (codes "a_1") ∷ Unknown ∷ Semicolon ∷ Unknown ∷ Word (codes "b") ∷ []
unfolding is_separator lexeme uuid_in_front other_lexeme
no_such_token = refl

comments_between : tokens (codes "a-- b\n// c\r\n/*/ d */e/* f") ≡ Word (codes "a") ∷ Word (codes "e") ∷ Unknown ∷ Star ∷ Word (codes "f") ∷ []
unfolding is_separator lexeme uuid_in_front other_lexeme
comments_between = refl

quoted_names : tokens (codes "\"Set\"\"1a_\" \"\" \"a b\"") ≡ QuotedName (codes "Set") ∷ QuotedName (codes "1a_") ∷ Unknown ∷ Unknown ∷ Unknown ∷ Word (codes "a") ∷ Word (codes "b") ∷ Unknown ∷ []
unfolding is_separator lexeme uuid_in_front other_lexeme
quoted_names = refl

integers : tokens (codes "0 -007 5a - 1--2") ≡ Integer (Fits (pos 0)) ∷ Integer (Fits (negsuc 6)) ∷ Integer (Fits (pos 5)) ∷ Word (codes "a") ∷ Unknown ∷ Integer (Fits (pos 1)) ∷ []
unfolding is_separator lexeme uuid_in_front other_lexeme
integers = refl

-- the largest and the smallest number of 128 bits, and one beyond each
ends_of_128_bits : tokens (codes "170141183460469231731687303715884105727 170141183460469231731687303715884105728 -170141183460469231731687303715884105728 -170141183460469231731687303715884105729")
    ≡ Integer (Fits (pos 170141183460469231731687303715884105727)) ∷ Integer Wide ∷ Integer (Fits (negsuc 170141183460469231731687303715884105727)) ∷ Integer Wide ∷ []
unfolding is_separator lexeme uuid_in_front other_lexeme
ends_of_128_bits = refl

uuids : tokens (codes "00010203-0405-0607-0809-0A0b0c0d0e0f,a0010203-0405-0607-0809-0A0b0c0d0e0f_")
    ≡ Uuid (0 ∷ 1 ∷ 2 ∷ 3 ∷ 4 ∷ 5 ∷ 6 ∷ 7 ∷ 8 ∷ 9 ∷ 10 ∷ 11 ∷ 12 ∷ 13 ∷ 14 ∷ 15 ∷ []) ∷ Comma
    ∷ Word (codes "a0010203") ∷ Integer (Fits (negsuc 404)) ∷ Integer (Fits (negsuc 606)) ∷ Integer (Fits (negsuc 808)) ∷ Integer (Fits (pos 0)) ∷ Word (codes "a0b0c0d0e0f_") ∷ []
unfolding is_separator lexeme uuid_in_front other_lexeme uuid_on_literals
uuids = refl

signs : tokens (codes "<=< =>>={:}") ≡ LessEqual ∷ Less ∷ Equal ∷ More ∷ MoreEqual ∷ OpenBrace ∷ Colon ∷ CloseBrace ∷ []
unfolding is_separator lexeme uuid_in_front other_lexeme
signs = refl

-- ---- statements

a_create : grammar_parser (codes "CREATE TABLE t (k text PRIMARY KEY, a varchar, b Int, \"C\" bigint, d uuid);")
    ≡ Parses (CreateTable (codes "t") ((codes "k", types.Text) ∷ (codes "a", types.Text) ∷ (codes "b", types.Int) ∷ (codes "C", types.BigInt) ∷ (codes "d", types.Uuid) ∷ []) (codes "k" ∷ []))
unfolding grammar_parser read_items is_separator lexeme uuid_in_front other_lexeme
a_create = refl

a_create_with_its_key_apart : grammar_parser (codes "create table \"T\" (a int, primary key (K), k uuid);")
    ≡ Parses (CreateTable (codes "T") ((codes "a", types.Int) ∷ (codes "k", types.Uuid) ∷ []) (codes "k" ∷ []))
unfolding grammar_parser read_items is_separator lexeme uuid_in_front other_lexeme
a_create_with_its_key_apart = refl

a_create_without_key : grammar_parser (codes "CREATE TABLE t (a int);") ≡ Parses (CreateTable (codes "t") ((codes "a", types.Int) ∷ []) [])
unfolding grammar_parser read_items is_separator lexeme uuid_in_front other_lexeme
a_create_without_key = refl

two_keys : grammar_parser (codes "CREATE TABLE t (k text PRIMARY KEY, PRIMARY KEY (k));") ≡ FailsAt 36
unfolding grammar_parser read_items is_separator lexeme uuid_in_front other_lexeme
two_keys = refl

an_insert : grammar_parser (codes "insert into T (k, A, b, c) values ('k1', 'it''s', -5, NULL) -- now\n;")
    ≡ Parses (Insert (codes "t") (codes "k" ∷ codes "a" ∷ codes "b" ∷ codes "c" ∷ []) (literals.Text (codes "k1") ∷ literals.Text (codes "it's") ∷ literals.Number (Fits (negsuc 4)) ∷ literals.Null ∷ []) None)
unfolding grammar_parser read_items is_separator lexeme uuid_in_front other_lexeme
an_insert = refl

an_insert_with_its_time : grammar_parser (codes "INSERT INTO t (k) VALUES (00000000-0000-0000-0000-0000000000FF) USING TIMESTAMP 7;")
    ≡ Parses (Insert (codes "t") (codes "k" ∷ []) (literals.Uuid (0 ∷ 0 ∷ 0 ∷ 0 ∷ 0 ∷ 0 ∷ 0 ∷ 0 ∷ 0 ∷ 0 ∷ 0 ∷ 0 ∷ 0 ∷ 0 ∷ 0 ∷ 255 ∷ []) ∷ []) (Some (Fits (pos 7))))
unfolding grammar_parser read_items is_separator lexeme uuid_in_front other_lexeme uuid_on_literals
an_insert_with_its_time = refl

an_update : grammar_parser (codes "UPDATE t USING TIMESTAMP 9 SET a = 'x', b = null WHERE k = 1;")
    ≡ Parses (Update (codes "t") (Some (Fits (pos 9))) ((codes "a", literals.Text (codes "x")) ∷ (codes "b", literals.Null) ∷ []) (codes "k") (literals.Number (Fits (pos 1))))
unfolding grammar_parser read_items is_separator lexeme uuid_in_front other_lexeme
an_update = refl

a_deletion : grammar_parser (codes "DELETE FROM t WHERE k = 'a';") ≡ Parses (Delete (codes "t") [] None (codes "k") (literals.Text (codes "a")))
unfolding grammar_parser read_items is_separator lexeme uuid_in_front other_lexeme
a_deletion = refl

a_deletion_of_columns : grammar_parser (codes "DELETE a, \"from\" FROM t USING TIMESTAMP 3 WHERE k = 'a';")
    ≡ Parses (Delete (codes "t") (codes "a" ∷ codes "from" ∷ []) (Some (Fits (pos 3))) (codes "k") (literals.Text (codes "a")))
unfolding grammar_parser read_items is_separator lexeme uuid_in_front other_lexeme
a_deletion_of_columns = refl

a_query : grammar_parser (codes "SELECT * FROM t;") ≡ Parses (Query (record { columns = None; table = codes "t"; relations = []; limit = None; filtering = false }))
unfolding grammar_parser read_items is_separator lexeme uuid_in_front other_lexeme
a_query = refl

a_query_of_columns : grammar_parser (codes "SELECT b, a FROM t;") ≡ Parses (Query (record { columns = Some (codes "b" ∷ codes "a" ∷ []); table = codes "t"; relations = []; limit = None; filtering = false }))
unfolding grammar_parser read_items is_separator lexeme uuid_in_front other_lexeme
a_query_of_columns = refl

too_few_values : grammar_parser (codes "INSERT INTO t (k, a) VALUES ('k1');") ≡ FailsAt 33
unfolding grammar_parser read_items is_separator lexeme uuid_in_front other_lexeme
too_few_values = refl

reserved_name : grammar_parser (codes "SELECT * FROM values;") ≡ FailsAt 14
unfolding grammar_parser read_items is_separator lexeme uuid_in_front other_lexeme
reserved_name = refl

nothing_behind_the_end : grammar_parser (codes "SELECT * FROM t;;") ≡ FailsAt 16
unfolding grammar_parser read_items is_separator lexeme uuid_in_front other_lexeme
nothing_behind_the_end = refl

a_query_with_all : grammar_parser (codes "SELECT * FROM t WHERE a >= 5 AND b LIKE 'x%' LIMIT 3 ALLOW FILTERING;")
    ≡ Parses (Query (record {
      columns = None;
      table = codes "t";
      relations = record { column = codes "a"; test = tests.Ge; value = literals.Number (Fits (pos 5)) } ∷ record { column = codes "b"; test = tests.Like; value = literals.Text (codes "x%") } ∷ [];
      limit = Some (Fits (pos 3));
      filtering = true;
    }))
unfolding grammar_parser read_items is_separator lexeme uuid_in_front other_lexeme
a_query_with_all = refl

an_index : grammar_parser (codes "CREATE CUSTOM INDEX ON t (a) USING 'c' WITH OPTIONS = {'m': 'x', 'm': 'y'};")
    ≡ Parses (CreateIndex None (codes "t") (codes "a") (codes "c") ((codes "m", codes "x") ∷ (codes "m", codes "y") ∷ []) false)
unfolding grammar_parser read_items is_separator lexeme uuid_in_front other_lexeme
an_index = refl

an_index_in_steps : grammar_parser (codes "BEGIN CREATE CUSTOM INDEX i ON t (a) USING 'c';") ≡ Parses (CreateIndex (Some (codes "i")) (codes "t") (codes "a") (codes "c") [] true)
unfolding grammar_parser read_items is_separator lexeme uuid_in_front other_lexeme
an_index_in_steps = refl

a_cursor : grammar_parser (codes "OPEN c AS SELECT a FROM t;")
    ≡ Parses (OpenCursor (codes "c") (record { columns = Some (codes "a" ∷ []); table = codes "t"; relations = []; limit = None; filtering = false }))
unfolding grammar_parser read_items is_separator lexeme uuid_in_front other_lexeme
a_cursor = refl

some_rows : grammar_parser (codes "FETCH 2 FROM c;") ≡ Parses (Fetch (codes "c") (Fits (pos 2)))
unfolding grammar_parser read_items is_separator lexeme uuid_in_front other_lexeme
some_rows = refl

some_units : grammar_parser (codes "STEP INDEX i -1;") ≡ Parses (StepIndex (codes "i") (Fits (negsuc 0)))
unfolding grammar_parser read_items is_separator lexeme uuid_in_front other_lexeme
some_units = refl

-- at the WHERE
limit_first : grammar_parser (codes "SELECT * FROM t LIMIT 3 WHERE a = 1;") ≡ FailsAt 24
unfolding grammar_parser read_items is_separator lexeme uuid_in_front other_lexeme
limit_first = refl

-- at the first word
no_first_word : grammar_parser (codes "SELEC;") ≡ FailsAt 0
unfolding grammar_parser read_items is_separator lexeme uuid_in_front other_lexeme
no_first_word = refl

-- at the end of the text
too_few_tokens : grammar_parser (codes "SELECT * FROM t ") ≡ FailsAt 16
unfolding grammar_parser read_items is_separator lexeme uuid_in_front other_lexeme
too_few_tokens = refl

-- at the quote
open_string : grammar_parser (codes "SHOW FILES 'a;") ≡ FailsAt 11
unfolding grammar_parser read_items is_separator lexeme uuid_in_front other_lexeme
open_string = refl

-- ---- indexes

default_name_of_an_index : default_name (codes "t") (codes "a") ≡ codes "t_a_idx"
default_name_of_an_index = refl

-- a table's name of 44 bytes
default_name_that_is_cut : default_name (codes "a_table_whose_name_is_of_forty_four_bytes_xx") (codes "a") ≡ codes "a_table_whose_name_is_of_forty_four_bytes_xx_a_i"
default_name_that_is_cut = refl

given_name_is_taken : index_name (Some (codes "i")) (codes "t") (codes "a") ≡ codes "i"
given_name_is_taken = refl

mode_in_any_case : mode_given ((codes "mode", codes "Contains") ∷ []) ≡ modes.Contains
mode_in_any_case = refl

mode_that_is_none_is_prefix : mode_given ((codes "Mode", codes "SPARSE") ∷ []) ≡ modes.Prefix
mode_that_is_none_is_prefix = refl

class_without_option : class_given ((codes "mode", codes "prefix") ∷ []) ≡ Some NonTokenizing
class_without_option = refl

class_by_its_option : class_given ((codes "analyzer_class", codes "org.apache.cassandra.index.sasi.analyzer.StandardAnalyzer") ∷ []) ≡ Some Standard
class_by_its_option = refl

unknown_class : class_given ((codes "analyzer_class", codes "StandardAnalyzer") ∷ []) ≡ None
unknown_class = refl

-- which options each type can have
mode_of_a_number : is_allowed types.Int (Some NonTokenizing) (codes "mode", codes "sparse") ≡ true
mode_of_a_number = refl

no_such_mode : is_allowed types.Text (Some NonTokenizing) (codes "mode", codes "suffix") ≡ false
no_such_mode = refl

class_of_a_number : is_allowed types.Int (Some Standard) (codes "analyzer_class", codes "org.apache.cassandra.index.sasi.analyzer.StandardAnalyzer") ≡ false
class_of_a_number = refl

class_of_a_text : is_allowed types.Text (Some Standard) (codes "analyzer_class", codes "org.apache.cassandra.index.sasi.analyzer.StandardAnalyzer") ≡ true
class_of_a_text = refl

unknown_class_of_a_text : is_allowed types.Text None (codes "analyzer_class", codes "x") ≡ false
unknown_class_of_a_text = refl

analyzed_number : is_allowed types.BigInt (Some NonTokenizing) (codes "analyzed", codes "true") ≡ true
analyzed_number = refl

analyzed_is_a_flag : is_allowed types.Text (Some NonTokenizing) (codes "analyzed", codes "TRUE") ≡ false
analyzed_is_a_flag = refl

case_of_a_whole_text : is_allowed types.Text (Some NonTokenizing) (codes "case_sensitive", codes "false") ≡ true
case_of_a_whole_text = refl

case_of_words : is_allowed types.Text (Some Standard) (codes "case_sensitive", codes "false") ≡ false
case_of_words = refl

case_of_a_number : is_allowed types.Int (Some NonTokenizing) (codes "case_sensitive", codes "false") ≡ false
case_of_a_number = refl

lower_case_of_words : is_allowed types.Text (Some Standard) (codes "tokenization_normalize_lowercase", codes "true") ≡ true
lower_case_of_words = refl

lower_case_of_a_whole_text : is_allowed types.Text (Some NonTokenizing) (codes "tokenization_normalize_lowercase", codes "true") ≡ false
lower_case_of_a_whole_text = refl

words_without_stemming : is_allowed types.Text (Some Standard) (codes "tokenization_enable_stemming", codes "false") ≡ true
words_without_stemming = refl

words_with_stemming : is_allowed types.Text (Some Standard) (codes "tokenization_enable_stemming", codes "true") ≡ false
words_with_stemming = refl

no_such_option : is_allowed types.Text (Some NonTokenizing) (codes "Mode", codes "prefix") ≡ false
no_such_option = refl

-- how terms are made
text_kept_whole : rule_given types.Text [] ≡ Some (WholeText false)
text_kept_whole = refl

text_folded : rule_given types.Text ((codes "case_sensitive", codes "false") ∷ []) ≡ Some (WholeText true)
text_folded = refl

words_folded : rule_given types.Text ((codes "tokenization_normalize_lowercase", codes "true") ∷ (codes "analyzer_class", codes "org.apache.cassandra.index.sasi.analyzer.StandardAnalyzer") ∷ []) ≡ Some (Words true)
words_folded = refl

number_without_rule : rule_given types.Int [] ≡ None
number_without_rule = refl

-- a table with a text, its key and a number, and an index on the number
abbrev indexed : Definition
indexed = record {
  name = codes "t";
  columns = (codes "a", types.Text) ∷ (codes "k", types.Text) ∷ (codes "b", types.Int) ∷ [];
  key = 1;
  indexes = record { name = codes "i"; column = 2; mode = modes.Prefix; rule = None } ∷ [];
}

-- the refusal of an index on it
abbrev index_refused : Option (List ℕ) → List ℕ → List ℕ → List IndexOption → Option Refusal
index_refused name column class options = first_refusal (index_rules (indexed ∷ []) name (codes "t") column class options (Some indexed))

no_such_column : index_refused (Some (codes "i")) (codes "x") (codes "c") ((codes "o", []) ∷ []) ≡ Some (6, codes "NoColumn x")
no_such_column = refl

name_is_taken : index_refused (Some (codes "i")) (codes "a") (codes "c") ((codes "o", []) ∷ []) ≡ Some (13, codes "IndexExists i")
name_is_taken = refl

column_is_indexed : index_refused None (codes "b") (codes "c") ((codes "o", []) ∷ []) ≡ Some (13, codes "IndexExists i")
column_is_indexed = refl

other_class_behind_using : index_refused None (codes "k") (codes "c") ((codes "o", []) ∷ []) ≡ Some (15, codes "BadOption using")
other_class_behind_using = refl

option_before_mode : index_refused None (codes "k") index_class ((codes "mode", codes "sparse") ∷ (codes "o", []) ∷ []) ≡ Some (15, codes "BadOption o")
option_before_mode = refl

option_without_name : index_refused None (codes "a") index_class (([], []) ∷ []) ≡ Some (15, codes "BadOption")
option_without_name = refl

repeated_option : index_refused None (codes "a") index_class ((codes "mode", codes "prefix") ∷ (codes "mode", codes "prefix") ∷ []) ≡ Some (15, codes "BadOption mode")
repeated_option = refl

index_on_the_key : index_refused None (codes "k") index_class [] ≡ Some (16, codes "ModeType k")
index_on_the_key = refl

sparse_text : index_refused None (codes "a") index_class ((codes "mode", codes "sparse") ∷ []) ≡ Some (16, codes "ModeType a")
sparse_text = refl

allowed_index : index_refused None (codes "a") index_class [] ≡ None
allowed_index = refl

-- ---- COMPACT

-- the refusal of a statement beside that table
abbrev compact_refused : Statement → Option Refusal
compact_refused statement = first_refusal (rules (record { tables = indexed ∷ []; max_timestamp = 0 }) statement)

compact_of_a_table : compact_refused (Compact (codes "t")) ≡ None
compact_of_a_table = refl

compact_of_no_table : compact_refused (Compact (codes "i")) ≡ Some (4, codes "NoTable i")
compact_of_no_table = refl

begin_of_no_table : compact_refused (BeginCompact (codes "T")) ≡ Some (4, codes "NoTable T")
begin_of_no_table = refl

most_units : compact_refused (StepCompact (codes "t") (Fits (pos 2147483647))) ≡ None
most_units = refl

units_above_the_most : compact_refused (StepCompact (codes "t") (Fits (pos 2147483648))) ≡ Some (9, codes "NumberRange STEP")
units_above_the_most = refl

no_units : compact_refused (StepCompact (codes "t") (Fits (pos 0))) ≡ Some (9, codes "NumberRange STEP")
no_units = refl

fewer_units_than_none : compact_refused (StepCompact (codes "t") (Fits (negsuc 0))) ≡ Some (9, codes "NumberRange STEP")
fewer_units_than_none = refl

units_that_are_wide : compact_refused (StepCompact (codes "t") Wide) ≡ Some (9, codes "NumberRange STEP")
units_that_are_wide = refl

-- the table comes first
no_units_of_no_table : compact_refused (StepCompact (codes "u") (Fits (pos 0))) ≡ Some (4, codes "NoTable u")
no_units_of_no_table = refl
