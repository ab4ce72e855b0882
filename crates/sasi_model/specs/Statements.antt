-- The grammar: which statement the tokens of a piece spell, by a line for each production.
use Rattle.std.specs.Prelude.{ℕ, Bool, true, false, not, ◌&&◌, ◌==◌, nat_le, if◌then◌else◌, codes, List, [], ◌∷◌, length, map, Option, None, Some}
use Rattle.std.specs.List.{flat_map, list_any}
use Rattle.std.specs.Map.{lookup}
use Prim.Native.String.{String}
use Rattle.sasi_types.specs.declared.column.ColumnType.{ColumnType}
use Rattle.sasi_types.specs.declared.column.ColumnType.TheVariants as types
use Rattle.sasi_types.specs.declared.declaration.Declaration.{Declaration}
use Rattle.sasi_types.specs.declared.declaration.Declaration.TheVariants.{Column, KeyColumn, Key}
use Rattle.sasi_types.specs.declared.literal.Literal.{Literal}
use Rattle.sasi_types.specs.declared.literal.Literal.TheVariants as values
use Rattle.sasi_types.specs.declared.literal.Number.{Number}
use Rattle.sasi_types.specs.declared.relation.Relation.{Relation}
use Rattle.sasi_types.specs.declared.relation.Test.{Test}
use Rattle.sasi_types.specs.declared.relation.Test.TheVariants as tests
use Rattle.sasi_types.specs.declared.statement.Select.{Select}
use Rattle.sasi_types.specs.declared.statement.Statement.{Statement}
use Rattle.sasi_types.specs.declared.statement.Statement.TheVariants.{CreateTable, CreateIndex, DropIndex, Insert, Update, Delete, Query, OpenCursor, Fetch, CloseCursor, Flush, Compact, Rebuild, ShowFiles, BeginCompact, BeginRebuild, StepCompact, StepIndex, Trace}
use Rattle.sasi_model.specs.Tokens.{Token, Word, QuotedName, Quoted, Integer, Uuid, Open, Close, Comma, Star, Equal, Less, LessEqual, More, MoreEqual, Colon, OpenBrace, CloseBrace, Semicolon, same_token}
pub use Rattle.sasi_model.specs.Tokens.{same}
use Rattle.sasi_model.specs.Forms.{Form, Never, Nothing, One, Then, As, Where, Choose, Many}

-- ---- what one token stands for

-- these words are no names
abbrev pub reserved : List (List ℕ)
reserved = map codes ("allow" ∷ "and" ∷ "at" ∷ "from" ∷ "like" ∷ "limit" ∷ "null" ∷ "on" ∷ "or" ∷ "primary" ∷ "set" ∷ "using" ∷ "values" ∷ "where" ∷ [])

-- a word is a name: it has at most 48 bytes and isn't reserved
abbrev pub is_name : List ℕ → Bool
is_name word = nat_le (length word) 48 && not (list_any (same word) reserved)

abbrev pub name_of : Token → Option (List ℕ)
name_of (Word word) = if is_name word then Some word else None
name_of (QuotedName name) = Some name
name_of _ = None

abbrev pub string_of : Token → Option (List ℕ)
string_of (Quoted text) = Some text
string_of _ = None

abbrev pub literal_of : Token → Option Literal
literal_of (Quoted text) = Some (values.Text text)
literal_of (Integer number) = Some (values.Number number)
literal_of (Uuid bytes) = Some (values.Uuid bytes)
literal_of (Word word) = if same word (codes "null") then Some values.Null else None
literal_of _ = None

abbrev pub number_of : Token → Option Number
number_of (Integer number) = Some number
number_of _ = None

abbrev pub test_of : Token → Option Test
test_of Equal = Some tests.Eq
test_of Less = Some tests.Lt
test_of LessEqual = Some tests.Le
test_of More = Some tests.Gt
test_of MoreEqual = Some tests.Ge
test_of _ = None

abbrev pub type_named : List ℕ → Option ColumnType
type_named word = lookup (same word)
    ((codes "text", types.Text) ∷ (codes "varchar", types.Text) ∷ (codes "int", types.Int) ∷ (codes "bigint", types.BigInt) ∷ (codes "uuid", types.Uuid) ∷ [])

abbrev pub type_of : Token → Option ColumnType
type_of (Word word) = type_named word
type_of _ = None

-- ---- how productions are written

abbrev pub word : String → Token
word letters = Word (codes letters)

-- this token
abbrev pub this : Token → Form (Unit {0})
this wanted = One (λ token. if same_token wanted token then Some tt else None)

-- these tokens
abbrev pub these : List Token → Form (Unit {0})
these [] = Nothing tt
these (wanted ∷ others) = As (λ both. both.1) (Then (this wanted) (these others))

-- a form, and another behind it
infixr 30 ◌&◌
abbrev pub ◌&◌ : {A B : Type 0} → Form A → Form B → Form (A × B)
first & second = Then first second

-- a form behind these tokens
infixr 40 ◌▸◌
abbrev pub ◌▸◌ : {A : Type 0} → List Token → Form A → Form A
tokens ▸ form = As (λ both. both.1) (Then (these tokens) form)

-- a form in front of these tokens
infixl 45 ◌◂◌
abbrev pub ◌◂◌ : {A : Type 0} → Form A → List Token → Form A
form ◂ tokens = As (λ both. both.0) (Then form (these tokens))

-- items with this token between them, and one at least
abbrev pub listed : {A : Type 0} → Token → Form A → Form (List A)
listed between form = Many between (λ a. false) (λ marked. form) false

-- the form behind the first of these words that is in front, or the other form
abbrev pub by_word : {A : Type 0} → List (String × Form A) → Form A → Form A
by_word [] other = other
by_word (rule ∷ rules) other = Choose (word rule.0) rule.1 (by_word rules other)

-- ---- parts

abbrev pub name : Form (List ℕ)
name = One name_of

abbrev pub string : Form (List ℕ)
string = One string_of

abbrev pub number : Form Number
number = One number_of

abbrev pub literal : Form Literal
literal = One literal_of

abbrev pub type : Form ColumnType
type = One type_of

-- name {, name}
abbrev pub names : Form (List (List ℕ))
names = listed Comma name

-- [USING TIMESTAMP integer]
abbrev pub time : Form (Option Number)
time = Choose (word "using") ((word "timestamp" ∷ []) ▸ As (λ n. Some n) number) (Nothing None)

-- name = literal
abbrev pub equation : Form (List ℕ × Literal)
equation = name & (Equal ∷ []) ▸ literal

-- literal {, literal}
abbrev pub literals : Form (List Literal)
literals = listed Comma literal

-- name = literal {, name = literal}
abbrev pub equations : Form (List (List ℕ × Literal))
equations = listed Comma equation

-- WHERE name = literal
abbrev pub key_given : Form (List ℕ × Literal)
key_given = (word "where" ∷ []) ▸ equation

-- ---- CREATE TABLE

-- PRIMARY KEY is said in it
abbrev pub says_key : Declaration → Bool
says_key (Column column kind) = false
says_key (KeyColumn column kind) = true
says_key (Key key) = true

-- the column that is declared
abbrev pub columns_of : Declaration → List (List ℕ × ColumnType)
columns_of (Column column kind) = (column, kind) ∷ []
columns_of (KeyColumn column kind) = (column, kind) ∷ []
columns_of (Key key) = []

-- the name that is made the primary key
abbrev pub keys_of : Declaration → List (List ℕ)
keys_of (Column column kind) = []
keys_of (KeyColumn column kind) = column ∷ []
keys_of (Key key) = key ∷ []

-- name type
abbrev pub plain_column : Form Declaration
plain_column = As (λ f. Column f.0 f.1) (name & type)

-- name type [PRIMARY KEY]
abbrev pub column : Form Declaration
column = As (λ f. if f.1.1 then KeyColumn f.0 f.1.0 else Column f.0 f.1.0) (name & type & Choose (word "primary") ((word "key" ∷ []) ▸ Nothing true) (Nothing false))

-- name type [PRIMARY KEY] | PRIMARY KEY ( name ), and name type alone where PRIMARY KEY was said before
abbrev pub declaration : Bool → Form Declaration
declaration true = plain_column
declaration false = Choose (word "primary") (As (λ key. Key key) ((word "key" ∷ Open ∷ []) ▸ name ◂ (Close ∷ []))) column

-- name ( item {, item} )
abbrev pub table : Form Statement
table = As (λ f. CreateTable f.0 (flat_map columns_of f.1) (flat_map keys_of f.1)) (name & (Open ∷ []) ▸ Many Comma says_key declaration false ◂ (Close ∷ []))

-- ---- CREATE CUSTOM INDEX

-- [name] ON
abbrev pub index_name : Form (Option (List ℕ))
index_name = Choose (word "on") (Nothing None) (As (λ n. Some n) (name ◂ (word "on" ∷ [])))

-- string : string
abbrev pub option : Form (List ℕ × List ℕ)
option = string & (Colon ∷ []) ▸ string

-- [WITH OPTIONS = { string : string {, string : string} }]
abbrev pub options : Form (List (List ℕ × List ℕ))
options = Choose (word "with") ((word "options" ∷ Equal ∷ OpenBrace ∷ []) ▸ listed Comma option ◂ (CloseBrace ∷ [])) (Nothing [])

-- INDEX [name] ON name ( name ) USING string [WITH OPTIONS = { .. }]
abbrev pub index : Bool → Form Statement
index stepped = As (λ f. CreateIndex f.0 f.1.0 f.1.1.0 f.1.1.1.0 f.1.1.1.1 stepped)
    ((word "index" ∷ []) ▸ (index_name & name & (Open ∷ []) ▸ name & (Close ∷ word "using" ∷ []) ▸ string & options))

-- ---- INSERT, UPDATE and DELETE

-- as many literals as names
abbrev pub same_length : (List ℕ × (List (List ℕ) × List Literal)) → Bool
same_length f = length f.1.1 == length f.1.0

-- INTO name ( name {, name} ) VALUES ( literal {, literal}
abbrev pub given : Form (List ℕ × (List (List ℕ) × List Literal))
given = (word "into" ∷ []) ▸ (name & (Open ∷ []) ▸ names & (Close ∷ word "values" ∷ Open ∷ []) ▸ literals)

-- INTO name ( name {, name} ) VALUES ( literal {, literal} ) [USING TIMESTAMP integer]
abbrev pub insert : Form Statement
insert = As (λ f. Insert f.0.0 f.0.1.0 f.0.1.1 f.1) (Where same_length given & (Close ∷ []) ▸ time)

-- name [USING TIMESTAMP integer] SET name = literal {, name = literal} WHERE name = literal
abbrev pub update : Form Statement
update = As (λ f. Update f.0 f.1.0 f.1.1.0 f.1.1.1.0 f.1.1.1.1) (name & time & (word "set" ∷ []) ▸ equations & key_given)

-- [name {, name}] FROM
abbrev pub deleted : Form (List (List ℕ))
deleted = Choose (word "from") (Nothing []) (names ◂ (word "from" ∷ []))

-- [name {, name}] FROM name [USING TIMESTAMP integer] WHERE name = literal
abbrev pub delete : Form Statement
delete = As (λ f. Delete f.1.0 f.0 f.1.1.0 f.1.1.1.0 f.1.1.1.1) (deleted & name & time & key_given)

-- ---- SELECT

-- name (= | < | <= | > | >=) literal | name LIKE string
abbrev pub relation : Form Relation
relation = As (λ f. record { column = f.0; test = f.1.0; value = f.1.1 })
    (name & Choose (word "like") (As (λ text. (tests.Like, values.Text text)) string) (One test_of & literal))

-- * | name {, name}
abbrev pub asked : Form (Option (List (List ℕ)))
asked = Choose Star (Nothing None) (As (λ columns. Some columns) names)

-- [WHERE relation {AND relation}]
abbrev pub relations : Form (List Relation)
relations = Choose (word "where") (listed (word "and") relation) (Nothing [])

-- [LIMIT integer]
abbrev pub limit : Form (Option Number)
limit = Choose (word "limit") (As (λ n. Some n) number) (Nothing None)

-- [ALLOW FILTERING]
abbrev pub filtering : Form Bool
filtering = Choose (word "allow") ((word "filtering" ∷ []) ▸ Nothing true) (Nothing false)

-- (* | name {, name}) FROM name [WHERE relation {AND relation}] [LIMIT integer] [ALLOW FILTERING]
abbrev pub select : Form Select
select = As (λ f. record { columns = f.0; table = f.1.0; relations = f.1.1.0; limit = f.1.1.1.0; filtering = f.1.1.1.1 })
    (asked & (word "from" ∷ []) ▸ name & relations & limit & filtering)

-- ---- statements

-- CREATE: TABLE .. | CUSTOM INDEX ..
abbrev pub created : Form Statement
created = by_word (("table", table) ∷ ("custom", index false) ∷ []) Never

-- INDEX name
abbrev pub index_named : Form (List ℕ)
index_named = (word "index" ∷ []) ▸ name

-- BEGIN: COMPACT name | REBUILD INDEX name | CREATE CUSTOM INDEX ..
abbrev pub begun : Form Statement
begun = by_word
    (("compact", As (λ t. BeginCompact t) name)
    ∷ ("rebuild", As (λ i. BeginRebuild i) index_named)
    ∷ ("create", (word "custom" ∷ []) ▸ index true) ∷ []) Never

-- STEP: COMPACT name integer | INDEX name integer
abbrev pub stepped : Form Statement
stepped = by_word (("compact", As (λ f. StepCompact f.0 f.1) (name & number)) ∷ ("index", As (λ f. StepIndex f.0 f.1) (name & number)) ∷ []) Never

-- TRACE: ON | OFF
abbrev pub traced : Form Statement
traced = by_word (("on", Nothing (Trace true)) ∷ ("off", Nothing (Trace false)) ∷ []) Never

-- of files and tasks
abbrev pub on_files : Form Statement
on_files = by_word
    (("flush", As (λ t. Flush t) name)
    ∷ ("compact", As (λ t. Compact t) name)
    ∷ ("rebuild", As (λ i. Rebuild i) index_named)
    ∷ ("show", (word "files" ∷ []) ▸ Nothing ShowFiles)
    ∷ ("begin", begun) ∷ ("step", stepped) ∷ ("trace", traced) ∷ []) Never

-- of cursors
abbrev pub on_cursors : Form Statement
on_cursors = by_word
    (("open", As (λ f. OpenCursor f.0 f.1) (name & (word "as" ∷ word "select" ∷ []) ▸ select))
    ∷ ("fetch", As (λ f. Fetch f.1 f.0) (number & (word "from" ∷ []) ▸ name))
    ∷ ("close", As (λ c. CloseCursor c) name) ∷ []) on_files

abbrev pub statement : Form Statement
statement = by_word
    (("create", created)
    ∷ ("drop", As (λ i. DropIndex i) index_named)
    ∷ ("insert", insert) ∷ ("update", update) ∷ ("delete", delete)
    ∷ ("select", As (λ s. Query s) select) ∷ []) on_cursors

-- a statement and its `;`
abbrev pub piece : Form Statement
piece = statement ◂ (Semicolon ∷ [])
