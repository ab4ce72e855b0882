-- Well-formed statements: names are names, texts are UTF-8, and uuids have sixteen bytes.
use Rattle.std.specs.Prelude.{◌≡◌, ℕ, ◌≤◌, List, length, Option, None, Some, ⊤}
use Rattle.std.specs.List.{AllByRecursion}
use Rattle.std.specs.Str.{IsUtf8}
use Rattle.sasi_types.specs.declared.literal.Literal.{Literal}
use Rattle.sasi_types.specs.declared.literal.Literal.TheVariants as literals
use Rattle.sasi_types.specs.declared.relation.Relation.{Relation}
use Rattle.sasi_types.specs.declared.relation.Test.{Test}
use Rattle.sasi_types.specs.declared.relation.Test.TheVariants.{Like}
use Rattle.sasi_types.specs.declared.statement.Select.{Select}
use Rattle.sasi_types.specs.declared.statement.Statement.{Statement}
use Rattle.sasi_types.specs.declared.statement.Statement.TheVariants.{CreateTable, CreateIndex, DropIndex, Insert, Update, Delete, Query, OpenCursor, Fetch, CloseCursor, Flush, Compact, Rebuild, ShowFiles, BeginCompact, BeginRebuild, StepCompact, StepIndex, Trace}
use Rattle.sasi_model.specs.Naming.{IsName, IsWord}
use Rattle.sasi_model.specs.State.{Column}
use Rattle.sasi_model.specs.Tokens.{Token, Word, QuotedName, Quoted, Uuid}

-- ---- tokens

abbrev pub IsWellFormedToken : Token → Type 0
IsWellFormedToken (Word word) = (1 ≤ length word) × IsWord word
IsWellFormedToken (QuotedName name) = IsName name
IsWellFormedToken (Quoted text) = IsUtf8 text
IsWellFormedToken (Uuid bytes) = length bytes ≡ 16
IsWellFormedToken _ = ⊤

-- ---- statements

abbrev pub IsWellFormedLiteral : Literal → Type 0
IsWellFormedLiteral (literals.Text text) = IsUtf8 text
IsWellFormedLiteral (literals.Uuid bytes) = length bytes ≡ 16
IsWellFormedLiteral _ = ⊤

-- a column with its type, and one with the literal that it is set to
abbrev pub IsWellFormedColumn : Column → Type 0
IsWellFormedColumn column = IsName column.0

abbrev pub IsWellFormedSet : List ℕ × Literal → Type 0
IsWellFormedSet set = IsName set.0 × IsWellFormedLiteral set.1

abbrev pub AreNames : List (List ℕ) → Type 0
AreNames names = AllByRecursion IsName names

abbrev pub IsWellFormedOption : List ℕ × List ℕ → Type 0
IsWellFormedOption option = IsUtf8 option.0 × IsUtf8 option.1

-- LIKE has a text
abbrev pub IsTested : Test → Literal → Type 0
IsTested Like (literals.Text text) = ⊤
IsTested Like literal = ⊥
IsTested test literal = ⊤

abbrev pub IsWellFormedRelation : Relation → Type 0
IsWellFormedRelation relation = IsName relation.column × IsWellFormedLiteral relation.value × IsTested relation.test relation.value

-- a name that may be left out, and names that may be
abbrev pub IsNameOrNone : Option (List ℕ) → Type 0
IsNameOrNone None = ⊤
IsNameOrNone (Some name) = IsName name

abbrev pub AreNamesOrNone : Option (List (List ℕ)) → Type 0
AreNamesOrNone None = ⊤
AreNamesOrNone (Some names) = AreNames names

abbrev pub IsWellFormedSelect : Select → Type 0
IsWellFormedSelect select = AreNamesOrNone select.columns × IsName select.table × AllByRecursion IsWellFormedRelation select.relations

-- any number, and any choice of ON and OFF, is well-formed
abbrev pub IsWellFormed : Statement → Type 0
IsWellFormed (CreateTable table columns keys) = IsName table × AllByRecursion IsWellFormedColumn columns × AreNames keys
IsWellFormed (CreateIndex name table column class options stepped) =
    IsNameOrNone name × IsName table × IsName column × IsUtf8 class × AllByRecursion IsWellFormedOption options
IsWellFormed (DropIndex index) = IsName index
IsWellFormed (Insert table columns values time) = IsName table × AreNames columns × AllByRecursion IsWellFormedLiteral values
IsWellFormed (Update table time sets key value) = IsName table × AllByRecursion IsWellFormedSet sets × IsWellFormedSet (key, value) × (1 ≤ length sets)
IsWellFormed (Delete table columns time key value) = IsName table × AreNames columns × IsWellFormedSet (key, value)
IsWellFormed (Query select) = IsWellFormedSelect select
IsWellFormed (OpenCursor cursor select) = IsName cursor × IsWellFormedSelect select
IsWellFormed (Fetch cursor count) = IsName cursor
IsWellFormed (CloseCursor cursor) = IsName cursor
IsWellFormed (Flush table) = IsName table
IsWellFormed (Compact table) = IsName table
IsWellFormed (Rebuild index) = IsName index
IsWellFormed ShowFiles = ⊤
IsWellFormed (BeginCompact table) = IsName table
IsWellFormed (BeginRebuild index) = IsName index
IsWellFormed (StepCompact table units) = IsName table
IsWellFormed (StepIndex index units) = IsName index
IsWellFormed (Trace on) = ⊤
