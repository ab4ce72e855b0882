-- Short names for parts of the definitions, which contracts and proofs cite.
use Rattle.std.specs.Prelude.{ℕ, ◌-◌, ◌^◌, nat_le, Bool, not, ◌&&◌, nat_lt, List, [], ◌∷◌, ◌++◌, length, map, None, Some}
use Rattle.std.specs.List.{list_any, list_all}
use Rattle.std.specs.Int.{w16, w32}
use Rattle.sasi_types.specs.declared.index_def.IndexDef.{IndexDef}
use Rattle.sasi_types.specs.declared.mode.Mode.{Mode}
use Rattle.sasi_types.specs.declared.partitioner.Partitioner.{Partitioner}
use Rattle.sasi_host.specs.Names.{Bytes}
use Rattle.sasi_host.specs.declared.damage.FormatRule.TheVariants as rule
use Rattle.sasi_model.specs.State.{Column}
use Rattle.sasi_model.specs.Statements.{same}
use Rattle.sasi_model.specs.Tokens.{is_word_byte}
use Rattle.sasi_model.specs.Refusals.{names_in}
use Rattle.sasi_formats.specs.Formats.{Format, Then}
use Rattle.sasi_formats.specs.Fields.{◌&◌, checked, in_range, number}
use Rattle.sasi_manifest.specs.declared.listing.Listing.{Listing}
use Rattle.sasi_manifest.specs.ListedDefinition.{ListedDefinition}
use Rattle.sasi_manifest.specs.Format.{RecordsLeadTo}
use Rattle.sasi_manifest.specs.Listings.{at_number, listed_definitions, listed_with_index}
use Rattle.sasi_manifest.specs.Edits.{RuleFields, definition_at, index_names, name, named_index, type}

-- ---- listings

-- the names of the listed tables
abbrev pub listed_names : List ListedDefinition → List Bytes
listed_names tables = map (λ t. t.definition.name) tables

-- no tables and no record yet; the header and the closed gate have 17 bytes
abbrev pub started : Partitioner → ℕ → ℕ → Listing
started partitioner floor last = record { partitioner = partitioner; floor = floor; last = last; records = 0; length = 17; tables = [] }

-- a table as an edit makes it
abbrev pub created_table : Bytes → List Column → ℕ → ℕ → ListedDefinition
created_table name columns key since = record { definition = record { name = name; columns = columns; key = key; indexes = [] }; numbers = []; since = since; files = [] }

abbrev pub with_listed_table : ListedDefinition → Listing → Listing
with_listed_table table listing = record listing { tables = listing.tables ++ table ∷ [] }

-- the listing with one index more
abbrev pub with_defined_index : IndexDef → Listing → Listing
with_defined_index def listing = record listing { tables = at_number 1 def.table (listed_with_index def) listing.tables }

-- the records build up the listing
abbrev pub Builds : List Bytes → Listing → Type 0
Builds records listing = RecordsLeadTo None records (Some listing)

-- ---- formats

-- letters, digits and `_`, and none of these
abbrev pub is_open_name : List Bytes → Bytes → Bool
is_open_name taken name = list_all is_word_byte name && not (list_any (same name) taken)

-- the position of the key among the columns
abbrev pub key : List Column → Format ℕ
key columns = checked rule.Number 2 (λ key. nat_lt key (length columns)) (number w16)

-- the first and the last live segment of the log
abbrev pub segments : Format (ℕ × ℕ)
segments = checked rule.Number 4 (λ s. nat_le s.0 s.1) (in_range w32 1 (2 ^ 32 - 1) & in_range w32 1 (2 ^ 32 - 1))

-- the number of a listed table
abbrev pub table_number : List ListedDefinition → Format ℕ
table_number tables = in_range w32 1 (length (listed_definitions tables))

-- it, and an index that is new on the table
abbrev pub placed_index : List ListedDefinition → Format (ℕ × (Bytes × (ℕ × (Mode × RuleFields))))
placed_index tables = Then (table_number tables) (λ table. named_index (index_names (listed_definitions tables)) (definition_at (listed_definitions tables) table))

-- a name that no column before has, and a type
abbrev pub column : List Column → Format Column
column before = name (names_in before) & type
