-- What a piece asks of the tables. It is known from their definitions and the largest timestamp of the state: a store needs no
-- row for it.
use Rattle.std.specs.Prelude.{ℕ, suc, List, [], ◌∷◌, Option, None, Some, if◌then◌else◌}
use Rattle.std.specs.List.{zip}
use Rattle.std.specs.Map.{lookup}
use Rattle.std.specs.Option.{option_and_then, option_map, option_map_or}
use Rattle.sasi_types.specs.Rule.{class_of}
use Rattle.sasi_types.specs.declared.class.Class.{Class}
use Rattle.sasi_types.specs.declared.literal.Literal.{Literal}
use Rattle.sasi_types.specs.declared.literal.Number.{Number}
use Rattle.sasi_types.specs.Value.{stored}
use Rattle.sasi_types.specs.declared.statement.Statement.{Statement}
use Rattle.sasi_types.specs.declared.statement.Statement.TheVariants.{CreateTable, CreateIndex, Insert, Update, Delete, Flush, Query}
use Rattle.sasi_model.specs.Changes.{after_change, state_with_index, with_new_table}
use Rattle.sasi_model.specs.Cells.{Partition}
use Rattle.sasi_model.specs.Pieces.{Piece}
use Rattle.sasi_model.specs.Refusals.{Known, ParsedPiece, Nothing, Says, Bad, read, rules}
use Rattle.sasi_model.specs.State.{Definition, Index, State, decorated, key_column}
use Rattle.sasi_model.specs.Step.{cells_set, delete_change, given_key, index_given, insert_change, primary_key, timestamp}
use Rattle.sasi_model.specs.Tokens.{same}
use Rattle.sasi_model.specs.Values.{value_given}

pub data Asked : Type 0 where
  NoChange : Asked
  Creates : Definition → Asked
  -- the number of the table, and its new index
  Defines : ℕ → Index → Asked
  -- the number of the table, the key, and the change of the key's partition
  Writes : ℕ → List ℕ → Partition → Asked
  -- the number of the table
  Flushes : ℕ → Asked

-- what is asked of the first table of a name, by its number and definition; the numbers of the tables rise from this one on
abbrev pub asked_of : ℕ → List ℕ → (ℕ → Definition → Asked) → List Definition → Asked
asked_of n name ask [] = NoChange
asked_of n name ask (d ∷ ds) = if same d.name name then ask n d else asked_of (suc n) name ask ds

-- a write, where there is a key and a change
abbrev pub write_of : ℕ → Option (List ℕ) → Option Partition → Asked
write_of n (Some key) (Some change) = Writes n key change
write_of n key change = NoChange

-- the bytes of the key that a literal gives, if it gives the key column a value
abbrev pub key_given : Definition → Literal → Option (List ℕ)
key_given d literal = option_map stored (option_and_then (λ column. value_given column.1 literal) (key_column d))

-- a write to the named table
abbrev pub write_asked : Known → List ℕ → Option Number → (Definition → Option Literal) → (Definition → ℕ → Partition) → Asked
write_asked known table time key change =
    asked_of 1 table (λ n d. write_of n (option_and_then (key_given d) (key d)) (option_map (change d) (timestamp known.max_timestamp time))) known.tables

-- an index of the table of this number, if there is one
abbrev pub define_of : ℕ → Option Index → Asked
define_of n index = option_map_or (Defines n) index NoChange

-- What a statement asks that isn't refused; one that isn't built asks nothing. COMPACT, BEGIN COMPACT and STEP COMPACT ask for no change: what they do to the
-- files is up to the running compactions, which are no part of the state.
abbrev pub statement_asks : Known → Statement → Asked
statement_asks known (CreateTable table columns keys) = option_map_or (λ key. Creates (record { name = table; columns = columns; key = key; indexes = [] })) (primary_key columns keys) NoChange
statement_asks known (CreateIndex name table column class options stepped) = asked_of 1 table (λ n d. define_of n (index_given d name table column options)) known.tables
statement_asks known (Insert table columns values time) =
    write_asked known table time (λ d. given_key d (zip columns values)) (λ d time. insert_change d time (zip columns values))
statement_asks known (Update table time sets key value) =
    write_asked known table time (λ d. Some value) (λ d time. record { deleted = 0; cells = cells_set d time sets })
statement_asks known (Delete table columns time key value) =
    write_asked known table time (λ d. Some value) (λ d time. delete_change d time columns)
statement_asks known (Query select) = NoChange
statement_asks known (Flush table) = asked_of 1 table (λ n d. Flushes n) known.tables
statement_asks known statement = NoChange

-- a refused statement asks for no change
abbrev pub parsed_asks : Known → ParsedPiece → Asked
parsed_asks known Nothing = NoChange
parsed_asks known (Bad r) = NoChange
parsed_asks known (Says statement) = option_map_or (λ r. NoChange) (lookup (λ applies. applies) (rules known statement)) (statement_asks known statement)

-- what a piece asks, by what is known of the state
abbrev pub asks : Known → Piece → Asked
asks known piece = parsed_asks known (read piece)

-- the class of analyzer that what is asked needs
abbrev pub class_needed : Asked → Option Class
class_needed NoChange = None
class_needed (Creates d) = None
class_needed (Defines n index) = option_map class_of index.rule
class_needed (Writes n key change) = None
class_needed (Flushes n) = None

-- the state after what is asked
abbrev pub state_asked : Asked → State → State
state_asked NoChange s = s
state_asked (Creates d) s = with_new_table s d
state_asked (Defines n index) s = state_with_index s n index
state_asked (Writes n key change) s = after_change s n (decorated s.partitioner key) change
state_asked (Flushes n) s = s
