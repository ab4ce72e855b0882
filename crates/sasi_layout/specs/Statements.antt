-- The moves of a statement.
use Rattle.std.specs.Prelude.{ℕ, ◌^◌, Bool, false, not, ◌||◌, ◌==◌, nat_le, if◌then◌else◌, List, [], ◌∷◌, length, map}
use Rattle.std.specs.List.{list_any, sum_by}
use Rattle.std.specs.Option.{option_map_or}
use Rattle.std.specs.FinMap as map_
use Rattle.sasi_memtable.specs.Sizes.{byte_count, cell_count}
use Rattle.sasi_model.specs.Abbreviations.{Partitions}
use Rattle.sasi_model.specs.Asked.{Asked, NoChange, Creates, Defines, Writes, Flushes, parsed_asks}
use Rattle.sasi_model.specs.Parsers.{Parser, grammar_parser}
use Rattle.sasi_model.specs.Pieces.{Piece}
use Rattle.sasi_model.specs.Refusals.{Known, read_by}
use Rattle.sasi_model.specs.State.{Definition, max_timestamp}
pub use Rattle.sasi_layout.specs.Layout.{numbered}
use Rattle.sasi_layout.specs.Layout.{Layout, state_of, unflushed}
use Rattle.sasi_layout.specs.Moves.{Create, Define, Flush, Move, Put, after_put}

-- there is a partition in one of the maps
abbrev pub any_partition : List Partitions → Bool
any_partition maps = list_any (λ m. not (length (map_.entries m) == 0)) maps

-- the maps have 65,536 cells or 2^26 bytes
abbrev pub are_full : List Partitions → Bool
are_full maps = nat_le 65536 (sum_by cell_count maps) || nat_le (2 ^ 26) (sum_by byte_count maps)

-- the test of what isn't flushed of the table of a number, if there is one
abbrev pub tests_unflushed : (List Partitions → Bool) → ℕ → Layout → Bool
tests_unflushed test table l = option_map_or (λ t. test (unflushed t)) (numbered 1 table l.tables) false

-- a table is flushed if the maps that aren't flushed pass the test
abbrev pub flush_where : (List Partitions → Bool) → ℕ → Layout → List Move
flush_where test table l = if tests_unflushed test table l then Flush table ∷ [] else []

-- The moves that a layout makes of what is asked. A write that fills a table's maps is followed by a flush.
abbrev pub moves_asked : Layout → Asked → List Move
moves_asked l NoChange = []
moves_asked l (Creates d) = Create d ∷ []
moves_asked l (Defines table index) = Define table index ∷ []
moves_asked l (Writes table key change) =
    Put (record { table = table; key = key; change = change }) ∷ flush_where are_full table (after_put (record { table = table; key = key; change = change }) l)
moves_asked l (Flushes table) = flush_where any_partition table l

-- the definitions of the tables
abbrev pub definitions_of : Layout → List Definition
definitions_of l = map (λ t. t.definition) l.tables

-- what a piece is judged by
abbrev pub known_in : Layout → Known
known_in l = record { tables = definitions_of l; max_timestamp = max_timestamp (state_of l) }

-- the moves of a piece, as this parser parses it
abbrev pub moves_by : Parser → Layout → Piece → List Move
moves_by parser l piece = moves_asked l (parsed_asks (known_in l) (read_by parser piece))

-- as the parser of the grammar does
abbrev pub moves_of : Layout → Piece → List Move
moves_of = moves_by grammar_parser
