-- A look-up of a key in the parts of a table, and how much is read for it.
use Rattle.std.specs.Prelude.{ℕ, ◌+◌, ◌*◌, List, [], ◌∷◌, length, map, slice_get, Option}
use Rattle.std.specs.FinMap.{get}
use Rattle.std.specs.Option.{option_and_then}
use Rattle.sasi_types.specs.declared.decorated_key.DecoratedKey.{DecoratedKey}
use Rattle.sasi_types.specs.declared.partitioner.Partitioner.{Partitioner}
use Rattle.sasi_types.specs.Token.{token_of}
use Rattle.sasi_model.specs.Abbreviations.{Partitions}
use Rattle.sasi_model.specs.Cells.{Partition}
use Rattle.sasi_cells.specs.Maps.{joined}
use Rattle.sasi_tokentree.specs.Heights.{height}
use Rattle.sasi_datawrite.specs.Format.{Content, header}
use Rattle.sasi_dataread.specs.Finds.{token_reads}
use Rattle.sasi_memtable.specs.MemtableView.{MemtableView}
use Rattle.sasi_merge.specs.Streams.{maps_of}
use Rattle.sasi_scan.specs.Parts.{entries_of}

-- the maps of data files of these contents
abbrev pub file_maps : Partitioner → List Content → List Partitions
file_maps partitioner contents = maps_of (map (entries_of partitioner) contents)

-- what the map at a position of maps in memory has of a key
abbrev pub found_at : List MemtableView → ℕ → DecoratedKey → Option Partition
found_at maps position key = option_and_then (λ (m : MemtableView). get m.partitions key) (slice_get maps position)

-- what maps have of a key, the oldest first, merged onto what there is
abbrev pub found_in : DecoratedKey → Option Partition → List Partitions → Option Partition
found_in key base [] = base
found_in key base (m ∷ ms) = found_in key (joined base (get m key)) ms

-- How often a look-up of a key reads the data file of a content: three times to open it, twice for each level of its key tree
-- and twice more, and for each partition with the key's token the pages of the partition and once more.
abbrev pub find_reads : Partitioner → List ℕ → Content → ℕ
find_reads partitioner key content =
    3 + (2 * height (length content) (length content) + 2 + token_reads partitioner (token_of partitioner key) (length header) content)

-- and the data files of these contents
abbrev pub key_reads : Partitioner → List ℕ → List Content → ℕ
key_reads partitioner key [] = 0
key_reads partitioner key (content ∷ contents) = find_reads partitioner key content + key_reads partitioner key contents
