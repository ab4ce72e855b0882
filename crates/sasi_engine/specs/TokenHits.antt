-- What a reader has in hand of a token.
use Rattle.std.specs.Prelude.{ℕ, ◌*◌, ◌^◌, ◌≤◌, List, length, map, Option}
use Rattle.std.specs.FinMap as map_
use Rattle.std.specs.List.{AllByRecursion}
use Rattle.std.specs.Option.{option_map_or}
use Rattle.sasi_types.specs.declared.decorated_key.DecoratedKey.{DecoratedKey}
use Rattle.sasi_types.specs.declared.partitioner.Partitioner.{Partitioner}
use Rattle.sasi_model.specs.Abbreviations.{Partitions}
use Rattle.sasi_model.specs.Cells.{Partition}
use Rattle.sasi_memindex.specs.Book.{Book}
use Rattle.sasi_memindex.specs.declared.map_part.MapPart.{MapPart}
use Rattle.sasi_layout.specs.Flushed.{contents_of}
use Rattle.sasi_datawrite.specs.Format.{Content, header}
use Rattle.sasi_dataread.specs.declared.token_keys.PlacedKey.{PlacedKey}
use Rattle.sasi_dataread.specs.PlacedKeys.{keys_at}
use Rattle.sasi_candidates.specs.Costs.{files_of}
use Rattle.sasi_candidates.specs.Groups.{Group}
use Rattle.sasi_candidates.specs.Parts.{Part}

-- the keys with a token in each data file, in the order of the parts
abbrev pub keys_in_files : Partitioner → ℕ → List Part → List (List PlacedKey)
keys_in_files partitioner token seen = map (λ (part : Part). keys_at partitioner token (length header) (contents_of part.holds)) (files_of seen)

-- the contents of the data files, in the order of the parts
abbrev pub contents_in_files : List Part → List Content
contents_in_files seen = map (λ (part : Part). contents_of part.holds) (files_of seen)

-- each data file has so few partitions that 2^40 bytes can have their pairs
abbrev pub AreSmall : List Part → Type 0
AreSmall seen = AllByRecursion (λ (part : Part). 16 * length (contents_of part.holds) ≤ 2 ^ 40) (files_of seen)

-- the keys of a token's rows
abbrev pub row_keys : Group → List (List ℕ)
row_keys g = map (λ (e : DecoratedKey × Partition). e.0.key) g.rows

-- ---- maps

-- the partitions of the map with this number; none where the book hasn't it
abbrev pub map_numbered : Book → ℕ → Partitions
map_numbered book number = option_map_or (λ (m : MapPart). m.map.partitions) (map_.get book number) map_.empty

-- the maps with these numbers
abbrev pub maps_numbered : Book → List ℕ → List Partitions
maps_numbered book numbers = map (map_numbered book) numbers

-- what the map with a number has of a key
abbrev pub map_finds : Book → DecoratedKey → ℕ → Option Partition
map_finds book key number = map_.get (map_numbered book number) key
