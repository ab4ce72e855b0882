-- Maps of partitions, a change of one, and their merge.
use Rattle.std.specs.Prelude.{List, [], ◌∷◌, ◌++◌, Option, None, Some, unwrap_or}
use Rattle.std.specs.FinMap as map_
use Rattle.sasi_types.specs.declared.decorated_key.DecoratedKey.{DecoratedKey}
use Rattle.sasi_model.specs.Cells.{Partition, empty_partition, merge}
use Rattle.sasi_model.specs.Abbreviations.{Partitions}

-- the map after a change of a key's partition: it is merged into what is there
abbrev pub put : Partitions → DecoratedKey → Partition → Partitions
put m key change = map_.insert m key (merge (unwrap_or (map_.get m key) empty_partition) change)

-- what an older and a later map have of a key
abbrev pub joined : Option Partition → Option Partition → Option Partition
joined a None = a
joined a (Some q) = Some (merge (unwrap_or a empty_partition) q)

abbrev pub with_value : DecoratedKey → Option Partition → List (DecoratedKey × Partition) → List (DecoratedKey × Partition)
with_value key None rest = rest
with_value key (Some p) rest = (key, p) ∷ rest

-- the same of some keys
abbrev pub joined_at : Partitions → Partitions → List DecoratedKey → List (DecoratedKey × Partition)
joined_at a b [] = []
joined_at a b (key ∷ keys) = with_value key (joined (map_.get a key) (map_.get b key)) (joined_at a b keys)

-- an older map and a later one: of each key the merge of what they have
unfoldable pub merge_maps : Partitions → Partitions → Partitions
merge_maps a b = map_.from_entries (joined_at a b (map_.keys a ++ map_.keys b))

-- a map, and later ones
abbrev pub merged_onto : Partitions → List Partitions → Partitions
merged_onto base [] = base
merged_onto base (m ∷ ms) = merged_onto (merge_maps base m) ms

-- maps, the oldest first
abbrev pub merged : List Partitions → Partitions
merged ms = merged_onto map_.empty ms
