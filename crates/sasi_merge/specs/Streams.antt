-- Sorted streams of partitions, and what is left of them.
use Rattle.std.specs.Prelude.{if◌then◌else◌, T, List, [], ◌∷◌, map, None, Some}
use Rattle.std.specs.FinMap as map_
use Rattle.std.specs.FinMap.{is_sorted}
use Rattle.sasi_types.specs.declared.decorated_key.DecoratedKey.{DecoratedKey}
use Rattle.sasi_types.specs.DecoratedKey.{decorated_cmp}
use Rattle.sasi_model.specs.Cells.{Partition}
use Rattle.sasi_model.specs.Abbreviations.{Partitions}
use Rattle.sasi_cells.specs.Maps.{merged}
use Rattle.sasi_merge.specs.Merging.{Head, has_key}

-- what a source has left
abbrev pub Entries : Type 0
Entries = List (DecoratedKey × Partition)

-- its head
abbrev pub head_of : Entries → Head
head_of [] = None
head_of (e ∷ es) = Some (e.0.token, e.0.key, e.1)

-- what is left behind its head
abbrev pub behind : Entries → Entries
behind [] = []
behind (e ∷ es) = es

-- what it has left once it has moved, if its head has the key
abbrev pub moved : DecoratedKey → Entries → Entries
moved key es = if has_key key (head_of es) then behind es else es

-- the maps of streams
abbrev pub maps_of : List Entries → List Partitions
maps_of = map (λ (es : Entries). map_.from_entries {R = decorated_cmp} es)

-- what is left of the merge
abbrev pub merged_entries : List Entries → Entries
merged_entries rests = map_.entries (merged (maps_of rests))

-- the keys rise
abbrev pub IsRising : Entries → Type 0
IsRising es = T (is_sorted decorated_cmp es)
