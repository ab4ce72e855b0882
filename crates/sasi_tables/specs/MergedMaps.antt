-- The merge of maps, entry by entry.
use Rattle.std.specs.Prelude.{◌≡◌, List, [], ◌∷◌, map, Option, None, Some}
use Rattle.std.specs.FinMap as map_
use Rattle.sasi_memtable.specs.MemtableView.{entries_after}
use Rattle.sasi_merge.specs.Merging.{Head}
use Rattle.sasi_merge.specs.Streams.{Entries, head_of, merged_entries}
use Rattle.sasi_model.specs.Abbreviations.{Partitions}
use Rattle.sasi_model.specs.Cells.{Partition}
use Rattle.sasi_types.specs.declared.decorated_key.DecoratedKey.{DecoratedKey}

-- an entry as a head
abbrev pub found_head : Option (DecoratedKey × Partition) → Head
found_head None = None
found_head (Some e) = Some (e.0.token, e.0.key, e.1)

-- what each of the maps has behind a key, and all that it has where none is given
abbrev pub rests_after : Option DecoratedKey → List Partitions → List Entries
rests_after last ms = map (λ m. entries_after last (map_.entries m)) ms

-- the first of that in each map
abbrev pub heads_after : Option DecoratedKey → List Partitions → List Head
heads_after last ms = map head_of (rests_after last ms)

-- what the merge of the maps has behind a key
abbrev pub merged_after : Option DecoratedKey → List Partitions → Entries
merged_after last ms = merged_entries (rests_after last ms)

-- the first entry that the merge has behind a key, if it has one
abbrev pub GivesNext : Option DecoratedKey → List Partitions → Option (DecoratedKey × Partition) → Type 0
GivesNext last ms None = merged_after last ms ≡ []
GivesNext last ms (Some e) = merged_after last ms ≡ e ∷ merged_after (Some e.0) ms
