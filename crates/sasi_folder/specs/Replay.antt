-- Replay: the mutations of the live segments are merged into the listed tables one after another, those of a table from the first
-- segment on that the listing names for it.
use Rattle.std.specs.Prelude.{ℕ, zero, suc, Bool, false, nat_le, List, slice_get}
use Rattle.std.specs.Option.{option_map_or}
use Rattle.sasi_manifest.specs.ListedDefinition.{ListedDefinition}

-- mutations of the table with this number, from 1, are replayed from the segment: the table's first segment isn't behind it
abbrev pub is_replayed : List ListedDefinition → ℕ → ℕ → Bool
is_replayed tables segment zero = false
is_replayed tables segment (suc before) = option_map_or (λ table. nat_le table.since segment) (slice_get tables before) false
