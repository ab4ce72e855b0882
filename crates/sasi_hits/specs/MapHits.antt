-- The hits of a map in memory.
use Rattle.std.specs.Prelude.{ℕ, suc, List, [], ◌∷◌}
use Rattle.sasi_types.specs.declared.decorated_key.DecoratedKey.{DecoratedKey}
use Rattle.sasi_types.specs.declared.tree.Pair.{Pair}
use Rattle.sasi_ranges.specs.declared.entry.Entry.{Entry}
use Rattle.sasi_hits.specs.Pairs.{entries_of}

-- the token of each key with its position, where the first one is at this position
abbrev pub placed : ℕ → List DecoratedKey → List Pair
placed at [] = []
placed at (key ∷ keys) = record { token = key.token; place = at } ∷ placed (suc at) keys

-- **The hits at some keys**, each at its position among them.
abbrev pub key_hits : ℕ → ℕ → List DecoratedKey → List Entry
key_hits leaf part keys = entries_of leaf part (placed 0 keys)
