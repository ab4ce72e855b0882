-- A segment that a table's mutations reach.
use Rattle.std.specs.Prelude.{ℕ, Bool, false, nat_le, Option}
use Rattle.std.specs.Option.{option_map_or}
use Rattle.sasi_manifest.specs.ListedDefinition.{ListedDefinition}

-- the table's first segment isn't behind this one
abbrev pub reaches : ℕ → Option ListedDefinition → Bool
reaches segment found = option_map_or (λ table. nat_le table.since segment) found false
