use Rattle.std.proofs.Common.{◌≡◌, drop}
use Rattle.sasi_layout.specs.Statements.{any_partition}
use Rattle.sasi_tables.specs.Held.{maps_with}
use Rattle.sasi_tables.proofs.table_maps.any_held.Given as goal

-- the maps so far hold nothing
abbrev pub invariant-loop-number : goal.invariant-loop-number
invariant-loop-number l = any_partition (maps_with l.maps (drop l.number-index l.numbers)) ≡ any_partition (maps_with l.maps l.numbers)
