use Rattle.std.proofs.Common.{take}
use Rattle.sasi_tables.specs.Held.{AreForgotten}
use Rattle.sasi_tables.proofs.table_maps.forget.Given as goal

-- of the maps so far those are gone that no view lists
abbrev pub invariant-loop-number : goal.invariant-loop-number
invariant-loop-number l = AreForgotten l.views (take l.number-index l.numbers) l.fn.maps l.maps
