use Rattle.std.proofs.Common.{take}
use Rattle.sasi_tables.specs.Held.{AreForgottenBut}
use Rattle.sasi_tables.proofs.table_maps.forget_unused.Given as goal

-- of the maps so far those are gone that no table has and no view lists
abbrev pub invariant-loop-number : goal.invariant-loop-number
invariant-loop-number l = AreForgottenBut l.tables l.views (take l.number-index l.numbers) l.fn.maps l.maps
