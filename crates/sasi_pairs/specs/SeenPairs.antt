-- The pair of the last partition that an observer was told.
use Rattle.sasi_types.specs.declared.tree.Pair.{Pair}
use Rattle.sasi_datawrite.specs.Calls.{Call}
use Rattle.sasi_datawrite.specs.Calls.Call.{start_partition}

-- after one more call
abbrev pub seen : Pair → Call → Pair
seen pair (start_partition token place) = record { token = token; place = place }
seen pair _ = pair
