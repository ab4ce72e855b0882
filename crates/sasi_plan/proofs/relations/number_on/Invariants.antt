use Rattle.std.proofs.Common.{◌≡◌, drop}
use Rattle.sasi_plan.specs.Plans.{number_on}
use Rattle.sasi_plan.proofs.relations.number_on.Given as goal

-- the indexes so far are on other columns
abbrev pub invariant-loop-def : goal.invariant-loop-def
invariant-loop-def l = number_on l.column (drop l.def-index l.indexes) ≡ number_on l.column l.indexes
