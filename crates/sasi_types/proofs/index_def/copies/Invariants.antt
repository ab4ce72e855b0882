use Rattle.std.proofs.Common.{◌≡◌, ◌++◌, drop}
use Rattle.sasi_types.proofs.index_def.copies.Given as goal

abbrev pub invariant-loop-def : goal.invariant-loop-def
invariant-loop-def l = l.copies.items ++ drop l.def-index l.defs ≡ l.defs
