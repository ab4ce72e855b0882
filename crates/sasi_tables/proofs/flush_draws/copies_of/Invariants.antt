use Rattle.std.proofs.Common.{◌≡◌, take}
use Rattle.sasi_tables.proofs.flush_draws.copies_of.Given as goal

abbrev pub invariant-loop-def : goal.invariant-loop-def
invariant-loop-def l = l.copies.items ≡ take l.def-index l.defs
