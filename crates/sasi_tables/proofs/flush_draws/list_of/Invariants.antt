use Rattle.std.proofs.Common.{◌≡◌}
use Rattle.sasi_tables.proofs.flush_draws.list_of.Given as goal

abbrev pub invariant-loop-def : goal.invariant-loop-def
invariant-loop-def l = l.list ≡ l.yielded
