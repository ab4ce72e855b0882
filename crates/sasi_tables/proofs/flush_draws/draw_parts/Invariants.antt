use Rattle.std.proofs.Common.{◌≡◌, ◌+◌, ◌++◌, drop}
use Rattle.sasi_tables.specs.FlushDraws.{parts_for}
use Rattle.sasi_tables.proofs.flush_draws.draw_parts.Given as goal

abbrev pub invariant-loop-def : goal.invariant-loop-def
invariant-loop-def l = (l.part ≡ l.fn.used + l.def-index) × (l.parts ++ parts_for l.part (drop l.def-index l.defs) ≡ parts_for l.fn.used l.defs)
