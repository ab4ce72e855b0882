use Rattle.std.proofs.Common.{◌≡◌, ◌++◌, drop}
use Rattle.sasi_manifest.proofs.rewrite_indexes.push_defs.Given as goal

abbrev pub invariant-loop-def : goal.invariant-loop-def
invariant-loop-def l = l.defs.items ++ drop l.def-index l.own ≡ l.fn.defs.items ++ l.own
