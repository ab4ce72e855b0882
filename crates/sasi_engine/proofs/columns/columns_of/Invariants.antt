use Rattle.std.proofs.Common.{◌≡◌}
use Rattle.sasi_engine.specs.HitLists.{columns_of}
use Rattle.sasi_engine.proofs.columns.columns_of.Given as goal

abbrev pub invariant-loop-leaf : goal.invariant-loop-leaf
invariant-loop-leaf l = l.relations ≡ columns_of l.rows l.leaf
