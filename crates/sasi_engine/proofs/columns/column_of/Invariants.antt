use Rattle.std.proofs.Common.{◌≡◌, ◌++◌, drop}
use Rattle.sasi_engine.specs.HitLists.{column_of}
use Rattle.sasi_engine.proofs.columns.column_of.Given as goal

abbrev pub invariant-loop-row : goal.invariant-loop-row
invariant-loop-row l = l.column.items ++ column_of (drop l.row-index l.rows) l.leaf ≡ column_of l.rows l.leaf
