use Rattle.std.proofs.Common.{◌≡◌, ◌++◌, drop}
use Rattle.sasi_tables.proofs.view_list.copy_indexes.Given as goal

abbrev pub invariant-loop-index : goal.invariant-loop-index
invariant-loop-index l = l.copy ++ drop l.index-index l.indexes ≡ l.indexes
