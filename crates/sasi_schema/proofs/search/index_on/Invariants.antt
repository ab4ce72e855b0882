use Rattle.std.proofs.Common.{◌≡◌, map, drop}
use Rattle.sasi_model.specs.Indexes.{index_of, index_on}
use Rattle.sasi_schema.proofs.search.index_on.Given as goal

-- the indexes so far are on other columns
abbrev pub invariant-loop-def : goal.invariant-loop-def
invariant-loop-def l = index_on l.column (map index_of l.indexes) ≡ index_on l.column (map index_of (drop l.def-index l.indexes))
