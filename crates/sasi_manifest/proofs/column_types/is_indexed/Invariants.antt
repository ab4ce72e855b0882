use Rattle.std.proofs.Common.{◌≡◌, drop, map}
use Rattle.std.specs.Prelude.{is_some}
use Rattle.sasi_model.specs.Indexes.{index_of, index_on}
use Rattle.sasi_manifest.proofs.column_types.is_indexed.Given as goal

abbrev pub invariant-loop-def : goal.invariant-loop-def
invariant-loop-def l = is_some (index_on l.column (map index_of (drop l.def-index l.indexes))) ≡ is_some (index_on l.column (map index_of l.indexes))
