use Rattle.std.proofs.Common.{◌≡◌, drop, map}
use Rattle.std.specs.List.{list_any}
use Rattle.sasi_model.specs.Indexes.{index_of}
use Rattle.sasi_model.specs.Statements.{same}
use Rattle.sasi_manifest.proofs.index_list.has_name.Given as goal

abbrev pub invariant-loop-def : goal.invariant-loop-def
invariant-loop-def l = list_any (same l.name) (map (λ i. i.name) (map index_of (drop l.def-index l.indexes))) ≡ list_any (same l.name) (map (λ i. i.name) (map index_of l.indexes))
