use Rattle.std.proofs.Common.{◌≡◌, drop, map}
use Rattle.std.specs.Prelude.{max}
use Rattle.sasi_model.specs.Cells.{largest}
use Rattle.sasi_manifest.proofs.index_list.largest_number.Given as goal

abbrev pub invariant-loop-def : goal.invariant-loop-def
invariant-loop-def l = max l.most (largest (map (λ def. def.number) (drop l.def-index l.indexes))) ≡ largest (map (λ def. def.number) l.indexes)
