use Rattle.std.proofs.Common.{◌≡◌, drop, map}
use Rattle.sasi_manifest.specs.ListedFiles.{is_among}
use Rattle.sasi_manifest.proofs.index_list.has_number.Given as goal

abbrev pub invariant-loop-def : goal.invariant-loop-def
invariant-loop-def l = is_among (map (λ def. def.number) (drop l.def-index l.indexes)) l.number ≡ is_among (map (λ def. def.number) l.indexes) l.number
