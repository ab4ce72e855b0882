use Rattle.std.proofs.Common.{◌≡◌, ◌++◌, drop, map}
use Rattle.sasi_manifest.specs.ListedFiles.{index_name}
use Rattle.sasi_views.specs.declared.component.Component.TheVariants.{File}
use Rattle.sasi_views.proofs.components.push_index_files.Given as goal

abbrev pub invariant-loop-part : goal.invariant-loop-part
invariant-loop-part l = l.components.items ++ map (λ p. File (index_name l.number p)) (drop l.part-index l.indexes) ≡ l.fn.components.items ++ map (λ p. File (index_name l.number p)) l.indexes
