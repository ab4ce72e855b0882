use Rattle.std.proofs.Common.{◌≡◌, ◌++◌, [], ◌∷◌, drop, map}
use Rattle.std.specs.List.{AllByRecursion}
use Rattle.sasi_cells.specs.Maps.{merged, merged_onto}
use Rattle.sasi_machine_layout.specs.Contents.{maps_in}
use Rattle.sasi_machine_layout.specs.declared.contents.FileContents.{FileContents}
use Rattle.sasi_machine_layout.proofs.merging.merged.Given as goal

abbrev pub invariant-loop-file : goal.invariant-loop-file
invariant-loop-file l = record {
  left : merged_onto l.all.partitions (map (λ (f : FileContents). f.holds.partitions) (drop l.file-index l.files) ++ l.parts.memtable.partitions ∷ []) ≡ merged (maps_in l.parts);
  partitioner : l.all.partitioner ≡ l.fn.partitioner;
  under : AllByRecursion (λ (f : FileContents). f.holds.partitioner ≡ l.fn.partitioner) (drop l.file-index l.files);
}
