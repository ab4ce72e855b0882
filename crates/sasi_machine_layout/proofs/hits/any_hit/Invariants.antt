use Rattle.std.proofs.Common.{◌≡◌, ◌++◌, [], ◌∷◌, drop, map}
use Rattle.std.specs.List.{AllByRecursion, list_any}
use Rattle.sasi_candidates.specs.LayoutParts.{part_of_file, part_of_map}
use Rattle.sasi_candidates.specs.Parts.{hit}
use Rattle.sasi_machine.specs.Where.{model_search}
use Rattle.sasi_model.specs.Indexes.{index_of}
use Rattle.sasi_schema.specs.Defined.{definition, numbers_of}
use Rattle.sasi_machine_layout.specs.Contents.{IsKept, file_of, table_with}
use Rattle.sasi_machine_layout.specs.Hits.{parts_in}
use Rattle.sasi_machine_layout.specs.declared.contents.FileContents.{FileContents}
use Rattle.sasi_machine_layout.proofs.hits.any_hit.Given as goal

abbrev pub invariant-loop-file : goal.invariant-loop-file
invariant-loop-file g l =
    let here = hit (index_of l.index) (model_search l.search) l.key in
    let left = map (part_of_file (table_with (definition l.table) (numbers_of l.table) l.parts)) (map file_of (drop l.file-index l.files)) ++ map part_of_map (l.parts.memtable.partitions ∷ []) in
    record {
      found : list_any here (parts_in l.table l.parts) ≡ list_any here left;
      texts : AllByRecursion (λ (f : FileContents). IsKept f.holds.partitions) (drop l.file-index l.files);
      kinds : map (λ b. (goal.Analyzer-dyn g (b.vtable, b.value)).kind b.value) l.kit.objects.items ≡ map (λ b. (goal.Analyzer-dyn g (b.vtable, b.value)).kind b.value) l.fn.kit.objects.items;
    }
