-- What a merge of data files gives has a body in their table, whatever the files are.
use Rattle.std.proofs.Common.{◌≤◌, List, [], ◌∷◌, length, Option, None, Some, IfSome, sym, subst, arith}
use Rattle.std.specs.List.{AllByRecursion}
use Rattle.sasi_types.specs.declared.column.ColumnType.{ColumnType}
use Rattle.sasi_host.specs.Names.{Bytes}
use Rattle.sasi_body.specs.Body.{IsBodyOf}
use Rattle.sasi_model.specs.Cells.{Partition, empty_partition, merge}
use Rattle.sasi_layout.proofs.Bodies.{first_body, merged_body}
use Rattle.sasi_scan.specs.Parts.{IsMergeOfParts, IsOfPart, merged_all, of_file, of_map}

module _ (types : List ColumnType) (narrow : length types ≤ 64) (key : Bytes) where
  part_body : (part : Partition) → IsOfPart types [] key part → IsBodyOf types key part
  part_body part (of_file is) = is
  part_body part (of_map m q among found same) = absurd (omega (arith, among.1))

  all_bodies : (base : Partition) (parts : List Partition) → IsBodyOf types key base → AllByRecursion (IsOfPart types [] key) parts → IsBodyOf types key (merged_all base parts)
  all_bodies base [] is all = is
  all_bodies base (part ∷ parts) is all = all_bodies (merge base part) parts (merged_body types key base part narrow is (part_body part all.0)) all.1

  whole_body : (whole : Partition) → IsMergeOfParts types [] key whole → IsBodyOf types key whole
  whole_body whole is =
      let oldest = part_body is.oldest is.oldest_of in
      subst (IsBodyOf types key) (sym is.is)
      (all_bodies (merge empty_partition is.oldest) is.others (subst (IsBodyOf types key) (sym (first_body types key is.oldest oldest)) oldest) is.others_of)

-- what is given has a body, if anything is given
pub given_body : (types : List ColumnType) → length types ≤ 64 → (found : Option (Bytes × Partition)) → IfSome found (λ one. IsMergeOfParts types [] one.0 one.1) → IfSome found (λ one. IsBodyOf types one.0 one.1)
given_body types narrow None is = tt
given_body types narrow (Some one) is = whole_body types narrow one.0 one.1 is
