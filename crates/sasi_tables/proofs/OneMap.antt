-- A map that can be stored is what it alone is merged into.
use Rattle.std.proofs.Common.{◌≡◌, ◌≤◌, ℕ, List, [], ◌∷◌, length, get_or, Option, None, Some, refl, sym, ap, ◌∙◌, arith}
use Rattle.std.specs.FinMap as map_
use Rattle.sasi_cells.proofs.Laws.Decorated.{same_maps}
use Rattle.sasi_cells.proofs.Laws.Maps.{get_merge_maps}
use Rattle.sasi_cells.specs.Maps.{joined, merged}
use Rattle.sasi_layout.proofs.Bodies.{first_body}
use Rattle.sasi_layout.specs.Serving.{AreStorable}
use Rattle.sasi_memindex.specs.Book.{Book}
use Rattle.sasi_model.specs.Abbreviations.{Partitions}
use Rattle.sasi_model.specs.Cells.{Partition}
use Rattle.sasi_tables.specs.Held.{CanMerge, map_in, merged_in}
use Rattle.sasi_types.specs.DecoratedKey.{decorated_cmp}
use Rattle.sasi_types.specs.declared.column.ColumnType.{ColumnType}
use Rattle.sasi_types.specs.declared.decorated_key.DecoratedKey.{DecoratedKey}
use Rattle.sasi_types.specs.declared.partitioner.Partitioner.{Partitioner}

pub one_map : (p : Partitioner) (types : List ColumnType) (m : Partitions) → AreStorable p types m → merged (m ∷ []) ≡ m
one_map p types m storable = same_maps _ _ (λ q. get_merge_maps map_.empty m q ∙ ap (λ x. joined x (map_.get m q)) (map_.get-empty decorated_cmp q) ∙ by q (map_.get m q) refl)
  where
    by : (q : DecoratedKey) (o : Option Partition) → map_.get m q ≡ o → joined None o ≡ o
    by q None is = refl
    by q (Some part) is = ap Some (first_body types q.key part (storable q part is).body)

-- the map of the only number
pub only_map : (book : Book) (ns : List ℕ) → CanMerge book ns → 1 ≤ length ns → length ns ≤ 1 → (map_in book (get_or ns 0 0)).partitions ≡ merged_in book ns
only_map book [] can some few = absurd (omega (arith, some))
only_map book (n ∷ []) can some few = sym (can.alone n refl)
only_map book (n ∷ k ∷ ns) can some few = absurd (omega (arith, few))
