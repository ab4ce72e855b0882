-- What is found of a key that the hits leave is its candidate.
use Rattle.std.proofs.Common.{◌≡◌, ◌++◌, List, [], Option, None, Some, refl, sym, ◌∙◌}
use Rattle.sasi_types.specs.declared.decorated_key.DecoratedKey.{DecoratedKey}
use Rattle.sasi_host.specs.Names.{Folder}
use Rattle.sasi_model.specs.Cells.{Partition}
use Rattle.sasi_memindex.specs.Book.{Book}
use Rattle.sasi_ranges.specs.declared.entry.Entry.{Entry}
use Rattle.sasi_recheck.specs.Sources.{Candidate, GivesFirst}
use Rattle.sasi_scan.specs.Finding.{file_maps, found_in}
use Rattle.sasi_engine.specs.declared.hand.Hand.{Hand}
use Rattle.sasi_engine.specs.HitCandidates.{PlanWorld}
use Rattle.sasi_engine.specs.TokenHits.{contents_in_files, maps_numbered}
use Rattle.sasi_engine.specs.inside.KeyedSteps.{IsKeyFound, IsKeyLeft}
use Rattle.sasi_engine.proofs.WorldLaws.{world_found}

module _ (w : PlanWorld) (files : Option Folder) (book : Book) (Hits : List Entry → Type 0) (hand : Hand) (key : DecoratedKey) (left : List Candidate) (is : IsKeyLeft w files book Hits hand key left) (new : Hand) (found : IsKeyFound w files book new key left) where
  parts_have : (o : Option Partition) → o ≡ found_in key None (file_maps w.partitioner (contents_in_files w.parts) ++ maps_numbered book new.maps.items) → o ≡ Some found.row.1
  parts_have o gives = gives ∙ world_found w is.are_left.origin is.are_left.world book new.maps.items found.maps_are key ∙ found.merged_is

  pub gives_found : (o : Option Partition) (part : Partition) → o ≡ Some part → o ≡ found_in key None (file_maps w.partitioner (contents_in_files w.parts) ++ maps_numbered book new.maps.items) → GivesFirst (λ rest. rest ≡ []) left (Some (key.key, part))
  gives_found o part is_some gives =
      let both : Some found.row.1 ≡ Some part = sym (parts_have o gives) ∙ is_some in
      let part_is : found.row.1 ≡ part = cc in (found.row, [], found.left_is, found.key_is, part_is, refl)

  -- it is found
  pub not_none : (o : Option Partition) → o ≡ None → o ≡ found_in key None (file_maps w.partitioner (contents_in_files w.parts) ++ maps_numbered book new.maps.items) → ⊥
  not_none o is_none gives = (let both : Some found.row.1 ≡ None = sym (parts_have o gives) ∙ is_none in absurd (cc))
