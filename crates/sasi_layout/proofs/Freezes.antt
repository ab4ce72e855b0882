-- A freeze leaves what a crash leaves of a layout.
use Rattle.std.specs.Prelude.{ℕ, List, map, ◌≡◌, ◌∷◌, ◌++◌, []}
use Rattle.std.proofs.Common.{◌∙◌, ap}
use Rattle.std.specs.FinMap as map_
use Rattle.sasi_model.specs.Abbreviations.{Partitions}
use Rattle.sasi_cells.proofs.Laws.Maps.{then_empty, merged_onto_both}
use Rattle.sasi_cells.specs.Maps.{merged_onto}
use Rattle.sasi_manifest.specs.Listings.{at_number}
use Rattle.sasi_layout.proofs.ListingLaws.{freeze_listing}
use Rattle.sasi_layout.proofs.Numbered.{unseen_at}
use Rattle.sasi_layout.specs.Layout.{Layout, TableParts, bare, bare_table, listing_of, unflushed, used_in}
use Rattle.sasi_layout.specs.Moves.{after_freeze, freeze_table}

-- an empty map behind others
pub with_empty : (base : Partitions) (ms : List Partitions) → merged_onto base (ms ++ map_.empty ∷ []) ≡ merged_onto base ms
with_empty base ms = merged_onto_both base ms (map_.empty ∷ []) ∙ then_empty (merged_onto base ms)

freeze_bare : (t : TableParts) → bare_table (freeze_table t) ≡ bare_table t
freeze_bare t = ap (λ (k : Partitions). record (bare_table t) { memtable = k }) (with_empty map_.empty (unflushed t))

-- It leaves what a crash leaves.
pub bare_freeze : (table : ℕ) (l : Layout) → bare (after_freeze table l) ≡ bare l
bare_freeze table l =
    let tables : map bare_table (at_number 1 table freeze_table l.tables) ≡ map bare_table l.tables = unseen_at bare_table freeze_table freeze_bare 1 table l.tables in
    let used : used_in l.used.manifest (listing_of (after_freeze table l)) ≡ used_in l.used.manifest (listing_of l) = ap (used_in l.used.manifest) (freeze_listing table l) in
    λ i. record (bare l) { tables = tables i; used = used i }
