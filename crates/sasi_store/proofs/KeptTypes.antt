-- Tables keep the types of their columns, whatever is defined beside them.
use Rattle.std.proofs.Common.{◌≡◌, ◌++◌, ℕ, zero, suc, true, false, cond, nat_eq, List, [], ◌∷◌, slice_get, Some, refl, sym, ap, ◌∙◌}
use Rattle.sasi_host.specs.View.{View}
use Rattle.sasi_layout.specs.Serving.{CanChange}
use Rattle.sasi_manifest.specs.ListedDefinition.{ListedDefinition}
use Rattle.sasi_manifest.specs.Listings.{listed_definitions}
use Rattle.sasi_manifest.specs.declared.listing.Listing.{Listing}
use Rattle.sasi_model.specs.Abbreviations.{types_of}
use Rattle.sasi_model.specs.Changes.{at_number}
use Rattle.sasi_model.specs.State.{Definition, Index, with_index}
use Rattle.sasi_tables.proofs.TablesInMemory.{map_there, seen_as}
use Rattle.sasi_tables.specs.MakesMoves.{Knows}
use Rattle.sasi_tables.specs.TablesView.{memory_of}
use Rattle.sasi_tables.specs.declared.parts.Parts.{Parts}
use Rattle.sasi_store.proofs.KeptCursors.{KeepsTypes}

-- each definition is there still, with columns of the same types
abbrev AreThere : List Definition → List Definition → Type 0
AreThere old new = (at : ℕ) (d : Definition) → slice_get old at ≡ Some d → (e : Definition) × (slice_get new at ≡ Some e) × (types_of e ≡ types_of d)

pushed_there : (ds : List Definition) (d : Definition) → AreThere ds (ds ++ d ∷ [])
pushed_there [] d at x there = cc
pushed_there (y ∷ ds) d zero x there = (x, there, refl)
pushed_there (y ∷ ds) d (suc at) x there = pushed_there ds d at x there

indexed_there : (index : Index) (n number : ℕ) (ds : List Definition) → AreThere ds (at_number n number (with_index index) ds)
indexed_there index n number [] at x there = cc
indexed_there index n number (y ∷ ds) zero x there =
    let same : y ≡ x = cc in
    elim (nat_eq n number) as (λ b. (e : Definition) × (Some (cond b (with_index index y) y) ≡ Some e) × (types_of e ≡ types_of x)) [
      | true ↦ (with_index index y, refl, ap types_of same)
      | false ↦ (y, refl, ap types_of same)
    ]
indexed_there index n number (y ∷ ds) (suc at) x there = indexed_there index (suc n) number ds at x there

module _ (old new : Listing) where
  by_definitions : AreThere (listed_definitions old.tables) (listed_definitions new.tables) → KeepsTypes old new
  by_definitions are at t there =
      let e = are at t.definition (map_there (λ (x : ListedDefinition). x.definition) old.tables at t there) in
      let u = seen_as (λ (x : ListedDefinition). x.definition) new.tables at e.0 e.1 in
      (u.0, u.1, ap types_of u.2 ∙ e.2)

  -- **Where the definitions stay,**
  types_same : listed_definitions new.tables ≡ listed_definitions old.tables → KeepsTypes old new
  types_same is = by_definitions (λ at d there. (d, ap (λ (ds : List Definition). slice_get ds at) is ∙ there, refl))

  -- **beside a new table,**
  types_created : (d : Definition) → listed_definitions new.tables ≡ listed_definitions old.tables ++ d ∷ [] → KeepsTypes old new
  types_created d is =
      by_definitions (λ at x there. let e = pushed_there (listed_definitions old.tables) d at x there in (e.0, ap (λ (ds : List Definition). slice_get ds at) is ∙ e.1, e.2))

  -- **and with a new index.**
  types_defined : (number : ℕ) (index : Index) → listed_definitions new.tables ≡ at_number 1 number (with_index index) (listed_definitions old.tables) → KeepsTypes old new
  types_defined number index is =
      by_definitions (λ at x there. let e = indexed_there index 1 number (listed_definitions old.tables) at x there in (e.0, ap (λ (ds : List Definition). slice_get ds at) is ∙ e.1, e.2))

module _ (a b : View) (old new : Parts) (was : CanChange a (memory_of old)) (now : CanChange b (memory_of new)) (time : ℕ) where
  -- **So it is after a change that leaves the definitions,**
  pub types_left : Knows (memory_of new) old.schema.definitions time → KeepsTypes old.manifest.listing new.manifest.listing
  types_left knows = types_same old.manifest.listing new.manifest.listing (sym now.definitions ∙ knows.definitions_are ∙ was.definitions)

  -- **after one that creates a table,**
  pub types_with_table : (d : Definition) → Knows (memory_of new) (old.schema.definitions ++ d ∷ []) time → KeepsTypes old.manifest.listing new.manifest.listing
  types_with_table d knows =
      types_created old.manifest.listing new.manifest.listing d (sym now.definitions ∙ knows.definitions_are ∙ ap (λ (ds : List Definition). ds ++ d ∷ []) was.definitions)

  -- **and after one that defines an index.**
  pub types_with_index : (number : ℕ) (index : Index) → Knows (memory_of new) (at_number 1 number (with_index index) old.schema.definitions) time → KeepsTypes old.manifest.listing new.manifest.listing
  types_with_index number index knows =
      types_defined old.manifest.listing new.manifest.listing number index (sym now.definitions ∙ knows.definitions_are ∙ ap (at_number 1 number (with_index index)) was.definitions)
