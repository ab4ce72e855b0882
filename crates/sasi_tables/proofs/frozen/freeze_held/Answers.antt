use Rattle.std.proofs.Common.{◌≡◌, ◌∷◌, ◌++◌, [], suc, List, Some, map, refl, slice_get, subst, sym, ap, ◌∙◌, arith}
use Rattle.std.specs.Prelude.{slice_set}
use Rattle.std.specs.List.{AllByRecursion}
use Rattle.sasi_manifest.specs.ListedTables.{listed}
use Rattle.sasi_manifest.specs.declared.listed.ListedTable.{ListedTable}
use Rattle.sasi_manifest.specs.declared.listing.Listing.{Listing}
use Rattle.sasi_memindex.specs.Book.{bare}
use Rattle.sasi_memtable.specs.MemtableView.{MemtableView, empty_memtable}
use Rattle.sasi_types.specs.declared.index_def.IndexDef.{IndexDef}
use Rattle.sasi_tables.specs.Held.{AreMapped, CanAddAll, HeldTable, KnowsDef, held_by, subject_of}
use Rattle.sasi_tables.specs.TablesView.{held_in, wanted_of}
use Rattle.sasi_tables.specs.declared.table_maps.TableMaps.{TableMaps}
use Rattle.sasi_tables.proofs.FlushedMaps.{row_inside, row_known, row_wanted}
use Rattle.sasi_tables.proofs.HeldChanges.{frozen_held, frozen_mapped}
use Rattle.sasi_tables.proofs.HeldMaps.{held_there, one_there}
use Rattle.sasi_tables.proofs.IndexedTables.{empty_can}
use Rattle.sasi_tables.proofs.TablesInMemory.{inside_there}
use Rattle.sasi_tables.proofs.PinnedMaps.{pinned_frozen}
use Rattle.sasi_tables.proofs.frozen.freeze_held.Goals as goal

pub bounds-as_slice-index : goal.bounds-as_slice-index
bounds-as_slice-index g c =
    let p = c.args.parts.now in
    let seen : map listed c.as_slice.result.now ≡ p.manifest.listing.tables = c.as_slice.ensures.tables ∙ ap (λ (l : Listing). l.tables) c.listing-listing.ensures.listing in
    row_inside p.maps p.last_map p.manifest.listing.tables p.tables.items c.requires.mapped c.args.index c.requires.inside c.as_slice.result.now seen

pub freeze_map-requires-clause-can : goal.freeze_map-requires-clause-can
freeze_map-requires-clause-can g c =
    subst (λ (m : MemtableView). CanAddAll c.as_slice-defs.result.now (Some (bare m))) (sym c.new-empty.ensures) (empty_can c.listing-listing.result.now.partitioner c.as_slice-defs.result.now)

pub freeze_map-requires-clause-known : goal.freeze_map-requires-clause-known
freeze_map-requires-clause-known g c =
    let p = c.args.parts.now in
    let seen : map listed c.as_slice.result.now ≡ p.manifest.listing.tables = c.as_slice.ensures.tables ∙ ap (λ (l : Listing). l.tables) c.listing-listing.ensures.listing in
    let row = c.index-as_slice-index.result in
    let defs_are : c.as_slice-defs.result.now ≡ row.table.indexes = c.as_slice-defs.ensures ∙ ap (λ (r : ListedTable). r.table.indexes) (sym c.index-as_slice-index.is) in
    let kinds = map (λ b. (goal.Analyzer-dyn g (b.vtable, b.value)).kind b.value) c.args.kit.now.objects.items in
    subst (AllByRecursion (KnowsDef kinds)) (sym defs_are) (row_known p.maps p.last_map p.manifest.listing.tables p.tables.items c.requires.mapped c.args.index c.requires.inside c.as_slice.result.now seen row c.index-as_slice-index.is kinds c.requires.known)

pub returns-clause-frozen : goal.returns-clause-frozen
returns-clause-frozen g c t found =
    let p = c.args.parts.now in
    let seen : map listed c.as_slice.result.now ≡ p.manifest.listing.tables = c.as_slice.ensures.tables ∙ ap (λ (l : Listing). l.tables) c.listing-listing.ensures.listing in
    let row = c.index-as_slice-index.result in
    let defs_are : c.as_slice-defs.result.now ≡ row.table.indexes = c.as_slice-defs.ensures ∙ ap (λ (r : ListedTable). r.table.indexes) (sym c.index-as_slice-index.is) in
    let had = row_wanted p.maps p.last_map p.manifest.listing.tables p.tables.items c.requires.mapped c.args.index c.requires.inside c.as_slice.result.now seen row c.index-as_slice-index.is ∙ ap (λ (l : List IndexDef). Some (map subject_of l)) (sym defs_are) in
    let own : (x : TableMaps) × (slice_get p.tables.items c.args.index ≡ Some x) = inside_there p.tables.items c.args.index c.requires.inside in
    let x = own.0 in
    let empty_is : c.new-empty.result ≡ empty_memtable p.manifest.listing.partitioner = c.new-empty.ensures ∙ ap (λ (l : Listing). empty_memtable l.partitioner) c.listing-listing.ensures.listing in
    let after = c.freeze_map.new.maps in
    let new = c.freeze_map.new.tables.items in
    let change = c.in_ok-freeze_map.ensures.ok x own.1 in
    let same : held_by p.maps x ≡ t = one_there (held_by p.maps x) t (slice_get (held_in p) c.args.index) (held_there p.maps p.tables.items c.args.index x own.1) found in
    let next : suc p.last_map ≡ c.freeze_map.new.last = omega (arith, c.in_ok-freeze_map.ensures.last) in
    record {
      held =
          frozen_held p.maps p.last_map (wanted_of p) p.tables.items c.requires.mapped c.args.index x own.1 c.new-empty.result _ after new change
          ∙ ap (λ (m : MemtableView). slice_set (held_in p) c.args.index (record (held_by p.maps x) { frozen = (held_by p.maps x).frozen ++ (held_by p.maps x).memtable ∷ []; memtable = m })) empty_is
          ∙ ap (λ (r : HeldTable). slice_set (held_in p) c.args.index (record r { frozen = r.frozen ++ r.memtable ∷ []; memtable = empty_memtable p.manifest.listing.partitioner })) same;
      mapped = subst (λ n. AreMapped after n (wanted_of p) new) next (frozen_mapped p.maps p.last_map (wanted_of p) p.tables.items c.requires.mapped c.args.index x own.1 c.new-empty.result _ after new change had);
      rest = refl;
    }

pub returns-clause-pinned : goal.returns-clause-pinned
returns-clause-pinned g c views =
    let p = c.args.parts.now in
    let own : (x : TableMaps) × (slice_get p.tables.items c.args.index ≡ Some x) = inside_there p.tables.items c.args.index c.requires.inside in
    let next : suc p.last_map ≡ c.freeze_map.new.last = omega (arith, c.in_ok-freeze_map.ensures.last) in
    pinned_frozen views p _ c.args.index c.new-empty.result _ own.0 (c.in_ok-freeze_map.ensures.ok own.0 own.1) next
