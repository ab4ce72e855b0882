use Rattle.std.proofs.Common.{◌≡◌, [], List, None, Some, map, refl, slice_get, subst, sym, ap, ◌∙◌}
use Rattle.std.specs.Prelude.{slice_set}
use Rattle.std.specs.List.{AllByRecursion}
use Rattle.sasi_manifest.specs.ListedTables.{listed}
use Rattle.sasi_manifest.specs.declared.listed.ListedTable.{ListedTable}
use Rattle.sasi_manifest.specs.declared.listing.Listing.{Listing}
use Rattle.sasi_memindex.specs.Book.{bare}
use Rattle.sasi_memtable.specs.MemtableView.{MemtableView, empty_memtable}
use Rattle.sasi_types.specs.declared.index_def.IndexDef.{IndexDef}
use Rattle.sasi_tables.specs.Held.{AreForgotten, CanAddAll, HeldTable, KnowsDef, held_by, subject_of}
use Rattle.sasi_tables.specs.TablesView.{held_in, wanted_of}
use Rattle.sasi_tables.specs.declared.table_maps.TableMaps.{TableMaps}
use Rattle.sasi_tables.proofs.FlushedMaps.{row_inside, row_known, row_wanted}
use Rattle.sasi_tables.proofs.HeldChanges.{forgotten_stay, no_others, replaced_held, replaced_mapped}
use Rattle.sasi_tables.proofs.HeldMaps.{held_stay, held_there, mapped_stay, one_there}
use Rattle.sasi_tables.proofs.IndexedTables.{empty_can}
use Rattle.sasi_tables.proofs.TablesInMemory.{inside_there}
use Rattle.sasi_tables.proofs.PinnedMaps.{pinned_again, pinned_forgotten, pinned_replaced}
use Rattle.sasi_tables.specs.declared.parts.Parts.{Parts}
use Rattle.sasi_tables.proofs.flush_table.clear.Goals as goal

pub bounds-as_slice-index : goal.bounds-as_slice-index
bounds-as_slice-index g c =
    let p = c.args.parts.now in
    let seen : map listed c.as_slice.result.now ≡ p.manifest.listing.tables = c.as_slice.ensures.tables ∙ ap (λ (l : Listing). l.tables) c.listing-listing.ensures.listing in
    row_inside p.maps p.last_map p.manifest.listing.tables p.tables.items c.requires.mapped c.args.index c.requires.inside c.as_slice.result.now seen

pub replace-requires-clause-can : goal.replace-requires-clause-can
replace-requires-clause-can g c =
    subst (λ (m : MemtableView). CanAddAll c.as_slice-defs.result.now (Some (bare m))) (sym c.new-empty.ensures) (empty_can c.listing-listing.result.now.partitioner c.as_slice-defs.result.now)

pub replace-requires-clause-known : goal.replace-requires-clause-known
replace-requires-clause-known g c =
    let p = c.args.parts.now in
    let seen : map listed c.as_slice.result.now ≡ p.manifest.listing.tables = c.as_slice.ensures.tables ∙ ap (λ (l : Listing). l.tables) c.listing-listing.ensures.listing in
    let row = c.index-as_slice-index.result in
    let defs_are : c.as_slice-defs.result.now ≡ row.table.indexes = c.as_slice-defs.ensures ∙ ap (λ (r : ListedTable). r.table.indexes) (sym c.index-as_slice-index.is) in
    let kinds = map (λ b. (goal.Analyzer-dyn g (b.vtable, b.value)).kind b.value) c.args.kit.now.objects.items in
    subst (AllByRecursion (KnowsDef kinds)) (sym defs_are) (row_known p.maps p.last_map p.manifest.listing.tables p.tables.items c.requires.mapped c.args.index c.requires.inside c.as_slice.result.now seen row c.index-as_slice-index.is kinds c.requires.known)

pub returns-clause-cleared : goal.returns-clause-cleared
returns-clause-cleared g c t found =
    let p = c.args.parts.now in
    let seen : map listed c.as_slice.result.now ≡ p.manifest.listing.tables = c.as_slice.ensures.tables ∙ ap (λ (l : Listing). l.tables) c.listing-listing.ensures.listing in
    let row = c.index-as_slice-index.result in
    let defs_are : c.as_slice-defs.result.now ≡ row.table.indexes = c.as_slice-defs.ensures ∙ ap (λ (r : ListedTable). r.table.indexes) (sym c.index-as_slice-index.is) in
    let had = row_wanted p.maps p.last_map p.manifest.listing.tables p.tables.items c.requires.mapped c.args.index c.requires.inside c.as_slice.result.now seen row c.index-as_slice-index.is ∙ ap (λ (l : List IndexDef). Some (map subject_of l)) (sym defs_are) in
    let own : (x : TableMaps) × (slice_get p.tables.items c.args.index ≡ Some x) = inside_there p.tables.items c.args.index c.requires.inside in
    let x = own.0 in
    let empty_is : c.new-empty.result ≡ empty_memtable p.manifest.listing.partitioner = c.new-empty.ensures ∙ ap (λ (l : Listing). empty_memtable l.partitioner) c.listing-listing.ensures.listing in
    let after = c.replace.new.maps in
    let new = c.replace.new.tables.items in
    let change = c.in_ok-frozen.ensures.ok x own.1 in
    let numbers_are : c.as_slice-numbers.result.now ≡ x.frozen = c.as_slice-numbers.ensures ∙ c.in_ok-frozen.ensures.frozen x own.1 in
    let gone = subst (λ ns. AreForgotten c.args.views.now ns after c.forget.new.maps) numbers_are c.forget.ensures in
    let stay = forgotten_stay p.maps p.last_map (wanted_of p) p.tables.items c.requires.mapped c.args.index x own.1 c.new-empty.result _ after new change c.args.views.now c.forget.new.maps gone in
    let same : held_by p.maps x ≡ t = one_there (held_by p.maps x) t (slice_get (held_in p) c.args.index) (held_there p.maps p.tables.items c.args.index x own.1) found in
    record {
      held =
          held_stay after c.forget.new.maps new stay ∙ replaced_held p.maps p.last_map (wanted_of p) p.tables.items c.requires.mapped c.args.index x own.1 c.new-empty.result _ after new change
          ∙ ap (λ (m : MemtableView). slice_set (held_in p) c.args.index (record (held_by p.maps x) { frozen = []; memtable = m; first = None })) empty_is
          ∙ ap (λ (r : HeldTable). slice_set (held_in p) c.args.index (record r { frozen = []; memtable = empty_memtable p.manifest.listing.partitioner; first = None })) same;
      mapped = mapped_stay after p.last_map (wanted_of p) new (replaced_mapped p.maps p.last_map (wanted_of p) p.tables.items c.requires.mapped c.args.index x own.1 c.new-empty.result _ after new change had) c.forget.new.maps stay;
      rest = refl;
    }

pub returns-clause-others : goal.returns-clause-others
returns-clause-others g c before =
    let p = c.args.parts.now in
    let seen : map listed c.as_slice.result.now ≡ p.manifest.listing.tables = c.as_slice.ensures.tables ∙ ap (λ (l : Listing). l.tables) c.listing-listing.ensures.listing in
    let row = c.index-as_slice-index.result in
    let defs_are : c.as_slice-defs.result.now ≡ row.table.indexes = c.as_slice-defs.ensures ∙ ap (λ (r : ListedTable). r.table.indexes) (sym c.index-as_slice-index.is) in
    let had = row_wanted p.maps p.last_map p.manifest.listing.tables p.tables.items c.requires.mapped c.args.index c.requires.inside c.as_slice.result.now seen row c.index-as_slice-index.is ∙ ap (λ (l : List IndexDef). Some (map subject_of l)) (sym defs_are) in
    let own : (x : TableMaps) × (slice_get p.tables.items c.args.index ≡ Some x) = inside_there p.tables.items c.args.index c.requires.inside in
    let x = own.0 in
    let empty_is : c.new-empty.result ≡ empty_memtable p.manifest.listing.partitioner = c.new-empty.ensures ∙ ap (λ (l : Listing). empty_memtable l.partitioner) c.listing-listing.ensures.listing in
    let after = c.replace.new.maps in
    let new = c.replace.new.tables.items in
    let change = c.in_ok-frozen.ensures.ok x own.1 in
    let numbers_are : c.as_slice-numbers.result.now ≡ x.frozen = c.as_slice-numbers.ensures ∙ c.in_ok-frozen.ensures.frozen x own.1 in
    let gone = subst (λ ns. AreForgotten c.args.views.now ns after c.forget.new.maps) numbers_are c.forget.ensures in
    no_others p.maps p.last_map (wanted_of p) p.tables.items c.requires.mapped c.args.index x own.1 c.new-empty.result _ after new change c.args.views.now c.forget.new.maps gone before

pub returns-clause-pinned : goal.returns-clause-pinned
returns-clause-pinned g c =
    let p = c.args.parts.now in
    let own : (x : TableMaps) × (slice_get p.tables.items c.args.index ≡ Some x) = inside_there p.tables.items c.args.index c.requires.inside in
    let x = own.0 in
    let after : Parts = record p { tables = c.replace.new.tables; maps = c.replace.new.maps } in
    let numbers_are : c.as_slice-numbers.result.now ≡ x.frozen = c.as_slice-numbers.ensures ∙ c.in_ok-frozen.ensures.frozen x own.1 in
    let gone = subst (λ ns. AreForgotten c.args.views.now ns c.replace.new.maps c.forget.new.maps) numbers_are c.forget.ensures in
    pinned_again c.args.views.now p after _ (pinned_replaced c.args.views.now p after c.args.index c.new-empty.result _ x own.1 (c.in_ok-frozen.ensures.ok x own.1) refl) (pinned_forgotten c.args.views.now after _ x.frozen gone refl refl)
