use Rattle.std.proofs.Common.{Some, map, drop, get_or, take, ◌≡◌, ◌∷◌, [], ◌++◌, List, length, refl, sym, ap, subst, ◌∙◌, arith}
use Rattle.std.specs.List.{AllByRecursion}
use Rattle.std.specs.Vec.Iter.{into_iter_items}
use Rattle.sasi_manifest.specs.declared.listed.ListedTable.{ListedTable}
use Rattle.sasi_memindex.specs.Book.{bare}
use Rattle.sasi_types.specs.declared.class.Class.{Class}
use Rattle.sasi_types.specs.declared.index_def.IndexDef.{IndexDef}
use Rattle.sasi_recover.specs.declared.opened.TableMap.{TableMap}
use Rattle.sasi_tables.specs.Held.{AreMapped, CanAddAll, CanIndexTables, IsAddedTo, KnowsDef, held_of, opened_held, wanted_rows}
use Rattle.sasi_tables.specs.declared.table_maps.TableMaps.{TableMaps}
use Rattle.sasi_tables.proofs.OpenedMaps.{adding_held, adding_mapped, adding_more, next_can, next_known, row_inside}
use Rattle.sasi_tables.proofs.parts.add_tables.Goals as goal

nothing_left : (l : List TableMap) → length l ≡ 0 → l ≡ []
nothing_left [] none = refl
nothing_left (x ∷ xs) none = absurd (omega (arith, none))

pub loop-table-init : goal.loop-table-init
loop-table-init g c =
    let start = c.into_iter-table-iterator.result in
    let rows = c.args.listed.now in
    let none = c.requires.none in
    record {
      on = record {
        mapped = subst (λ (ts : List TableMaps). AreMapped c.args.maps.now c.args.last.now (wanted_rows (take (length ts) rows)) ts) (sym none) c.requires.mapped;
        held = ap (λ (ts : List TableMaps). held_of c.args.maps.now ts ++ map opened_held (into_iter_items start)) none;
        can = subst (λ (ts : List TableMaps). CanIndexTables (map (λ b. (goal.Analyzer-dyn g (b.vtable, b.value)).kind b.value) c.args.kit.now.objects.items) (drop (length ts) rows) (into_iter_items start)) (sym none)
            (subst (CanIndexTables (map (λ b. (goal.Analyzer-dyn g (b.vtable, b.value)).kind b.value) c.args.kit.now.objects.items) rows) (sym c.into_iter-table-iterator.ensures.into_iter_gives.0) c.requires.can);
      };
      count = let gives = c.into_iter-table-iterator.ensures.into_iter_gives in let same = ap length gives.0 in omega (arith, gives.1, same, c.args.all.ok.0);
      kinds = refl;
    }

pub bounds-listed-len : goal.bounds-listed-len
bounds-listed-len g c =
    let at = c.loop-table in
    let x = c.in-Some.table in
    let steps : into_iter_items at.table-iterator ≡ x ∷ into_iter_items c.next.new.self = c.in-Some.ensures.steps.0 in
    let count : c.len.result ≡ length at.tables.items = omega (arith, c.len.ensures, at.tables.ok.0) in
    let inside = row_inside (map (λ b. (goal.Analyzer-dyn g (b.vtable, b.value)).kind b.value) c.args.kit.now.objects.items) c.args.listed.now _ _ at.maps at.last at.tables.items at.invariant.on x _ steps in
    omega (arith, inside, count)

pub add_table-requires-clause-can : goal.add_table-requires-clause-can
add_table-requires-clause-can g c =
    let at = c.loop-table in
    let x = c.in-Some.table in
    let steps : into_iter_items at.table-iterator ≡ x ∷ into_iter_items c.next.new.self = c.in-Some.ensures.steps.0 in
    let count : c.len.result ≡ length at.tables.items = omega (arith, c.len.ensures, at.tables.ok.0) in
    let row = c.index-listed-len.result in
    let row_is : row ≡ get_or c.args.listed.now (length at.tables.items) row = subst (λ n. row ≡ get_or c.args.listed.now n row) count c.index-listed-len.is in
    let defs_are : c.as_slice-defs.result.now ≡ row.table.indexes = c.as_slice-defs.ensures ∙ ap (λ (r : ListedTable). r.table.indexes) (sym c.index-listed-len.is) in
    subst (λ (defs : List IndexDef). CanAddAll defs (Some (bare x.memtable))) (sym defs_are) (next_can (map (λ b. (goal.Analyzer-dyn g (b.vtable, b.value)).kind b.value) c.args.kit.now.objects.items) c.args.listed.now _ _ at.maps at.last at.tables.items at.invariant.on x _ steps row row_is)

pub add_table-requires-clause-known : goal.add_table-requires-clause-known
add_table-requires-clause-known g c =
    let at = c.loop-table in
    let x = c.in-Some.table in
    let steps : into_iter_items at.table-iterator ≡ x ∷ into_iter_items c.next.new.self = c.in-Some.ensures.steps.0 in
    let count : c.len.result ≡ length at.tables.items = omega (arith, c.len.ensures, at.tables.ok.0) in
    let row = c.index-listed-len.result in
    let row_is : row ≡ get_or c.args.listed.now (length at.tables.items) row = subst (λ n. row ≡ get_or c.args.listed.now n row) count c.index-listed-len.is in
    let defs_are : c.as_slice-defs.result.now ≡ row.table.indexes = c.as_slice-defs.ensures ∙ ap (λ (r : ListedTable). r.table.indexes) (sym c.index-listed-len.is) in
    subst (λ (kinds : List Class). AllByRecursion (KnowsDef kinds) c.as_slice-defs.result.now) (sym at.invariant.kinds)
    (subst (λ (defs : List IndexDef). AllByRecursion (KnowsDef (map (λ b. (goal.Analyzer-dyn g (b.vtable, b.value)).kind b.value) c.args.kit.now.objects.items)) defs) (sym defs_are) (next_known (map (λ b. (goal.Analyzer-dyn g (b.vtable, b.value)).kind b.value) c.args.kit.now.objects.items) c.args.listed.now _ _ at.maps at.last at.tables.items at.invariant.on x _ steps row row_is))

pub loop-table-preserved : goal.loop-table-preserved
loop-table-preserved g c =
    let at = c.loop-table in
    let x = c.in-Some.table in
    let steps : into_iter_items at.table-iterator ≡ x ∷ into_iter_items c.next.new.self = c.in-Some.ensures.steps.0 in
    let count : c.len.result ≡ length at.tables.items = omega (arith, c.len.ensures, at.tables.ok.0) in
    let row = c.index-listed-len.result in
    let row_is : row ≡ get_or c.args.listed.now (length at.tables.items) row = subst (λ n. row ≡ get_or c.args.listed.now n row) count c.index-listed-len.is in
    let defs_are : c.as_slice-defs.result.now ≡ row.table.indexes = c.as_slice-defs.ensures ∙ ap (λ (r : ListedTable). r.table.indexes) (sym c.index-listed-len.is) in
    let e = c.in_ok-add_table.ensures in
    let added = subst (λ (defs : List IndexDef). IsAddedTo at.last x defs at.tables.items c.add_table.new.tables.items at.maps c.add_table.new.maps) defs_are e.ok in
    record {
      on = adding_more (map (λ b. (goal.Analyzer-dyn g (b.vtable, b.value)).kind b.value) c.args.kit.now.objects.items) c.args.listed.now _ _ at.maps at.last at.tables.items at.invariant.on x _ steps row row_is c.add_table.new.maps c.add_table.new.tables.items added c.add_table.new.last e.last;
      count = let gone = c.in-Some.ensures.steps.1 in let short = ap length steps in omega (arith, at.invariant.count, gone, short);
      kinds = e.kinds ∙ at.invariant.kinds;
    }

pub returns-clause-mapped : goal.returns-clause-mapped
returns-clause-mapped g c =
    let at = c.loop-table in
    let none = c.in-None.ensures.steps in
    let empty : into_iter_items at.table-iterator ≡ [] = nothing_left _ (sym at.invariant.count ∙ none.0) in
    adding_mapped (map (λ b. (goal.Analyzer-dyn g (b.vtable, b.value)).kind b.value) c.args.kit.now.objects.items) c.args.listed.now _ _ at.maps at.last at.tables.items at.invariant.on empty

pub returns-clause-held : goal.returns-clause-held
returns-clause-held g c =
    let at = c.loop-table in
    let none = c.in-None.ensures.steps in
    let empty : into_iter_items at.table-iterator ≡ [] = nothing_left _ (sym at.invariant.count ∙ none.0) in
    adding_held (map (λ b. (goal.Analyzer-dyn g (b.vtable, b.value)).kind b.value) c.args.kit.now.objects.items) c.args.listed.now _ _ at.maps at.last at.tables.items at.invariant.on empty ∙ ap (map opened_held) c.into_iter-table-iterator.ensures.into_iter_gives.0
