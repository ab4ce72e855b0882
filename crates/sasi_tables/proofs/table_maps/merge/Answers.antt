use Rattle.std.proofs.Common.{◌-◌, ◌<◌, ap, arith, length, set, subst}
use Rattle.std.specs.Prelude.{slice_get}
use Rattle.sasi_tables.specs.Held.{IsPutIn}
use Rattle.sasi_tables.specs.declared.table_maps.TableMaps.{TableMaps}
use Rattle.sasi_tables.proofs.HeldMaps.{one_there}
use Rattle.sasi_tables.proofs.TablesInMemory.{index_got}
use Rattle.sasi_tables.proofs.table_maps.merge.Goals as goal

pub put_into-requires-clause-known : goal.put_into-requires-clause-known
put_into-requires-clause-known g c =
    let there = c.requires.there in
    let inside : c.args.mutation.table - 1 < length c.args.tables.now.items = omega (arith, there.some, there.inside) in
    c.requires.known c.index_mut-table.result.now (index_got c.args.tables.now.items (c.args.mutation.table - 1) c.index_mut-table.result.now inside c.index_mut-table.ensures.value)

pub returns-clause-ok : goal.returns-clause-ok
returns-clause-ok g c t found =
    let there = c.requires.there in
    let items = c.args.tables.now.items in
    let at = c.args.mutation.table - 1 in
    let inside : at < length items = omega (arith, there.some, there.inside) in
    let row = c.index_mut-table.result.now in
    let got = index_got items at row inside c.index_mut-table.ensures.value in
    let e = c.in_ok-put_into.ensures in
    subst (λ (r : TableMaps). IsPutIn c.args.segment c.args.mutation r items (set items at c.put_into.new.table) c.args.maps.now c.put_into.new.maps) (one_there row t (slice_get items at) got found)
    (record { tables_are = ap (set items at) e.table; changed = e.changed; others = e.others })
