use Rattle.std.proofs.Common.{◌≡◌, subst, sym}
use Rattle.std.specs.Prelude.{IsSome}
use Rattle.std.specs.FinMap.{get}
use Rattle.sasi_tables.specs.Held.{map_in}
use Rattle.sasi_tables.specs.declared.table_maps.TableMaps.{TableMaps}
use Rattle.sasi_tables.proofs.TableTests.{memtable_holds, memtable_there}
use Rattle.sasi_tables.proofs.table_maps.holds_any.Goals as goal

pub map_with-requires : goal.map_with-requires
map_with-requires c =
    let row = c.index-tables-table.result in
    subst (λ (r : TableMaps). IsSome (get c.args.maps.now r.memtable)) c.index-tables-table.is (memtable_there c.args.maps.now c.args.tables.now c.args.table c.requires row c.index-tables-table.is)

pub returns : goal.returns
returns c =
    let row = c.index-tables-table.result in
    memtable_holds c.args.maps.now c.args.tables.now c.args.table c.requires row c.index-tables-table.is c.map_with.result.now c.is_empty.result
    (subst (λ (r : TableMaps). c.map_with.result.now ≡ map_in c.args.maps.now r.memtable) (sym c.index-tables-table.is) c.map_with.ensures) c.is_empty.ensures
