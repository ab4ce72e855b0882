use Rattle.std.proofs.Common.{subst, sym}
use Rattle.std.specs.Prelude.{IsSome}
use Rattle.std.specs.FinMap.{get}
use Rattle.std.specs.List.{AllByRecursion}
use Rattle.sasi_memtable.specs.Sizes.{byte_count, cell_count}
use Rattle.sasi_tables.proofs.TableTests.{all_counted, frozen_there, memtable_there}
use Rattle.sasi_tables.proofs.table_maps.size_of.Goals as goal

pub map_with-memtable-requires : goal.map_with-memtable-requires
map_with-memtable-requires c = memtable_there c.args.maps.now c.args.tables.now c.args.table c.requires c.index-tables-table.result c.index-tables-table.is

pub sizes_of-cells-requires : goal.sizes_of-cells-requires
sizes_of-cells-requires c =
    subst (AllByRecursion (λ n. IsSome (get c.args.maps.now n))) (sym c.as_slice.ensures) (frozen_there c.args.maps.now c.args.tables.now c.args.table c.requires c.index-tables-table.result c.index-tables-table.is)

pub returns-clause-cells : goal.returns-clause-cells
returns-clause-cells c =
    all_counted c.args.maps.now c.args.tables.now c.args.table c.requires c.index-tables-table.result c.index-tables-table.is cell_count c.as_slice.result.now c.as_slice.ensures
    c.map_with-memtable.result.now c.map_with-memtable.ensures _ c.cells.result c.saturating_add.result c.sizes_of-cells.ensures.cells c.cells.ensures c.saturating_add.ensures

pub returns-clause-bytes : goal.returns-clause-bytes
returns-clause-bytes c =
    all_counted c.args.maps.now c.args.tables.now c.args.table c.requires c.index-tables-table.result c.index-tables-table.is byte_count c.as_slice.result.now c.as_slice.ensures
    c.map_with-memtable.result.now c.map_with-memtable.ensures _ c.bytes.result c.saturating_add-2.result c.sizes_of-cells.ensures.bytes c.bytes.ensures c.saturating_add-2.ensures
