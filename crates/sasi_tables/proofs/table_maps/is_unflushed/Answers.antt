use Rattle.std.proofs.Common.{subst, sym}
use Rattle.std.specs.Prelude.{IsSome}
use Rattle.std.specs.FinMap.{get}
use Rattle.std.specs.List.{AllByRecursion}
use Rattle.sasi_tables.proofs.TableTests.{frozen_there, held_frozen, held_memtable, memtable_there}
use Rattle.sasi_tables.proofs.table_maps.is_unflushed.Goals as goal

pub any_held-requires : goal.any_held-requires
any_held-requires c =
    subst (AllByRecursion (λ n. IsSome (get c.args.maps.now n))) (sym c.as_slice.ensures) (frozen_there c.args.maps.now c.args.tables.now c.args.table c.requires c.index-tables-table.result c.index-tables-table.is)

pub map_with-requires : goal.map_with-requires
map_with-requires c = memtable_there c.args.maps.now c.args.tables.now c.args.table c.requires c.index-tables-table.result c.index-tables-table.is

pub returns-then-any_held : goal.returns-then-any_held
returns-then-any_held c t found =
    held_frozen c.args.maps.now c.args.tables.now c.args.table c.requires c.index-tables-table.result c.index-tables-table.is c.as_slice.result.now c.as_slice.ensures c.any_held.result c.any_held.ensures t found c.if-any_held.true

pub returns-else-any_held : goal.returns-else-any_held
returns-else-any_held c t found =
    held_memtable c.args.maps.now c.args.tables.now c.args.table c.requires c.index-tables-table.result c.index-tables-table.is c.as_slice.result.now c.as_slice.ensures c.any_held.result c.any_held.ensures t found c.if-any_held.false
    c.map_with.result.now c.is_empty.result c.map_with.ensures c.is_empty.ensures
