use Rattle.std.proofs.Common.{◌≡◌, ◌-◌, Some, arith, slice_get}
use Rattle.sasi_tables.specs.declared.table_maps.TableMaps.{TableMaps}
use Rattle.sasi_tables.proofs.TablesInMemory.{index_got}
use Rattle.sasi_tables.proofs.ViewLists.{parts_listed}
use Rattle.sasi_tables.proofs.view_list.view_parts.Goals as goal

pub returns : goal.returns
returns c =
    let p = c.args.parts.now in
    let x : TableMaps = c.index.result.now in
    let got : slice_get p.tables.items (c.args.table - 1) ≡ Some x = index_got p.tables.items (c.args.table - 1) x (omega (arith, c.requires.some, c.requires.within)) c.index.ensures in
    parts_listed p c.args.table x got c.in_ok-listed.listed c.push.new.self c.in_ok-listed.ensures c.in_ok-push.ensures.ok
