use Rattle.std.proofs.Common.{◌∙◌, ◌++◌, List, ap, arith, map}
use Rattle.sasi_types.specs.declared.index_def.IndexDef.{IndexDef}
use Rattle.sasi_manifest.specs.ListedTables.{listed}
use Rattle.sasi_manifest.specs.Listings.{all_defs}
use Rattle.sasi_manifest.proofs.IndexDefs.{defs_all, defs_more, left_more}
use Rattle.sasi_manifest.proofs.rewrite_indexes.all_defs.Goals as goal

pub loop-table-init : goal.loop-table-init
loop-table-init c = record {
  left = c.requires;
  so_far = ap (λ (l : List IndexDef). l ++ all_defs 1 (map listed c.args.tables.now)) c.new-defs.ensures.items;
}

pub loop-table-preserved : goal.loop-table-preserved
loop-table-preserved c =
    let within = c.loop-table-test.true in
    let left = c.loop-table.invariant.left in
    record {
      left = left_more c.args.tables.now c.loop-table.table-index c.table-item.result (omega (arith, within)) c.table-item.is left;
      so_far = defs_more c.args.tables.now c.loop-table.table-index c.table-item.result (omega (arith, within)) c.table-item.is left c.loop-table.defs.items c.push_defs.new.defs.items _
          (c.in_ok-push_defs.ensures ∙ ap (λ (l : List IndexDef). c.loop-table.defs.items ++ l) c.as_slice.ensures) c.loop-table.invariant.so_far;
    }

pub returns : goal.returns
returns c = defs_all c.args.tables.now c.loop-table.table-index c.loop-table.defs.items _ c.loop-table-test.false c.loop-table.invariant.so_far
