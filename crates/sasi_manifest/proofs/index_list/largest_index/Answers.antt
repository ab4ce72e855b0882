use Rattle.std.proofs.Common.{◌∙◌, List, ap, arith, map}
use Rattle.sasi_types.specs.declared.index_def.IndexDef.{IndexDef}
use Rattle.sasi_model.specs.Cells.{largest}
use Rattle.sasi_manifest.proofs.IndexDefs.{largest_more}
use Rattle.sasi_manifest.proofs.index_list.largest_index.Goals as goal

pub loop-table-preserved : goal.loop-table-preserved
loop-table-preserved c =
    largest_more c.args.tables.now c.loop-table.table-index c.table-item.result c.loop-table.most c.largest_number.result c.max-most.result _ (omega (arith, c.loop-table-test.true)) c.table-item.is
    (c.largest_number.ensures ∙ ap (λ (l : List IndexDef). largest (map (λ (def : IndexDef). def.number) l)) c.as_slice.ensures) c.max-most.ensures c.loop-table.invariant
