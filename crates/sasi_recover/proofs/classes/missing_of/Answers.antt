use Rattle.std.proofs.Common.{arith, map, take}
use Rattle.sasi_layout.specs.Classes.{classes_listed}
use Rattle.sasi_manifest.specs.ListedTables.{listed}
use Rattle.sasi_recover.proofs.MissingLaws.{table_passed, tables_passed}
use Rattle.sasi_recover.proofs.classes.missing_of.Goals as goal

pub loop-table-preserved : goal.loop-table-preserved
loop-table-preserved g c =
    table_passed (map (λ b. (goal.Analyzer-dyn g (b.vtable, b.value)).kind b.value) c.args.kit.now.objects.items) c.args.tables.now c.loop-table.table-index c.table-item.result _ c.missing_in-found.result
    (omega (arith, c.loop-table-test.true)) c.table-item.is c.as_slice.ensures
    (c.missing_in-found.ensures (classes_listed (map listed (take c.loop-table.table-index c.args.tables.now))) c.loop-table.invariant)

pub returns : goal.returns
returns g c =
    tables_passed (map (λ b. (goal.Analyzer-dyn g (b.vtable, b.value)).kind b.value) c.args.kit.now.objects.items) c.args.tables.now c.loop-table.table-index c.loop-table.found c.loop-table-test.false c.loop-table.invariant
