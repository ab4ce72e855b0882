use Rattle.std.specs.FinMap as fin
use Rattle.sasi_types.specs.declared.column.ColumnType.TheVariants.{Text as OfTexts}
use Rattle.sasi_terms_tests.proofs.IndexedMapLaws.{can_change, changed}
use Rattle.sasi_terms_tests.proofs.mem_indexes.write_line.Goals as goal

pub put-requires : goal.put-requires
put-requires g c = can_change OfTexts (fin.get c.args.book.now 1) c.text_change-change.result c.requires c.text_change-change.ensures

pub returns : goal.returns
returns g c =
    changed OfTexts c.expect-key.result c.text_change-change.result (fin.get c.args.book.now 1) (fin.get c.put.new.self 1) c.requires c.text_change-change.ensures
    (rw c.expect-3.ensures at c.put.ensures.ok)
