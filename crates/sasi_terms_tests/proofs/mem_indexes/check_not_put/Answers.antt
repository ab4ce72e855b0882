use Rattle.std.specs.FinMap as fin
use Rattle.sasi_types.specs.declared.column.ColumnType.TheVariants.{Text as OfTexts}
use Rattle.sasi_terms_tests.proofs.IndexedMapLaws.{can_change}
use Rattle.sasi_terms_tests.proofs.mem_indexes.check_not_put.Goals as goal

pub put-answer-requires : goal.put-answer-requires
put-answer-requires g c = can_change OfTexts (fin.get c.args.book.now 1) c.text_change-change.result c.requires c.text_change-change.ensures
