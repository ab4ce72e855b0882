use Rattle.std.specs.FinMap as fin
use Rattle.sasi_types.specs.declared.column.ColumnType.TheVariants.{Text as OfTexts}
use Rattle.sasi_terms_tests.specs.IndexedMaps.{HasIndexes}
use Rattle.sasi_terms_tests.proofs.mem_indexes.check_lines.Given as goal

abbrev pub invariant-loop-line : goal.invariant-loop-line
invariant-loop-line g l = HasIndexes OfTexts (fin.get l.book 1)
