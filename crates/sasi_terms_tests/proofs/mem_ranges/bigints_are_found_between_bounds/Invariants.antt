use Rattle.std.specs.FinMap as fin
use Rattle.sasi_types.specs.declared.column.ColumnType.TheVariants.{BigInt}
use Rattle.sasi_terms_tests.specs.IndexedMaps.{HasIndexes}
use Rattle.sasi_terms_tests.proofs.mem_ranges.bigints_are_found_between_bounds.Given as goal

abbrev pub invariant-loop-key : goal.invariant-loop-key
invariant-loop-key g l = HasIndexes BigInt (fin.get l.book 1)
