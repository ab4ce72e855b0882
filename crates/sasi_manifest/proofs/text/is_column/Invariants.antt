use Rattle.std.proofs.Common.{◌≡◌, drop}
use Rattle.std.specs.List.{list_any}
use Rattle.sasi_model.specs.Refusals.{names_in}
use Rattle.sasi_model.specs.Statements.{same}
use Rattle.sasi_manifest.proofs.text.is_column.Given as goal

abbrev pub invariant-loop-column : goal.invariant-loop-column
invariant-loop-column l = list_any (same l.text) (names_in (drop l.column-index l.columns)) ≡ list_any (same l.text) (names_in l.columns)
