use Rattle.std.proofs.Common.{◌≡◌, drop, map}
use Rattle.std.specs.List.{list_any}
use Rattle.sasi_model.specs.Statements.{same}
use Rattle.sasi_manifest.specs.ListedTables.{listed}
use Rattle.sasi_manifest.specs.Abbreviations.{listed_names}
use Rattle.sasi_manifest.proofs.table_list.is_listed.Given as goal

abbrev pub invariant-loop-table : goal.invariant-loop-table
invariant-loop-table l = list_any (same l.name) (listed_names (map listed (drop l.table-index l.tables))) ≡ list_any (same l.name) (listed_names (map listed l.tables))
