use Rattle.std.proofs.Common.{◌≡◌, drop, map}
use Rattle.std.specs.List.{list_any}
use Rattle.sasi_model.specs.Statements.{same}
use Rattle.sasi_manifest.specs.Edits.{index_names}
use Rattle.sasi_manifest.specs.ListedTables.{listed}
use Rattle.sasi_manifest.specs.Listings.{listed_definitions}
use Rattle.sasi_manifest.proofs.index_list.is_index_named.Given as goal

abbrev pub invariant-loop-table : goal.invariant-loop-table
invariant-loop-table l = list_any (same l.name) (index_names (listed_definitions (map listed (drop l.table-index l.tables)))) ≡ list_any (same l.name) (index_names (listed_definitions (map listed l.tables)))
