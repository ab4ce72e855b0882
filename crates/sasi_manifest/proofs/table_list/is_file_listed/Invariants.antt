use Rattle.std.proofs.Common.{◌≡◌, drop, map}
use Rattle.std.specs.List.{list_any}
use Rattle.sasi_manifest.specs.ListedFiles.{has_file}
use Rattle.sasi_manifest.specs.ListedTables.{listed}
use Rattle.sasi_manifest.proofs.table_list.is_file_listed.Given as goal

abbrev pub invariant-loop-table : goal.invariant-loop-table
invariant-loop-table l = list_any (λ t. has_file t.files l.number) (map listed (drop l.table-index l.tables)) ≡ list_any (λ t. has_file t.files l.number) (map listed l.tables)
