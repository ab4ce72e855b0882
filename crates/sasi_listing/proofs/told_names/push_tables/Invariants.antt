use Rattle.std.proofs.Common.{◌≡◌, ◌++◌, drop, map}
use Rattle.sasi_manifest.specs.FileNames.{file_names}
use Rattle.sasi_manifest.specs.ListedTables.{listed}
use Rattle.sasi_listing.proofs.told_names.push_tables.Given as goal

-- with those that are left
abbrev pub invariant-loop-table : goal.invariant-loop-table
invariant-loop-table l = l.names.items ++ file_names (map listed (drop l.table-index l.tables)) ≡ l.fn.names.items ++ file_names (map listed l.tables)
