use Rattle.std.proofs.Common.{◌≡◌, drop, map}
use Rattle.sasi_manifest.specs.Edits.{index_numbers}
use Rattle.sasi_manifest.specs.ListedFiles.{is_among}
use Rattle.sasi_manifest.specs.ListedTables.{listed}
use Rattle.sasi_manifest.proofs.index_list.is_index_listed.Given as goal

abbrev pub invariant-loop-table : goal.invariant-loop-table
invariant-loop-table l = is_among (index_numbers (map listed (drop l.table-index l.tables))) l.number ≡ is_among (index_numbers (map listed l.tables)) l.number
