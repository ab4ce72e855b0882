use Rattle.std.proofs.Common.{◌≡◌, drop, map}
use Rattle.std.specs.Prelude.{max}
use Rattle.sasi_manifest.specs.ListedTables.{listed}
use Rattle.sasi_layout.specs.Layout.{largest_data}
use Rattle.sasi_recover.proofs.files.largest_number.Given as goal

abbrev pub invariant-loop-table : goal.invariant-loop-table
invariant-loop-table l = max l.largest (largest_data (map listed (drop l.table-index l.tables))) ≡ largest_data (map listed l.tables)
