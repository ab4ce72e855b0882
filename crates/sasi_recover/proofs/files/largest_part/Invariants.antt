use Rattle.std.proofs.Common.{◌≡◌, drop, map}
use Rattle.std.specs.Prelude.{max}
use Rattle.sasi_manifest.specs.FileNames.{largest_part}
use Rattle.sasi_manifest.specs.ListedTables.{listed}
use Rattle.sasi_recover.proofs.files.largest_part.Given as goal

-- with what is left
abbrev pub invariant-loop-table : goal.invariant-loop-table
invariant-loop-table l = max l.largest (largest_part (map listed (drop l.table-index l.tables))) ≡ largest_part (map listed l.tables)
