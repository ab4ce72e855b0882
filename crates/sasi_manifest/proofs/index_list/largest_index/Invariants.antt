use Rattle.std.proofs.Common.{◌≡◌, drop, map}
use Rattle.std.specs.Prelude.{max}
use Rattle.sasi_manifest.specs.ListedTables.{listed}
use Rattle.sasi_manifest.specs.Listings.{largest_index}
use Rattle.sasi_manifest.proofs.index_list.largest_index.Given as goal

abbrev pub invariant-loop-table : goal.invariant-loop-table
invariant-loop-table l = max l.most (largest_index (map listed (drop l.table-index l.tables))) ≡ largest_index (map listed l.tables)
