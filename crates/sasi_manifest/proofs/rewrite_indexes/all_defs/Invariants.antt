use Rattle.std.proofs.Common.{◌≡◌, ◌+◌, ◌++◌, drop, map}
use Rattle.sasi_manifest.specs.ListedTables.{listed}
use Rattle.sasi_manifest.specs.Listings.{all_defs}
use Rattle.sasi_manifest.proofs.IndexDefs.{AreLeft}
use Rattle.sasi_manifest.proofs.rewrite_indexes.all_defs.Given as goal

abbrev pub invariant-loop-table : goal.invariant-loop-table
invariant-loop-table l = record {
  left : AreLeft l.tables l.table-index;
  so_far : l.defs.items ++ all_defs (l.table-index + 1) (map listed (drop l.table-index l.tables)) ≡ all_defs 1 (map listed l.tables);
}
