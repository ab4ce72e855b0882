use Rattle.std.proofs.Common.{◌≡◌, ◌+◌, ◌++◌, drop, map}
use Rattle.sasi_manifest.specs.ListedTables.{listed}
use Rattle.sasi_manifest.specs.Listings.{table_edits}
use Rattle.sasi_manifest.proofs.rewrite.push_tables.Given as goal

abbrev pub invariant-loop-i : goal.invariant-loop-i
invariant-loop-i l = l.edits.items ++ table_edits (l.i + 1) (map listed (drop l.i l.tables)) ≡ l.fn.edits.items ++ table_edits 1 (map listed l.tables)
