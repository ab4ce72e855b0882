use Rattle.std.proofs.Common.{◌≡◌, ◌+◌, ◌++◌, drop, map}
use Rattle.sasi_manifest.specs.ListedTables.{listed}
use Rattle.sasi_manifest.specs.Listings.{file_edits}
use Rattle.sasi_manifest.proofs.rewrite.push_files.Given as goal

abbrev pub invariant-loop-i : goal.invariant-loop-i
invariant-loop-i l = l.edits.items ++ file_edits (l.i + 1) l.floor l.last (map listed (drop l.i l.tables)) ≡ l.fn.edits.items ++ file_edits 1 l.floor l.last (map listed l.tables)
