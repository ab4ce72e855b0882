use Rattle.std.proofs.Common.{◌≡◌, ◌+◌, ◌++◌, drop, map}
use Rattle.sasi_manifest.specs.ListedTables.{listed}
use Rattle.sasi_manifest.specs.Types.{numbered_types}
use Rattle.sasi_manifest.proofs.table_types.table_types.Given as goal

abbrev pub invariant-loop-i : goal.invariant-loop-i
invariant-loop-i l = l.types ++ numbered_types (l.i + 1) (map listed (drop l.i l.tables)) ≡ numbered_types 1 (map listed l.tables)
