use Rattle.std.proofs.Common.{◌≡◌, ◌+◌, drop, map}
use Rattle.sasi_manifest.specs.Edits.{are_within}
use Rattle.sasi_manifest.specs.ListedTables.{listed}
use Rattle.sasi_manifest.proofs.table_list.are_within.Given as goal

abbrev pub invariant-loop-other : goal.invariant-loop-other
invariant-loop-other l = record {
  numbered : l.number ≡ l.other-index + 1;
  rest : are_within l.last l.table l.number (map listed (drop l.other-index l.tables)) ≡ are_within l.last l.table 1 (map listed l.tables);
}
