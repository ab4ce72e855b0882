use Rattle.std.proofs.Common.{◌≡◌, ◌++◌, drop, map}
use Rattle.sasi_manifest.specs.ListedTables.{listed}
use Rattle.sasi_manifest.proofs.table_list.copies.Given as goal

abbrev pub invariant-loop-table : goal.invariant-loop-table
invariant-loop-table l = record {
  same : map listed l.copies.items ++ map listed (drop l.table-index l.tables) ≡ map listed l.tables;
  numbers : map (λ t. t.table.number) l.copies.items ++ map (λ t. t.table.number) (drop l.table-index l.tables) ≡ map (λ t. t.table.number) l.tables;
}
