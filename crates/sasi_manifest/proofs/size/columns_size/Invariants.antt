use Rattle.std.proofs.Common.{◌≡◌, ◌+◌, ◌^◌, ◌-◌, ◌≤◌, min, length, drop}
use Rattle.std.specs.List.{flat_map}
use Rattle.sasi_manifest.proofs.EditBytes.{column_bytes}
use Rattle.sasi_manifest.proofs.size.columns_size.Given as goal

abbrev pub invariant-loop-column : goal.invariant-loop-column
invariant-loop-column l = record {
  fits : l.size ≤ 2 ^ 64 - 1;
  counted : min (l.size + length (flat_map column_bytes (drop l.column-index l.columns))) (2 ^ 64 - 1) ≡ min (2 + length (flat_map column_bytes l.columns)) (2 ^ 64 - 1);
}
