use Rattle.std.proofs.Common.{◌≡◌, ◌++◌, length, drop}
use Rattle.std.specs.List.{flat_map}
use Rattle.std.specs.Int.{to_be_bytes, w16}
use Rattle.sasi_model.specs.Refusals.{names_in}
use Rattle.sasi_manifest.specs.Naming.{AreNames}
use Rattle.sasi_manifest.proofs.EditBytes.{column_bytes}
use Rattle.sasi_manifest.proofs.put.put_columns.Given as goal

abbrev pub invariant-loop-column : goal.invariant-loop-column
invariant-loop-column l = record {
  bytes : l.out.items ++ flat_map column_bytes (drop l.column-index l.columns) ≡ l.fn.out.items ++ (to_be_bytes w16 (length l.columns) ++ flat_map column_bytes l.columns);
  names : AreNames (names_in (drop l.column-index l.columns));
}
