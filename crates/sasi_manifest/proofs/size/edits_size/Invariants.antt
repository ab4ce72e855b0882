use Rattle.std.proofs.Common.{◌≡◌, ◌+◌, ◌^◌, ◌-◌, ◌≤◌, min, length, drop}
use Rattle.std.specs.List.{flat_map}
use Rattle.sasi_manifest.proofs.EditBytes.{edit_bytes}
use Rattle.sasi_manifest.proofs.size.edits_size.Given as goal

abbrev pub invariant-loop-edit : goal.invariant-loop-edit
invariant-loop-edit l = record {
  fits : l.size ≤ 2 ^ 64 - 1;
  counted : min (l.size + length (flat_map edit_bytes (drop l.edit-index l.edits))) (2 ^ 64 - 1) ≡ min (4 + length (flat_map edit_bytes l.edits)) (2 ^ 64 - 1);
}
