use Rattle.std.proofs.Common.{◌≡◌, ◌++◌, length, drop}
use Rattle.std.specs.List.{AllByRecursion, flat_map}
use Rattle.std.specs.Int.{to_be_bytes, w32}
use Rattle.sasi_manifest.specs.Listings.{FitsWidths}
use Rattle.sasi_manifest.proofs.EditBytes.{edit_bytes}
use Rattle.sasi_manifest.proofs.encode.put_edits.Given as goal

abbrev pub invariant-loop-edit : goal.invariant-loop-edit
invariant-loop-edit l = record {
  writable : AllByRecursion FitsWidths (drop l.edit-index l.edits);
  bytes : l.out.items ++ flat_map edit_bytes (drop l.edit-index l.edits) ≡ l.fn.out.items ++ (to_be_bytes w32 (length l.edits) ++ flat_map edit_bytes l.edits);
}
