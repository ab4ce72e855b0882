use Rattle.std.proofs.Common.{◌≡◌, ◌++◌, length, drop}
use Rattle.std.specs.List.{flat_map}
use Rattle.std.specs.Int.{to_be_bytes, w16}
use Rattle.sasi_manifest.proofs.EditBytes.{part_bytes}
use Rattle.sasi_manifest.proofs.put.put_parts.Given as goal

abbrev pub invariant-loop-part : goal.invariant-loop-part
invariant-loop-part l = l.out.items ++ flat_map part_bytes (drop l.part-index l.parts) ≡ l.fn.out.items ++ (to_be_bytes w16 (length l.parts) ++ flat_map part_bytes l.parts)
