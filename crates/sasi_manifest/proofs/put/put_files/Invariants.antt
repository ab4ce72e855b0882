use Rattle.std.proofs.Common.{◌≡◌, ◌<◌, ◌^◌, ◌++◌, length, drop}
use Rattle.std.specs.List.{AllByRecursion, flat_map}
use Rattle.std.specs.Int.{to_be_bytes, w32}
use Rattle.sasi_manifest.proofs.EditBytes.{file_bytes}
use Rattle.sasi_manifest.proofs.put.put_files.Given as goal

abbrev pub invariant-loop-file : goal.invariant-loop-file
invariant-loop-file l = record {
  bytes : l.out.items ++ flat_map file_bytes (drop l.file-index l.files) ≡ l.fn.out.items ++ (to_be_bytes w32 (length l.files) ++ flat_map file_bytes l.files);
  parts : AllByRecursion (λ f. length f.parts < 2 ^ 16) (drop l.file-index l.files);
}
