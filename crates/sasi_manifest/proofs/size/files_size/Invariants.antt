use Rattle.std.proofs.Common.{◌≡◌, ◌+◌, ◌^◌, ◌-◌, ◌≤◌, min, drop}
use Rattle.std.specs.List.{sum_by}
use Rattle.sasi_manifest.specs.ListedFiles.{file_length}
use Rattle.sasi_manifest.proofs.size.files_size.Given as goal

abbrev pub invariant-loop-file : goal.invariant-loop-file
invariant-loop-file l = record {
  fits : l.size ≤ 2 ^ 64 - 1;
  counted : min (l.size + sum_by file_length (drop l.file-index l.files)) (2 ^ 64 - 1) ≡ min (sum_by file_length l.files) (2 ^ 64 - 1);
}
