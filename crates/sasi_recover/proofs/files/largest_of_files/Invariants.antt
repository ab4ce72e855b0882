use Rattle.std.proofs.Common.{◌≡◌, drop}
use Rattle.std.specs.Prelude.{max}
use Rattle.sasi_manifest.specs.ListedFiles.{largest_of_files}
use Rattle.sasi_recover.proofs.files.largest_of_files.Given as goal

-- with what is left
abbrev pub invariant-loop-file : goal.invariant-loop-file
invariant-loop-file l = max l.largest (largest_of_files (drop l.file-index l.files)) ≡ largest_of_files l.files
