use Rattle.std.proofs.Common.{◌≡◌, drop}
use Rattle.std.specs.Prelude.{max}
use Rattle.sasi_layout.specs.Layout.{largest_file}
use Rattle.sasi_recover.proofs.files.largest_in.Given as goal

abbrev pub invariant-loop-file : goal.invariant-loop-file
invariant-loop-file l = max l.largest (largest_file (drop l.file-index l.files)) ≡ largest_file l.files
