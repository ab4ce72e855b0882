use Rattle.std.proofs.Common.{◌≡◌, drop}
use Rattle.std.specs.Prelude.{max}
use Rattle.sasi_manifest.specs.ListedFiles.{largest_of_parts}
use Rattle.sasi_recover.proofs.files.largest_of_parts.Given as goal

-- with what is left
abbrev pub invariant-loop-part : goal.invariant-loop-part
invariant-loop-part l = max l.largest (largest_of_parts (drop l.part-index l.parts)) ≡ largest_of_parts l.parts
