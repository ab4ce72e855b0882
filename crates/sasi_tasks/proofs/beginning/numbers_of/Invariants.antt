use Rattle.std.proofs.Common.{◌≡◌, ◌++◌, drop, map}
use Rattle.sasi_manifest.specs.declared.files.ListedFile.{ListedFile}
use Rattle.sasi_tasks.proofs.beginning.numbers_of.Given as goal

-- with those that are left
abbrev pub invariant-loop-file : goal.invariant-loop-file
invariant-loop-file l = l.numbers ++ map (λ (f : ListedFile). f.number) (drop l.file-index l.files) ≡ map (λ (f : ListedFile). f.number) l.files
