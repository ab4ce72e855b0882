use Rattle.std.proofs.Common.{◌≡◌, ◌++◌, drop, map}
use Rattle.std.specs.List.{flat_map}
use Rattle.sasi_manifest.specs.ListedFiles.{names_of}
use Rattle.sasi_machine_layout.proofs.files.push_files.Given as goal

-- with those that are left
abbrev pub invariant-loop-file : goal.invariant-loop-file
invariant-loop-file l = l.names.items ++ flat_map names_of (map (λ f. f.listed) (drop l.file-index l.files)) ≡ l.fn.names.items ++ flat_map names_of (map (λ f. f.listed) l.files)
