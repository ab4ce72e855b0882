use Rattle.std.proofs.Common.{◌≡◌, ◌++◌, drop}
use Rattle.std.specs.List.{flat_map}
use Rattle.sasi_manifest.specs.ListedFiles.{names_of}
use Rattle.sasi_tasks.proofs.last_unit.names_in.Given as goal

-- with those that are left
abbrev pub invariant-loop-file : goal.invariant-loop-file
invariant-loop-file l = l.names.items ++ flat_map names_of (drop l.file-index l.files) ≡ flat_map names_of l.files
