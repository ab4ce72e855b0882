use Rattle.std.proofs.Common.{◌≡◌, ◌++◌, drop}
use Rattle.sasi_store.specs.ToldFiles.{built_of}
use Rattle.sasi_store.proofs.show_files.built_names.Given as goal

-- with those that are left
abbrev pub invariant-loop-running : goal.invariant-loop-running
invariant-loop-running l = l.names.items ++ built_of (drop l.running-index l.tasks) ≡ built_of l.tasks
