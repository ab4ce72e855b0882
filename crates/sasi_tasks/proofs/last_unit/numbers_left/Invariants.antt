use Rattle.std.proofs.Common.{◌≡◌, ◌++◌, drop}
use Rattle.std.specs.List.{filter}
use Rattle.sasi_manifest.specs.ListedFiles.{is_among}
use Rattle.sasi_tasks.specs.Running.{numbers_of}
use Rattle.sasi_tasks.proofs.last_unit.numbers_left.Given as goal

-- with those of the indexes behind
abbrev pub invariant-loop-def : goal.invariant-loop-def
invariant-loop-def l = l.left ++ filter (is_among (numbers_of l.defined)) (numbers_of (drop l.def-index l.indexes)) ≡ filter (is_among (numbers_of l.defined)) (numbers_of l.indexes)
