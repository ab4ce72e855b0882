use Rattle.std.proofs.Common.{◌≡◌, drop}
use Rattle.sasi_manifest.specs.ListedFiles.{is_among}
use Rattle.sasi_tasks.specs.Running.{numbers_of}
use Rattle.sasi_tasks.proofs.last_unit.is_defined.Given as goal

-- among all where it is among those that are left
abbrev pub invariant-loop-def : goal.invariant-loop-def
invariant-loop-def l = is_among (numbers_of l.defined) l.number ≡ is_among (numbers_of (drop l.def-index l.defined)) l.number
