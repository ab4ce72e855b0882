use Rattle.std.proofs.Common.{◌≡◌, take}
use Rattle.sasi_lookup.specs.Lookups.{unopened_files}
use Rattle.sasi_lookup.proofs.lookup.unopened_files.Given as goal

abbrev pub invariant-loop-number : goal.invariant-loop-number
invariant-loop-number l = l.files.items ≡ unopened_files (take l.number-index l.numbers)
