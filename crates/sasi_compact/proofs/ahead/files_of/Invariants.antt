use Rattle.std.proofs.Common.{◌≡◌, take}
use Rattle.sasi_compact.specs.Tasks.{files_numbered}
use Rattle.sasi_compact.proofs.ahead.files_of.Given as goal

-- there is a file for each number so far
abbrev pub invariant-loop-number : goal.invariant-loop-number
invariant-loop-number l = l.files ≡ files_numbered (take l.number-index l.numbers)
