use Rattle.std.proofs.Common.{◌≡◌, ◌++◌, drop}
use Rattle.sasi_plan.specs.Reading.{listed_files}
use Rattle.sasi_plan.proofs.parts.listed_files.Given as goal

-- the files so far, and those that are left
abbrev pub invariant-loop-part : goal.invariant-loop-part
invariant-loop-part l = l.files.items ++ listed_files (drop l.part-index l.listed) ≡ listed_files l.listed
