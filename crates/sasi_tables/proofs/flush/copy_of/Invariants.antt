use Rattle.std.proofs.Common.{◌≡◌, take}
use Rattle.sasi_tables.proofs.flush.copy_of.Given as goal

-- the parts so far
abbrev pub invariant-loop-part : goal.invariant-loop-part
invariant-loop-part l = l.copy ≡ take l.part-index l.parts
