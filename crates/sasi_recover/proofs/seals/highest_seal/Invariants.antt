use Rattle.std.proofs.Common.{take}
use Rattle.sasi_recover.specs.Opening.{IsHighestSeal}
use Rattle.sasi_recover.proofs.seals.highest_seal.Given as goal

-- the highest of those so far
abbrev pub invariant-loop-name : goal.invariant-loop-name
invariant-loop-name l = IsHighestSeal (take l.name-index l.names) l.highest
