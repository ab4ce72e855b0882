use Rattle.std.proofs.Common.{◌≡◌, take}
use Rattle.sasi_compact.proofs.listing.file_with.Given as goal

-- the parts so far are copied
abbrev pub invariant-loop-part : goal.invariant-loop-part
invariant-loop-part l = l.copy ≡ take l.part-index l.parts
