use Rattle.std.proofs.Common.{◌≡◌}
use Rattle.sasi_types.specs.Murmur.{signed_word}
use Rattle.sasi_types.proofs.murmur.signed_half.Given as goal

abbrev pub invariant-loop-index : goal.invariant-loop-index
invariant-loop-index l = l.half ≡ signed_word l.index l.bytes
