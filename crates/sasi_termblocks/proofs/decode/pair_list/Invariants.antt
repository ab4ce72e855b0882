use Rattle.std.proofs.Common.{◌≡◌, take}
use Rattle.sasi_termblocks.proofs.decode.pair_list.Given as goal

abbrev pub invariant-loop-pair : goal.invariant-loop-pair
invariant-loop-pair l = l.list ≡ take l.pair-index l.pairs
