use Rattle.std.proofs.Common.{◌≡◌, take}
use Rattle.sasi_dataread.proofs.types.copy_types.Given as goal

abbrev pub invariant-loop-kind : goal.invariant-loop-kind
invariant-loop-kind l = l.copy ≡ take l.kind-index l.list
