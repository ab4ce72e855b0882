use Rattle.std.proofs.Common.{ℕ, ◌+◌, ◌<◌}
use Rattle.sasi_tokentree.specs.Format.{IsBefore, pair_at}
use Rattle.sasi_tokentree.proofs.order.is_rising.Given as goal

abbrev pub invariant-loop-index : goal.invariant-loop-index
invariant-loop-index l = (k : ℕ) → k + 1 < l.index → IsBefore (pair_at l.entries k) (pair_at l.entries (k + 1))
