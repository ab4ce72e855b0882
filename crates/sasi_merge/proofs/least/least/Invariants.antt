use Rattle.std.proofs.Common.{◌≡◌, None, drop}
use Rattle.std.specs.Option.{option_map}
use Rattle.sasi_merge.specs.Least.{least_from}
use Rattle.sasi_merge.specs.Merging.{with_token}
use Rattle.sasi_merge.proofs.least.least.Given as goal

-- the least so far, and the heads that are left
abbrev pub invariant-loop-head : goal.invariant-loop-head
invariant-loop-head l = least_from (option_map (λ k. with_token k.0 k.1.now) l.least) (drop l.head-index l.heads) ≡ least_from None l.heads
