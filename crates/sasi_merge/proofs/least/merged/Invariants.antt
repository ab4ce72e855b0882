use Rattle.std.proofs.Common.{◌≡◌, None, drop}
use Rattle.sasi_merge.specs.Merging.{merged_heads, with_token}
use Rattle.sasi_merge.proofs.least.merged.Given as goal

-- what is merged so far, and the heads that are left
abbrev pub invariant-loop-head : goal.invariant-loop-head
invariant-loop-head l =
    let key = with_token l.token l.key in
    merged_heads key l.merged (drop l.head-index l.heads) ≡ merged_heads key None l.heads
