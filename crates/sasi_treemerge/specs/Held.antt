-- The order of the pairs in memory.
use Rattle.std.specs.Prelude.{◌==◌, ◌&&◌, Bool, List, Contains}
use Rattle.std.specs.declared.cmp.Ordering.{Ordering}
use Rattle.std.specs.Cmp.{IsTotalOrder, nat_cmp_total}
use Rattle.std.proofs.lemmas.Cmp.{back_total, on_total, then_total}
use Rattle.sasi_types.specs.declared.tree.Pair.{Pair}
use Rattle.sasi_treemerge.specs.declared.held_pair.HeldPair.{HeldPair}
use Rattle.sasi_treemerge.specs.Sources.{pair_cmp}

-- the least pair comes last, so that a heap gives it first
abbrev pub held_cmp : HeldPair → HeldPair → Ordering
held_cmp a b = pair_cmp b.pair a.pair

abbrev pub held_eq : HeldPair → HeldPair → Bool
held_eq a b = (a.pair.token == b.pair.token) && (a.pair.place == b.pair.place)

-- this order is total
pub held_total : IsTotalOrder held_cmp
held_total = back_total (on_total (λ (h : HeldPair). h.pair) (then_total (on_total (λ (p : Pair). p.token) nat_cmp_total) (on_total (λ (p : Pair). p.place) nat_cmp_total)))

-- the pair is in memory
abbrev pub IsHeld : List HeldPair → Pair → Type 0
IsHeld held pair = Contains held (record { pair = pair })
