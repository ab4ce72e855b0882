-- The order of the sources of a merge.
use Rattle.std.specs.Prelude.{◌==◌, ◌&&◌, Bool}
use Rattle.std.specs.declared.cmp.Ordering.{Ordering}
use Rattle.std.specs.Ordering.{is_lt, nat_cmp, ordering_then}
use Rattle.std.specs.Cmp.{IsTotalOrder, nat_cmp_total}
use Rattle.std.proofs.lemmas.Cmp.{back_total, on_total, then_total}
use Rattle.sasi_types.specs.declared.tree.Pair.{Pair}
use Rattle.sasi_treemerge.specs.declared.tree_source.TreeSource.{TreeSource}

-- pairs are in the order of their tokens, and then of their offsets
abbrev pub pair_cmp : Pair → Pair → Ordering
pair_cmp a b = ordering_then (nat_cmp a.token b.token) (nat_cmp a.place b.place)

-- the one pair comes before the other
abbrev pub is_before : Pair → Pair → Bool
is_before a b = is_lt (pair_cmp a b)

-- the source with the least pair comes last, so that a heap gives it first
abbrev pub source_cmp : TreeSource → TreeSource → Ordering
source_cmp a b = pair_cmp b.head a.head

abbrev pub source_eq : TreeSource → TreeSource → Bool
source_eq a b = (a.head.token == b.head.token) && (a.head.place == b.head.place)

-- this order is total
pub source_total : IsTotalOrder source_cmp
source_total = back_total (on_total (λ (s : TreeSource). s.head) (then_total (on_total (λ (p : Pair). p.token) nat_cmp_total) (on_total (λ (p : Pair). p.place) nat_cmp_total)))
