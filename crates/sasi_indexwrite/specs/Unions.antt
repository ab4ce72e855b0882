-- The pairs of several lists together.
use Rattle.std.specs.Prelude.{Bool, ◌&&◌, nat_eq, List}
use Rattle.std.specs.List.{dedup}
use Rattle.std.specs.Ordering.{nat_cmp, on, then_cmp}
use Rattle.std.specs.declared.cmp.Ordering.{Ordering}
use Rattle.sasi_types.specs.declared.tree.Pair.{Pair}
use Rattle.sasi_segments.specs.Sorting.{sort}

-- by token, and then by place
abbrev pub pair_cmp : Pair → Pair → Ordering
pair_cmp = then_cmp (on (λ (p : Pair). p.token) nat_cmp) (on (λ (p : Pair). p.place) nat_cmp)

abbrev pub same_pair : Pair → Pair → Bool
same_pair a b = nat_eq a.token b.token && nat_eq a.place b.place

-- the pairs in their order, each once
abbrev pub union_of : List Pair → List Pair
union_of pairs = dedup same_pair (sort pair_cmp pairs)
