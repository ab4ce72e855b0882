-- The order of the partitions of a table.
use Rattle.std.specs.declared.cmp.Ordering.{Ordering}
use Rattle.std.specs.Ordering.{nat_cmp, ordering_then}
use Rattle.std.specs.Cmp.{IsTotalOrder, nat_cmp_total}
use Rattle.std.specs.Cmp.Lexicographic.{slice_cmp, nat_list_cmp_total}
use Rattle.std.proofs.lemmas.Cmp.{on_total, then_total}
use Rattle.sasi_types.specs.declared.decorated_key.DecoratedKey.{DecoratedKey}

-- by token, and then by the bytes of the key
abbrev pub decorated_cmp : DecoratedKey → DecoratedKey → Ordering
decorated_cmp a b = ordering_then (nat_cmp a.token b.token) (slice_cmp nat_cmp a.key b.key)

-- this order is total
pub decorated_total : IsTotalOrder decorated_cmp
decorated_total = then_total (on_total (λ (p : DecoratedKey). p.token) nat_cmp_total) (on_total (λ (p : DecoratedKey). p.key) nat_list_cmp_total)
