use Rattle.std.proofs.Common.{◌∙◌}
use Rattle.std.proofs.lemmas.List.Filters.{dedup_is}
use Rattle.sasi_indexwrite.specs.Unions.{same_pair}
use Rattle.sasi_indexwrite.proofs.Joined.{union_made}
use Rattle.sasi_indexwrite.proofs.unions.union.Goals as goal

pub returns : goal.returns
returns c =
    let sorted = c.sort_unstable.new.self.items in
    union_made c.args.pairs.now c.in_ok-sorted.sorted.items sorted c.dedup.new.self.items c.deref.result.now c.new-once.result c.push_all.new.list
    (c.in_ok-sorted.ensures.items_if_clones_equal (λ x y same. same) ∙ c.as_slice.ensures) c.sort_unstable.ensures.permutation c.sort_unstable.ensures.sorted
    (dedup_is same_pair sorted c.dedup.new.self.items c.dedup.ensures.filtered) c.deref.ensures.value c.new-once.ensures c.in_ok-push_all.ensures.ok
