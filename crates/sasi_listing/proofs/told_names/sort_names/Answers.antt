use Rattle.std.proofs.Common.{rules, ◌≡◌}
use Rattle.std.specs.Ordering.{is_lt}
use Rattle.std.proofs.lemmas.Fn.{always_returns_same}
use Rattle.std.proofs.lemmas.List.Sorted.{ranks_by}
use Rattle.sasi_layout.specs.FileNames.{told_cmp}
use Rattle.sasi_listing.proofs.ToldOrder.{told_sorted, told_total}
use Rattle.sasi_listing.proofs.told_names.sort_names.Goals as goal

pub returns : goal.returns
returns c =
    let rises = c.sort_unstable_by.ensures.sorted (λ x y. is_lt (told_cmp x y)) (ranks_by told_total (λ p. p))
    (always_returns_same _ (λ a r. is_lt r ≡ is_lt (told_cmp a.0.now a.1.0.now)) _ (λ a r f' k. search rules)) in
    told_sorted c.args.names.now.items c.sort_unstable_by.new.self.items c.sort_unstable_by.ensures.permutation rises
