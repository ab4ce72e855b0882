use Rattle.std.proofs.Common.{rules, ◌≡◌}
use Rattle.std.specs.Ordering.{is_lt}
use Rattle.std.proofs.lemmas.Fn.{always_returns_same}
use Rattle.std.proofs.lemmas.List.Sorted.{ranks_by}
use Rattle.sasi_store.specs.ToldFiles.{file_cmp}
use Rattle.sasi_store.proofs.ToldFiles.{files_sorted, files_total}
use Rattle.sasi_store.proofs.show_files.sort_told.Goals as goal

pub returns : goal.returns
returns c =
    let rises = c.sort_unstable_by.ensures.sorted (λ x y. is_lt (file_cmp x y)) (ranks_by files_total (λ p. p))
    (always_returns_same _ (λ a r. is_lt r ≡ is_lt (file_cmp a.0.now a.1.0.now)) _ (λ a r f' k. search rules)) in
    files_sorted c.args.told.now.items c.sort_unstable_by.new.self.items c.sort_unstable_by.ensures.permutation rises
