use Rattle.std.proofs.Common.{rules}
use Rattle.std.proofs.lemmas.List.Sorted.{answers_always}
use Rattle.sasi_cells.proofs.Partitions.{test}
use Rattle.sasi_cells.proofs.Positions.{searched}
use Rattle.sasi_cells.proofs.search.search.Goals as goal

pub returns : goal.returns
returns c =
    let facts = c.binary_search_by_key.ensures in
    let by_column = facts.position (λ entry. entry.0) (answers_always _ _ _ (λ f a r g called. search rules)) in
    searched c.args.cells.now c.args.column _ (test _ c.requires) facts.bound by_column
