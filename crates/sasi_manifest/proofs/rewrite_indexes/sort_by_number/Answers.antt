use Rattle.std.proofs.Common.{rules}
use Rattle.sasi_manifest.proofs.Sorting.{sorted_by_number}
use Rattle.sasi_manifest.proofs.rewrite_indexes.sort_by_number.Goals as goal

pub returns : goal.returns
returns c = sorted_by_number _ _ _ c.sort_by_key.ensures.sorted c.sort_by_key.ensures.stable (λ a r q k. search rules)
