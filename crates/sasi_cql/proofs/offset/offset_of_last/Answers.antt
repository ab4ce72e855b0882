use Rattle.sasi_cql.proofs.Placing.{size_fits}
use Rattle.sasi_cql.proofs.offset.offset_of_last.Goals as goal

pub overflow_sub-result : goal.overflow_sub-result
overflow_sub-result c = rw c.size_from.ensures (size_fits 0 c.saturating_sub-count.result c.args.text.now)
