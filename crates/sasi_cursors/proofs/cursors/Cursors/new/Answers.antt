use Rattle.sasi_cursors.proofs.Seen.{once_seen}
use Rattle.sasi_cursors.proofs.cursors.Cursors.new.Goals as goal

pub invariant_of-result : goal.invariant_of-result
invariant_of-result g c = once_seen c.new.result.entries c.new.ensures.unique
