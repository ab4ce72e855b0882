use Rattle.sasi_merge.proofs.LeastKeys.{copied}
use Rattle.sasi_merge.proofs.least.merge_into.Goals as goal

pub returns-in_ok-copy-in-None : goal.returns-in_ok-copy-in-None
returns-in_ok-copy-in-None c = copied c.args.merged.now c.args.part.now c.in_ok-copy-in-None.field-0 c.in-None.is c.in_ok-copy-in-None.ensures.ok c.copy.ensures.normal
