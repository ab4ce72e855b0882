use Rattle.std.proofs.Common.{◌∙◌}
use Rattle.sasi_indexread.proofs.AskedLaws.{up_to}
use Rattle.sasi_indexread.proofs.asked.is_up_to.Goals as goal

pub returns : goal.returns
returns c = c.le.ensures ∙ up_to c.args.first.now c.args.second.now
