use Rattle.sasi_indexwrite.proofs.Fillings.{none_up_to}
use Rattle.sasi_indexbench.proofs.filled.lowest.Goals as goal

pub returns : goal.returns
returns c = none_up_to _
