use Rattle.std.proofs.Common.{append_assoc, arith}
use Rattle.std.proofs.lemmas.Grind.{common_steps}
use Rattle.sasi_gated.specs.Format.{frame}
use Rattle.sasi_gated.proofs.record.framed.Goals as goal

pub returns : goal.returns
unfolding frame
returns c = grind (arith, common_steps, append_assoc)
