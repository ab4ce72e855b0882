use Rattle.std.proofs.Common.{◌+◌, ℕ, ap}
use Rattle.sasi_termblocks.proofs.Faults.{root_at}
use Rattle.sasi_termblocks.proofs.block.wrong_root.Goals as goal

pub returns-clause-is : goal.returns-clause-is
returns-clause-is c = root_at c.args.block.now _ _ c.min.result c.broken.result c.requires.whole (ap (λ (n : ℕ). n + (3 + c.args.size)) c.number_at.ensures.is) c.min.ensures c.broken.ensures.is
