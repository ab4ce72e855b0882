use Rattle.std.proofs.Common.{◌∙◌}
use Rattle.sasi_termblocks.proofs.BlockLaws.{number_is}
use Rattle.sasi_termblocks.proofs.block.number_at.Goals as goal

pub returns-clause-is : goal.returns-clause-is
returns-clause-is c = number_is c.args.block.now c.args.at c.from.result (c.from.ensures ∙ c.from_be_bytes.ensures)
