use Rattle.sasi_termblocks.proofs.PackerLaws.{no_blocks}
use Rattle.sasi_termblocks.proofs.packer.Packer.new.Goals as goal

pub returns-clause-packs : goal.returns-clause-packs
returns-clause-packs c = no_blocks _ c.new.ensures.items c.new-2.ensures.items c.new-3.ensures.items c.new-4.ensures.items
