use Rattle.std.proofs.Common.{arith}
use Rattle.sasi_termblocks.proofs.PackerLaws.{packs_kept, packs_made}
use Rattle.sasi_termblocks.proofs.packer.make_room.Goals as goal

pub returns-then-size-bytes-le-BLOCK_BYTES-clause-ok : goal.returns-then-size-bytes-le-BLOCK_BYTES-clause-ok
returns-then-size-bytes-le-BLOCK_BYTES-clause-ok c cut packs = packs_kept _ cut c.args.bytes packs (omega arith)

pub returns-clause-ok : goal.returns-clause-ok
returns-clause-ok c cut packs = packs_made c.args.packer.now _ cut c.args.bytes c.requires.short packs (omega arith) c.in_ok-close.ensures.ok
