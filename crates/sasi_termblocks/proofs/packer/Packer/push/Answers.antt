use Rattle.std.proofs.Common.{refl, rules}
use Rattle.sasi_termblocks.proofs.PackerLaws.{packs_added}
use Rattle.sasi_termblocks.proofs.packer.Packer.push.Goals as goal

pub returns-clause-ok : goal.returns-clause-ok
returns-clause-ok c cut packs =
    packs_added c.make_room.new.packer _ cut (record { term = c.args.term.now; bytes = c.args.bytes.now }) c.len.result c.len-start.result
    (c.in_ok-make_room.ensures.ok cut packs) refl c.in_ok-begin_block.ensures.ok c.in_ok-push.ensures.items (search rules) (search rules) c.in_ok-put_bytes.ensures.ok
