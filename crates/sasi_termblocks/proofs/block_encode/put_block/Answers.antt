use Rattle.std.proofs.Common.{arith, ◌+◌, ◌*◌, length}
use Rattle.sasi_termblocks.proofs.PackerLaws.{block_grown, block_put, zeros_left, zeros_length}
use Rattle.sasi_termblocks.proofs.block_encode.put_block.Goals as goal

pub returns-clause-ok : goal.returns-clause-ok
returns-clause-ok c items starts_are entries_are =
    block_put items c.args.starts.now c.args.entries.now c.args.out.now.items c.put_u16.new.out.items c.put_offsets.new.out.items c.put_bytes.new.out.items c.put_bytes-2.new.out.items _
    c.in_ok-put_u16.ensures.ok c.in_ok-put_offsets.ensures.ok c.in_ok-put_bytes.ensures.ok c.in_ok-put_bytes-2.ensures.ok
    starts_are entries_are (zeros_left items c.args.starts.now c.args.entries.now starts_are entries_are)

pub returns-clause-long : goal.returns-clause-long
returns-clause-long c =
    let zeros = zeros_length (2 + 2 * length c.args.starts.now + length c.args.entries.now) (omega (arith, c.requires.size)) in
    block_grown c.args.starts.now c.args.entries.now c.args.out.now.items c.put_u16.new.out.items c.put_offsets.new.out.items c.put_bytes.new.out.items c.put_bytes-2.new.out.items _
    c.in_ok-put_u16.ensures.ok c.in_ok-put_offsets.ensures.ok c.in_ok-put_bytes.ensures.ok c.in_ok-put_bytes-2.ensures.ok (omega (arith, zeros, c.requires.size))
