use Rattle.std.proofs.Common.{◌≤◌, arith, ap, length}
use Rattle.std.proofs.lemmas.List.{length-take-le}
use Rattle.sasi_termblocks.proofs.block_read.loaded_block.Goals as goal

pub slice_bounds-result-end : goal.slice_bounds-result-end
slice_bounds-result-end c =
    let le : 4096 ≤ length c.bytes_from.result.now = omega (arith, c.requires, ap length c.bytes_from.ensures) in
    omega (arith, le, length-take-le 4096 c.bytes_from.result.now le)

pub returns-clause-whole : goal.returns-clause-whole
returns-clause-whole c = length-take-le 4096 c.bytes_from.result.now (omega (arith, c.requires, ap length c.bytes_from.ensures))
