use Rattle.sasi_formats.specs.Reader.{read}
use Rattle.sasi_termblocks.specs.Descents.{pointer_to}
use Rattle.sasi_termblocks.proofs.Faults.{fault_moved, fault_placed, pointer_fails, points_to}
use Rattle.sasi_termblocks.proofs.block.pointed_offset.Goals as goal

pub fault_at-requires-clause-placed : goal.fault_at-requires-clause-placed
fault_at-requires-clause-placed c =
    let format = pointer_to c.args.low c.args.high in
    fault_placed format c.args.block.now c.args.index c.reader_at.result c.in-Err.fault c.requires.whole c.reader_at.ensures (pointer_fails (read format c.reader_at.result) c.in-Err.fault c.in-Err.ensures)

pub returns-in-Ok-clause-ok : goal.returns-in-Ok-clause-ok
returns-in-Ok-clause-ok c = points_to c.args.low c.args.high c.args.block.now c.args.index c.reader_at.result c.read_pointer.new.reader c.in-Ok.place c.reader_at.ensures c.in-Ok.ensures

pub returns-in-Err-clause-seen : goal.returns-in-Err-clause-seen
returns-in-Err-clause-seen c =
    let format = pointer_to c.args.low c.args.high in
    fault_moved format c.args.block.now c.args.index c.reader_at.result c.in-Err.fault c.fault_at.result c.reader_at.ensures (pointer_fails (read format c.reader_at.result) c.in-Err.fault c.in-Err.ensures)
    c.fault_at.ensures.moved c.fault_at.ensures.near
