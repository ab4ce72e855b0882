use Rattle.sasi_formats.specs.Reader.{read}
use Rattle.sasi_termblocks.specs.Entries.{term_entry}
use Rattle.sasi_termblocks.proofs.Faults.{fault_moved, fault_placed, size_got, skip_fails}
use Rattle.sasi_termblocks.proofs.block.size_of.Goals as goal

pub fault_at-requires-clause-placed : goal.fault_at-requires-clause-placed
fault_at-requires-clause-placed c =
    fault_placed term_entry c.args.block.now c.args.index c.reader_at-reader.result c.in-Err.fault c.requires.whole c.reader_at-reader.ensures (skip_fails (read term_entry c.reader_at-reader.result) c.in-Err.fault c.in-Err.ensures)

pub returns-in-Ok-clause-ok : goal.returns-in-Ok-clause-ok
returns-in-Ok-clause-ok c = size_got c.args.block.now c.args.index c.reader_at-reader.result c.skip_entry.new.reader c.offset.result c.reader_at-reader.ensures c.in-Ok.ensures c.offset.ensures

pub returns-in-Err-clause-seen : goal.returns-in-Err-clause-seen
returns-in-Err-clause-seen c =
    fault_moved term_entry c.args.block.now c.args.index c.reader_at-reader.result c.in-Err.fault c.fault_at.result c.reader_at-reader.ensures (skip_fails (read term_entry c.reader_at-reader.result) c.in-Err.fault c.in-Err.ensures)
    c.fault_at.ensures.moved c.fault_at.ensures.near
