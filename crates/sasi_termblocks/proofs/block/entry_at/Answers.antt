use Rattle.sasi_termblocks.specs.Entries.{term_entry}
use Rattle.sasi_termblocks.proofs.Faults.{fault_moved, fault_placed, got_entry}
use Rattle.sasi_termblocks.proofs.block.entry_at.Goals as goal

pub fault_at-requires-clause-placed : goal.fault_at-requires-clause-placed
fault_at-requires-clause-placed c = fault_placed term_entry c.args.block.now c.args.index c.reader_at.result c.in-Err.fault c.requires.whole c.reader_at.ensures c.in-Err.ensures

pub returns-in-Ok-clause-ok : goal.returns-in-Ok-clause-ok
returns-in-Ok-clause-ok c = got_entry term_entry c.args.block.now c.args.index c.reader_at.result c.read_entry.new.reader c.in-Ok.found c.reader_at.ensures c.in-Ok.ensures

pub returns-in-Err-clause-seen : goal.returns-in-Err-clause-seen
returns-in-Err-clause-seen c =
    fault_moved term_entry c.args.block.now c.args.index c.reader_at.result c.in-Err.fault c.fault_at.result c.reader_at.ensures c.in-Err.ensures c.fault_at.ensures.moved c.fault_at.ensures.near
