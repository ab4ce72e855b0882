use Rattle.sasi_termblocks.specs.Entries.{term}
use Rattle.sasi_termblocks.proofs.Faults.{fault_moved, got_entry}
use Rattle.sasi_termblocks.proofs.block.term_at.Goals as goal

pub returns-in-Ok-clause-ok : goal.returns-in-Ok-clause-ok
returns-in-Ok-clause-ok c = got_entry term c.args.block.now c.args.index c.reader_at.result c.read_term.new.reader c.in-Ok.found.now c.reader_at.ensures c.in-Ok.ensures

pub returns-in-Err-clause-seen : goal.returns-in-Err-clause-seen
returns-in-Err-clause-seen c =
    fault_moved term c.args.block.now c.args.index c.reader_at.result c.in-Err.fault c.fault_at.result c.reader_at.ensures c.in-Err.ensures c.fault_at.ensures.moved c.fault_at.ensures.near
