use Rattle.sasi_layout.specs.Flushed.{contents_of}
use Rattle.sasi_tables.specs.Held.{merged_in}
use Rattle.sasi_tables.proofs.FlushedFiles.{data_made, log_keeps, segment_absent, segment_made, still_written, written_there}
use Rattle.sasi_tables.proofs.flush.make_files.Goals as goal

pub returns-in_err-sealed-clause-changes : goal.returns-in_err-sealed-clause-changes
returns-in_err-sealed-clause-changes g c = data_made c.args.numbers c.args.parts.now (g.H.Host.view c.args.host.now) (g.H.Host.view c.write_file.new.host) c.write_file.ensures.changes

pub create-requires : goal.create-requires
create-requires g c = segment_absent c.args.numbers c.args.parts.now (g.H.Host.view c.args.host.now) (g.H.Host.view c.write_file.new.host) c.write_file.ensures.changes c.requires.segment

pub returns-in_err-log-clause-changes : goal.returns-in_err-log-clause-changes
returns-in_err-log-clause-changes g c =
    segment_made c.args.numbers c.args.parts.now (g.H.Host.view c.args.host.now) (g.H.Host.view c.write_file.new.host) (g.H.Host.view c.create.new.host) c.write_file.ensures.changes c.create.ensures.changes

pub returns-clause-changes : goal.returns-clause-changes
returns-clause-changes g c =
    segment_made c.args.numbers c.args.parts.now (g.H.Host.view c.args.host.now) (g.H.Host.view c.write_file.new.host) (g.H.Host.view c.create.new.host) c.write_file.ensures.changes c.create.ensures.changes

pub returns-clause-written : goal.returns-clause-written
returns-clause-written g c =
    still_written c.args.numbers c.args.partitioner c.args.defs.now (contents_of (merged_in c.args.maps.now c.args.unflushed.now)) (g.H.Host.view c.write_file.new.host) (g.H.Host.view c.create.new.host) c.create.ensures.changes c.args.parts.now
    c.in_ok-sealed.ensures.written

pub returns-clause-there : goal.returns-clause-there
returns-clause-there g c =
    log_keeps c.args.numbers c.args.parts.now (g.H.Host.view c.write_file.new.host) (g.H.Host.view c.create.new.host) c.create.ensures.changes
    (written_there c.args.numbers c.args.parts.now c.args.partitioner c.args.defs.now (contents_of (merged_in c.args.maps.now c.args.unflushed.now)) (g.H.Host.view c.write_file.new.host) (g.met.H.Host.sound c.write_file.new.host) c.in_ok-sealed.ensures.written)
