use Rattle.std.proofs.Common.{◌∙◌}
use Rattle.sasi_layout.specs.Flushed.{contents_of}
use Rattle.sasi_pairs.specs.Gathered.{defs_of}
use Rattle.sasi_tables.specs.Held.{merged_in}
use Rattle.sasi_tables.proofs.MapWriting.{some_pairs}
use Rattle.sasi_tables.proofs.SealedMaps.{absent_on, all_defined, data_within, files_within, sealed_written}
use Rattle.sasi_tables.proofs.flush_file.write_all.Goals as goal

pub returns-in_err-write_partitions-clause-changes : goal.returns-in_err-write_partitions-clause-changes
returns-in_err-write_partitions-clause-changes g c =
    data_within c.args.files.writer.file c.args.files.writer.file.number c.args.parts.now c.requires.named (g.H.Host.view c.args.host.now) (g.H.Host.view c.write_partitions.new.host) c.write_partitions.ensures.changes

pub seal-requires-clause-some : goal.seal-requires-clause-some
seal-requires-clause-some g c = some_pairs (g.H.Host.view c.write_partitions.new.host) c.write_partitions.new.files (merged_in c.args.maps.now c.args.unflushed.now) c.requires.some c.in_ok-write_partitions.ensures.written

pub seal-requires-clause-defined : goal.seal-requires-clause-defined
seal-requires-clause-defined g c = all_defined c.write_partitions.new.files.indexes (defs_of c.args.files.indexes) c.args.parts.now c.write_partitions.ensures.defs c.requires.indexes.numbered

pub seal-requires-clause-rising : goal.seal-requires-clause-rising
seal-requires-clause-rising g c = c.requires.indexes.rising

pub seal-requires-clause-absent : goal.seal-requires-clause-absent
seal-requires-clause-absent g c =
    absent_on (g.H.Host.view c.args.host.now) (g.H.Host.view c.write_partitions.new.host) c.args.files.writer.file c.write_partitions.new.files.writer.file c.args.files.writer.file.number c.args.parts.now c.requires.named
    c.write_partitions.ensures.file c.write_partitions.ensures.changes c.requires.absent

pub returns-clause-changes : goal.returns-clause-changes
returns-clause-changes g c =
    files_within c.args.files.writer.file c.args.files.writer.file.number c.args.parts.now c.requires.named (g.H.Host.view c.args.host.now) (g.H.Host.view c.write_partitions.new.host) (g.H.Host.view c.seal.new.host)
    c.write_partitions.new.files.writer.file c.write_partitions.ensures.file c.write_partitions.ensures.changes c.seal.ensures.changes

pub returns-clause-written : goal.returns-clause-written
returns-clause-written g c =
    let done = c.write_partitions.ensures in
    sealed_written c.seal.result (g.H.Host.view c.write_partitions.new.host) (g.H.Host.view c.seal.new.host) c.write_partitions.new.files c.args.files.writer.file.number c.args.files.writer.partitioner (defs_of c.args.files.indexes) c.args.parts.now
    (contents_of (merged_in c.args.maps.now c.args.unflushed.now)) (done.file ∙ c.requires.named) done.partitioner done.defs c.in_ok-write_partitions.ensures.written c.seal.ensures.durable
