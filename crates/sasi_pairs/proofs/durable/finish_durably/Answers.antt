use Rattle.sasi_host.specs.Disk.{Within}
use Rattle.sasi_host.proofs.ChangeLaws.{then_same}
use Rattle.sasi_manifest.specs.ListedFiles.{is_name_of}
use Rattle.sasi_pairs.proofs.SealLaws.{all_durable}
use Rattle.sasi_pairs.proofs.durable.finish_durably.Goals as goal

pub returns-in_err-sync_names-clause-changes : goal.returns-in_err-sync_names-clause-changes
returns-in_err-sync_names-clause-changes g c =
    then_same (g.H.Host.view c.args.host.now) (g.H.Host.view c.write_files.new.host) (g.H.Host.view c.sync_names.new.host) (Within (is_name_of (record { number = c.args.writer.file.number; parts = c.args.parts.now })))
    c.write_files.ensures.changes c.sync_names.ensures.changes

pub returns-clause-changes : goal.returns-clause-changes
returns-clause-changes g c =
    then_same (g.H.Host.view c.args.host.now) (g.H.Host.view c.write_files.new.host) (g.H.Host.view c.sync_names.new.host) (Within (is_name_of (record { number = c.args.writer.file.number; parts = c.args.parts.now })))
    c.write_files.ensures.changes c.sync_names.ensures.changes

pub returns-clause-durable : goal.returns-clause-durable
returns-clause-durable g c content pairing =
    all_durable (g.H.Host.view c.args.host.now) (g.H.Host.view c.write_files.new.host) (g.H.Host.view c.sync_names.new.host) (record { writer = c.args.writer; indexes = c.args.builders.items }) c.args.parts.now content
    (g.met.H.Host.sound c.sync_names.new.host) c.sync_names.ensures.changes c.in_ok-sync_names.ensures.ok pairing c.in_ok-write_files.ensures.synced (c.in_ok-write_files.ensures.holds content pairing.writing)
    c.in_ok-write_files.ensures.indexes
