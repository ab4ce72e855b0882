use Rattle.std.proofs.Common.{ℕ, subst, sym}
use Rattle.sasi_host.specs.Disk.{Changes, Within}
use Rattle.sasi_host.proofs.ChangeLaws.{within_on}
use Rattle.sasi_datawrite.specs.Format.{data_bytes}
use Rattle.sasi_pairs.specs.SealedFiles.{AreAbsent, is_index_of}
use Rattle.sasi_manifest.specs.ListedFiles.{is_name_of}
use Rattle.sasi_pairs.proofs.IndexLaws.{data_change, index_change}
use Rattle.sasi_pairs.proofs.SealLaws.{absent_behind, data_holds, data_synced}
use Rattle.sasi_pairs.proofs.durable.write_files.Goals as goal

pub returns-in_err-written-clause-changes : goal.returns-in_err-written-clause-changes
returns-in_err-written-clause-changes g c =
    data_change (g.H.Host.view c.args.host.now) (g.H.Host.view c.finish.new.host) (record { number = c.args.writer.file.number; parts = c.args.parts.now }) c.args.writer.file c.requires.named c.finish.ensures.changes

pub write_indexes-requires-clause-absent : goal.write_indexes-requires-clause-absent
write_indexes-requires-clause-absent g c =
    subst (λ (n : ℕ). AreAbsent (g.H.Host.view c.finish.new.host) n c.args.parts.now) (sym c.in_ok-written.ensures.number)
    (absent_behind (g.H.Host.view c.args.host.now) (g.H.Host.view c.finish.new.host) c.args.writer.file.number c.args.parts.now c.args.writer.file c.requires.named c.finish.ensures.changes c.requires.absent)

pub returns-in_err-write_indexes-clause-changes : goal.returns-in_err-write_indexes-clause-changes
returns-in_err-write_indexes-clause-changes g c =
    within_on (is_name_of (record { number = c.args.writer.file.number; parts = c.args.parts.now })) (g.H.Host.view c.args.host.now) (g.H.Host.view c.finish.new.host) (g.H.Host.view c.write_indexes.new.host)
    (data_change (g.H.Host.view c.args.host.now) (g.H.Host.view c.finish.new.host) (record { number = c.args.writer.file.number; parts = c.args.parts.now }) c.args.writer.file c.requires.named c.finish.ensures.changes)
    (index_change (g.H.Host.view c.finish.new.host) (g.H.Host.view c.write_indexes.new.host) (record { number = c.args.writer.file.number; parts = c.args.parts.now })
    (subst (λ (n : ℕ). Changes (Within (is_index_of (record { number = n; parts = c.args.parts.now }))) (g.H.Host.view c.finish.new.host) (g.H.Host.view c.write_indexes.new.host)) c.in_ok-written.ensures.number c.write_indexes.ensures.changes))

pub returns-clause-holds : goal.returns-clause-holds
returns-clause-holds g c content writing =
    data_holds (g.H.Host.view c.finish.new.host) (g.H.Host.view c.write_indexes.new.host) c.args.writer.file.number c.args.parts.now c.args.writer.file c.requires.named
    (subst (λ (n : ℕ). Changes (Within (is_index_of (record { number = n; parts = c.args.parts.now }))) (g.H.Host.view c.finish.new.host) (g.H.Host.view c.write_indexes.new.host)) c.in_ok-written.ensures.number c.write_indexes.ensures.changes)
    (data_bytes c.args.writer.partitioner content) (c.in_ok-written.ensures.ok content writing)

pub returns-clause-synced : goal.returns-clause-synced
returns-clause-synced g c =
    data_synced (g.H.Host.view c.finish.new.host) (g.H.Host.view c.write_indexes.new.host) c.args.writer.file.number c.args.parts.now c.args.writer.file c.requires.named
    (subst (λ (n : ℕ). Changes (Within (is_index_of (record { number = n; parts = c.args.parts.now }))) (g.H.Host.view c.finish.new.host) (g.H.Host.view c.write_indexes.new.host)) c.in_ok-written.ensures.number c.write_indexes.ensures.changes)
    c.in_ok-written.ensures.synced

pub returns-clause-changes : goal.returns-clause-changes
returns-clause-changes g c =
    within_on (is_name_of (record { number = c.args.writer.file.number; parts = c.args.parts.now })) (g.H.Host.view c.args.host.now) (g.H.Host.view c.finish.new.host) (g.H.Host.view c.write_indexes.new.host)
    (data_change (g.H.Host.view c.args.host.now) (g.H.Host.view c.finish.new.host) (record { number = c.args.writer.file.number; parts = c.args.parts.now }) c.args.writer.file c.requires.named c.finish.ensures.changes)
    (index_change (g.H.Host.view c.finish.new.host) (g.H.Host.view c.write_indexes.new.host) (record { number = c.args.writer.file.number; parts = c.args.parts.now })
    (subst (λ (n : ℕ). Changes (Within (is_index_of (record { number = n; parts = c.args.parts.now }))) (g.H.Host.view c.finish.new.host) (g.H.Host.view c.write_indexes.new.host)) c.in_ok-written.ensures.number c.write_indexes.ensures.changes))
