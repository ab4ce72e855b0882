use Rattle.std.proofs.Common.{length}
use Rattle.std.proofs.lemmas.Result.{on_ok_weaker}
use Rattle.sasi_host.specs.Disk.{FileChange, InPlace, Torn, AnyChange, MaybeCreated}
use Rattle.sasi_host.proofs.ChangeLaws.{then_same, touches, touches_on}
use Rattle.sasi_host.proofs.ContentLaws.{holds_first, holds_same}
use Rattle.sasi_host.proofs.Durability.{file_durable_new}
use Rattle.sasi_host.proofs.durable.make_file.Goals as goal

pub returns-in_err-create-clause-changes : goal.returns-in_err-create-clause-changes
returns-in_err-create-clause-changes g c = touches _ _ c.args.file MaybeCreated c.create.ensures.changes

pub returns-in_err-write_durably-clause-changes : goal.returns-in_err-write_durably-clause-changes
returns-in_err-write_durably-clause-changes g c =
    touches_on _ _ _ c.args.file (touches _ _ c.args.file MaybeCreated c.create.ensures.changes) (touches _ _ c.args.file (InPlace (Torn 0 (length c.args.bytes.now))) c.write_durably.ensures.changes)

pub returns-clause-changes : goal.returns-clause-changes
returns-clause-changes g c =
    then_same _ _ _ (FileChange c.args.file AnyChange) (touches_on _ _ _ c.args.file (touches _ _ c.args.file MaybeCreated c.create.ensures.changes)
    (touches _ _ c.args.file (InPlace (Torn 0 (length c.args.bytes.now))) c.write_durably.ensures.changes)) c.sync_folder.ensures.changes

pub returns-clause-reads : goal.returns-clause-reads
returns-clause-reads g c =
    on_ok_weaker c.sync_folder.result (λ synced. holds_same (g.H.Host.view c.write_durably.new.host) (g.H.Host.view c.sync_folder.new.self) c.args.file c.args.bytes.now c.sync_folder.ensures.changes
    (holds_first (g.H.Host.view c.create.new.self) (g.H.Host.view c.write_durably.new.host)
    (FileChange c.args.file (InPlace (Torn 0 (length c.args.bytes.now)))) c.args.file c.args.bytes.now c.write_durably.ensures.changes
    c.in_ok-create.ensures.ok c.in_ok-write_durably.ensures.reads)) c.sync_folder.ensures.ok

pub returns-clause-ok : goal.returns-clause-ok
returns-clause-ok g c =
    on_ok_weaker c.sync_folder.result (λ synced. file_durable_new (g.H.Host.view c.write_durably.new.host)
    (g.H.Host.view c.sync_folder.new.self) c.args.file c.args.bytes.now
    (g.met.H.Host.sound c.sync_folder.new.self) c.sync_folder.ensures.changes c.in_ok-write_durably.ensures.synced synced
    (holds_same (g.H.Host.view c.write_durably.new.host) (g.H.Host.view c.sync_folder.new.self) c.args.file c.args.bytes.now c.sync_folder.ensures.changes
    (holds_first (g.H.Host.view c.create.new.self) (g.H.Host.view c.write_durably.new.host)
    (FileChange c.args.file (InPlace (Torn 0 (length c.args.bytes.now)))) c.args.file c.args.bytes.now c.write_durably.ensures.changes
    c.in_ok-create.ensures.ok c.in_ok-write_durably.ensures.reads))) c.sync_folder.ensures.ok
