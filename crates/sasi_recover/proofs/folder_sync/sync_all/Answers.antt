use Rattle.std.proofs.Common.{List, sym}
use Rattle.std.proofs.lemmas.List.Elements.{All-same}
use Rattle.sasi_host.specs.declared.name.FileName.{FileName}
use Rattle.sasi_host.specs.View.{View, IsThere}
use Rattle.sasi_host.specs.Disk.{Changes, Lists, Same}
use Rattle.sasi_host.proofs.ChangeLaws.{then_same}
use Rattle.sasi_recover.specs.Opening.{IsRecordSynced}
use Rattle.sasi_recover.proofs.SyncedFolder.{folder_same, lists_same, listed_durable, listed_there}
use Rattle.sasi_recover.proofs.folder_sync.sync_all.Goals as goal

pub returns-in_err-names-clause-changes : goal.returns-in_err-names-clause-changes
returns-in_err-names-clause-changes g c = then_same (g.H.Host.view c.args.host.now) (g.H.Host.view c.sync_folder.new.self)
    (g.H.Host.view c.list.new.self) Same c.sync_folder.ensures.changes c.list.ensures.changes

pub returns-in_err-sync_records-clause-changes : goal.returns-in_err-sync_records-clause-changes
returns-in_err-sync_records-clause-changes g c =
    then_same (g.H.Host.view c.args.host.now) (g.H.Host.view c.list.new.self) (g.H.Host.view c.sync_records.new.host) Same
    (then_same (g.H.Host.view c.args.host.now) (g.H.Host.view c.sync_folder.new.self) (g.H.Host.view c.list.new.self) Same
    c.sync_folder.ensures.changes c.list.ensures.changes) c.sync_records.ensures.changes

pub returns-clause-changes : goal.returns-clause-changes
returns-clause-changes g c =
    then_same (g.H.Host.view c.args.host.now) (g.H.Host.view c.list.new.self) (g.H.Host.view c.sync_records.new.host) Same
    (then_same (g.H.Host.view c.args.host.now) (g.H.Host.view c.sync_folder.new.self) (g.H.Host.view c.list.new.self) Same
    c.sync_folder.ensures.changes c.list.ensures.changes) c.sync_records.ensures.changes

pub sync_records-requires : goal.sync_records-requires
sync_records-requires g c = All-same (IsThere (g.H.Host.view c.list.new.self)) c.as_slice.result.now c.in_ok-names.names.items
    c.as_slice.ensures.value
    (listed_there (g.H.Host.view c.list.new.self) c.in_ok-names.names.items
    (lists_same (g.H.Host.view c.sync_folder.new.self) (g.H.Host.view c.list.new.self) c.list.ensures.changes c.in_ok-names.names.items
    c.in_ok-names.ensures.ok))

lists_now : (a b c : View) (names : List FileName) → Changes Same a b → Changes Same b c → Lists a names → Lists c names
lists_now a b c names first second lists = lists_same b c second names (lists_same a b first names lists)

pub returns-clause-names : goal.returns-clause-names
returns-clause-names g c = lists_now (g.H.Host.view c.sync_folder.new.self) (g.H.Host.view c.list.new.self)
    (g.H.Host.view c.sync_records.new.host) c.in_ok-names.names.items c.list.ensures.changes c.sync_records.ensures.changes
    c.in_ok-names.ensures.ok

pub returns-clause-folder_durable : goal.returns-clause-folder_durable
returns-clause-folder_durable g c =
    let now = g.H.Host.view c.sync_records.new.host in
    listed_durable now c.in_ok-names.names.items (g.met.H.Host.sound c.sync_records.new.host)
    (lists_now (g.H.Host.view c.sync_folder.new.self) (g.H.Host.view c.list.new.self) now c.in_ok-names.names.items c.list.ensures.changes
    c.sync_records.ensures.changes c.in_ok-names.ensures.ok)
    (folder_same (g.H.Host.view c.list.new.self) now c.sync_records.ensures.changes
    (folder_same (g.H.Host.view c.sync_folder.new.self) (g.H.Host.view c.list.new.self) c.list.ensures.changes
    c.in_ok-sync_folder.ensures.ok))
    (All-same (IsRecordSynced now) c.in_ok-names.names.items c.as_slice.result.now (sym c.as_slice.ensures.value) c.in_ok-sync_records.ensures.synced)
