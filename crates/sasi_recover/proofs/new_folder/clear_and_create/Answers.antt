use Rattle.std.proofs.Common.{refl, []}
use Rattle.sasi_host.proofs.ContentLaws.{absent_where, contents_same, told_after}
use Rattle.sasi_recover.specs.Deletion.{Deletes, keeps}
use Rattle.sasi_recover.specs.NewFolder.{IsFreshOrNew}
use Rattle.sasi_recover.specs.OpenedFolder.{AnyFolderChange}
use Rattle.sasi_recover.specs.declared.unlisted_files.Keep.TheVariants.{Nothing}
use Rattle.sasi_host.specs.Disk.{Same}
use Rattle.sasi_host.proofs.ChangeLaws.{then_each_moment, then_same}
use Rattle.sasi_recover.proofs.FirstStore.{deleted_moments, deletes_any_change, serves_later, any_change_on, synced_fresh, synced_moments}
use Rattle.sasi_recover.proofs.new_folder.clear_and_create.Goals as goal

pub returns-in_err-delete_unlisted-clause-any_moment : goal.returns-in_err-delete_unlisted-clause-any_moment
returns-in_err-delete_unlisted-clause-any_moment g c fresh = deleted_moments (g.H.Host.view c.args.host.now)
    (g.H.Host.view c.delete_unlisted.new.host) c.args.partitioner (keeps Nothing []) (g.met.H.Host.sound c.args.host.now)
    c.delete_unlisted.ensures.changes fresh

pub returns-in_err-delete_unlisted-clause-changes : goal.returns-in_err-delete_unlisted-clause-changes
returns-in_err-delete_unlisted-clause-changes g c = deletes_any_change (g.H.Host.view c.args.host.now) (g.H.Host.view c.delete_unlisted.new.host)
    (keeps Nothing []) c.delete_unlisted.ensures.changes

pub returns-in_err-sync_folder-clause-any_moment : goal.returns-in_err-sync_folder-clause-any_moment
returns-in_err-sync_folder-clause-any_moment g c fresh =
    synced_moments (g.H.Host.view c.args.host.now) (g.H.Host.view c.delete_unlisted.new.host) (g.H.Host.view c.sync_folder.new.self)
    c.args.partitioner (keeps Nothing []) (g.met.H.Host.sound c.args.host.now) (g.met.H.Host.sound c.delete_unlisted.new.host)
    c.delete_unlisted.ensures.changes c.sync_folder.ensures.changes fresh

pub returns-in_err-sync_folder-clause-changes : goal.returns-in_err-sync_folder-clause-changes
returns-in_err-sync_folder-clause-changes g c =
    then_same (g.H.Host.view c.args.host.now) (g.H.Host.view c.delete_unlisted.new.host) (g.H.Host.view c.sync_folder.new.self) AnyFolderChange
    (deletes_any_change (g.H.Host.view c.args.host.now) (g.H.Host.view c.delete_unlisted.new.host) (keeps Nothing [])
    c.delete_unlisted.ensures.changes) c.sync_folder.ensures.changes

pub create_files-requires-clause-none : goal.create_files-requires-clause-none
create_files-requires-clause-none g c name =
    absent_where (g.H.Host.view c.delete_unlisted.new.host) (g.H.Host.view c.sync_folder.new.self) name
    (contents_same (g.H.Host.view c.delete_unlisted.new.host) (g.H.Host.view c.sync_folder.new.self) name c.sync_folder.ensures.changes)
    (c.in_ok-delete_unlisted.ensures.gone name refl)

pub returns-clause-any_moment : goal.returns-clause-any_moment
returns-clause-any_moment g c fresh =
    let a = g.H.Host.view c.args.host.now in
    let b = g.H.Host.view c.delete_unlisted.new.host in
    let d = g.H.Host.view c.sync_folder.new.self in
    let sound_a = g.met.H.Host.sound c.args.host.now in
    let sound_b = g.met.H.Host.sound c.delete_unlisted.new.host in
    then_each_moment a d (g.H.Host.view c.create_files.new.host) (λ y. IsFreshOrNew c.args.partitioner y y)
    (synced_moments a b d c.args.partitioner (keeps Nothing []) sound_a sound_b c.delete_unlisted.ensures.changes
    c.sync_folder.ensures.changes fresh)
    (c.create_files.ensures.any_moment
    (synced_fresh a b d c.args.partitioner (keeps Nothing []) sound_a sound_b c.delete_unlisted.ensures.changes c.sync_folder.ensures.changes
    fresh))

pub returns-clause-changes : goal.returns-clause-changes
returns-clause-changes g c =
    any_change_on (g.H.Host.view c.args.host.now) (g.H.Host.view c.sync_folder.new.self) (g.H.Host.view c.create_files.new.host)
    (then_same (g.H.Host.view c.args.host.now) (g.H.Host.view c.delete_unlisted.new.host) (g.H.Host.view c.sync_folder.new.self) AnyFolderChange
    (deletes_any_change (g.H.Host.view c.args.host.now) (g.H.Host.view c.delete_unlisted.new.host) (keeps Nothing [])
    c.delete_unlisted.ensures.changes) c.sync_folder.ensures.changes)
    c.create_files.ensures.changes

pub returns-clause-serves : goal.returns-clause-serves
returns-clause-serves g c =
    let a = g.H.Host.view c.args.host.now in
    let b = g.H.Host.view c.delete_unlisted.new.host in
    let d = g.H.Host.view c.sync_folder.new.self in
    serves_later c.args.partitioner c.create_files.result d (g.H.Host.view c.create_files.new.host) a c.create_files.ensures.serves
    (λ told. told_after Same b d c.sync_folder.ensures.changes (told_after (Deletes (keeps Nothing [])) a b c.delete_unlisted.ensures.changes told))
    (λ fresh. synced_fresh a b d c.args.partitioner (keeps Nothing []) (g.met.H.Host.sound c.args.host.now)
    (g.met.H.Host.sound c.delete_unlisted.new.host) c.delete_unlisted.ensures.changes c.sync_folder.ensures.changes fresh)
