use Rattle.std.proofs.Common.{rules, is_some, refl, sym, ◌∙◌, ap}
use Rattle.std.specs.FinMap.{get}
use Rattle.sasi_host.specs.declared.call.Call.TheVariants.{FolderSynced}
use Rattle.sasi_host.specs.Names.{Folder}
use Rattle.sasi_host.specs.Disk.{Same}
use Rattle.sasi_host.proofs.ChangeLaws.{changes_as}
use Rattle.sasi_host.specs.Calls.{Effect}
use Rattle.sasi_host.specs.Memory.{memory_host}
use Rattle.sasi_host.proofs.CallChanges.{err_from}
use Rattle.sasi_host.proofs.HostChanges.{failed_counts, refused_counts, folder_now, still_changes, disk_changes, disk_moments, disk_folder, disk_image}
use Rattle.sasi_host.proofs.mem_host_calls.MemHostHost.sync_folder.Goals as goal

pub returns-in_err-begin_disk-clause-changes : goal.returns-in_err-begin_disk-clause-changes
returns-in_err-begin_disk-clause-changes c =
    still_changes (memory_host c.args.self.now) (memory_host c.begin_disk.new.self) Same (λ x. refl) (record { start = search rules; calls = search rules })
    (failed_counts (memory_host c.args.self.now) (memory_host c.begin_disk.new.self) (search rules) (c.begin_disk.ensures.to_fail.0 (search rules)) c.begin_disk.ensures.few)

pub returns-then-is_err-clause-changes : goal.returns-then-is_err-clause-changes
returns-then-is_err-clause-changes c =
    let same = err_from c.sync_folder.result (search rules) c.sync_folder.ensures.err in
    still_changes (memory_host c.args.self.now) (memory_host c.refuse_disk.new.self) Same (λ x. refl) (record { start = search rules; calls = search rules })
    (refused_counts (memory_host c.args.self.now) (memory_host c.begin_disk.new.self) (memory_host c.refuse_disk.new.self) c.sync_folder.new.self.start c.sync_folder.new.self.calls.items (search rules) (search rules) c.begin_disk.ensures.few c.refuse_disk.ensures.few)

pub returns-clause-moments : goal.returns-clause-moments
returns-clause-moments c =
    disk_moments FolderSynced (memory_host c.args.self.now) (memory_host c.begin_disk.new.self) c.sync_folder.new.self.start c.sync_folder.new.self.calls.items
    c.sync_folder.result (search rules) c.sync_folder.ensures.ok (search rules) (search rules)

pub returns-clause-changes : goal.returns-clause-changes
returns-clause-changes c =
    changes_as _ _ (Effect FolderSynced (folder_now (memory_host c.args.self.now))) Same
    (disk_changes FolderSynced (memory_host c.args.self.now) (memory_host c.begin_disk.new.self) c.sync_folder.new.self.start c.sync_folder.new.self.calls.items
    c.sync_folder.result (search rules) c.sync_folder.ensures.ok (search rules) (search rules) refl c.begin_disk.ensures.few)
    (λ x y effect. effect.0)

pub returns-clause-ok : goal.returns-clause-ok
returns-clause-ok c = λ folder name told now.
    let effect = disk_image FolderSynced (memory_host c.args.self.now) (memory_host c.begin_disk.new.self) c.sync_folder.new.self.start c.sync_folder.new.self.calls.items
    c.sync_folder.result (search rules) c.sync_folder.ensures.ok (search rules) (search rules) folder now in
    effect.2.1 name ∙ sym (ap (λ (f : Folder). is_some (get f name))
    (disk_folder FolderSynced (memory_host c.args.self.now) (memory_host c.begin_disk.new.self) c.sync_folder.new.self.start c.sync_folder.new.self.calls.items
    c.sync_folder.result (search rules) c.sync_folder.ensures.ok (search rules) (search rules)))
