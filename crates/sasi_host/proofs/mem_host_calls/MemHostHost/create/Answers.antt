use Rattle.std.proofs.Common.{rules, [], refl, ◌∙◌, ap, inl}
use Rattle.std.specs.FinMap.{get}
use Rattle.sasi_host.specs.declared.call.Call.TheVariants.{Created}
use Rattle.sasi_host.specs.Names.{Folder}
use Rattle.sasi_host.specs.NameLaws.{insert_here}
use Rattle.sasi_host.specs.Disk.{MaybeCreated}
use Rattle.sasi_host.specs.Memory.{memory_host}
use Rattle.sasi_host.proofs.CallChanges.{err_from}
use Rattle.sasi_host.proofs.HostChanges.{failed_counts, refused_counts, folder_now, still_step, disk_changes, disk_moments, disk_folder}
use Rattle.sasi_host.proofs.mem_host_calls.MemHostHost.create.Goals as goal

pub returns-in_err-begin_disk-clause-changes : goal.returns-in_err-begin_disk-clause-changes
returns-in_err-begin_disk-clause-changes c =
    still_step (memory_host c.args.self.now) (memory_host c.begin_disk.new.self) c.args.file MaybeCreated (λ o. inl refl) (search rules) (search rules)
    (failed_counts (memory_host c.args.self.now) (memory_host c.begin_disk.new.self) (search rules) (c.begin_disk.ensures.to_fail.0 (search rules)) c.begin_disk.ensures.few)

pub returns-then-is_err-clause-changes : goal.returns-then-is_err-clause-changes
returns-then-is_err-clause-changes c =
    let same = err_from c.create.result (search rules) c.create.ensures.err in
    still_step (memory_host c.args.self.now) (memory_host c.refuse_disk.new.self) c.args.file MaybeCreated (λ o. inl refl) (search rules) (search rules)
    (refused_counts (memory_host c.args.self.now) (memory_host c.begin_disk.new.self) (memory_host c.refuse_disk.new.self) c.create.new.self.start c.create.new.self.calls.items (search rules) (search rules) c.begin_disk.ensures.few c.refuse_disk.ensures.few)

pub returns-clause-moments : goal.returns-clause-moments
returns-clause-moments c =
    disk_moments (Created c.args.file) (memory_host c.args.self.now) (memory_host c.begin_disk.new.self) c.create.new.self.start c.create.new.self.calls.items
    c.create.result (search rules) c.create.ensures.ok (search rules) (search rules)

pub returns-clause-changes : goal.returns-clause-changes
returns-clause-changes c =
    disk_changes (Created c.args.file) (memory_host c.args.self.now) (memory_host c.begin_disk.new.self) c.create.new.self.start c.create.new.self.calls.items
    c.create.result (search rules) c.create.ensures.ok (search rules) (search rules) refl c.begin_disk.ensures.few

pub returns-clause-ok : goal.returns-clause-ok
returns-clause-ok c =
    λ told. ap (λ (f : Folder). get f c.args.file)
    (disk_folder (Created c.args.file) (memory_host c.args.self.now) (memory_host c.begin_disk.new.self) c.create.new.self.start c.create.new.self.calls.items
    c.create.result (search rules) c.create.ensures.ok (search rules) (search rules))
    ∙ insert_here (folder_now (memory_host c.args.self.now)) c.args.file []
