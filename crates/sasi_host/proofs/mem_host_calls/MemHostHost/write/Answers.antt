use Rattle.std.proofs.Common.{rules, ◌≡◌, ◌≤◌, length, refl, sym, ◌∙◌, ap, subst}
use Rattle.std.specs.FinMap.{get, insert}
use Rattle.sasi_host.specs.declared.call.Call.TheVariants.{Wrote}
use Rattle.sasi_host.specs.Names.{Bytes, Folder}
use Rattle.sasi_host.specs.NameLaws.{insert_here}
use Rattle.sasi_host.specs.Disk.{InPlace, Torn, overlay}
use Rattle.sasi_host.specs.CallLaws.{some_same, stays_on}
use Rattle.sasi_host.specs.Memory.{memory_host}
use Rattle.sasi_host.proofs.Folders.{written_to, overwritten_there}
use Rattle.sasi_host.proofs.CallChanges.{err_from}
use Rattle.sasi_host.proofs.HostChanges.{failed_counts, refused_counts, folder_now, still_step, disk_changes, disk_moments, disk_folder}
use Rattle.sasi_host.proofs.mem_host_calls.MemHostHost.write.Goals as goal

pub returns-in_err-begin_disk-clause-changes : goal.returns-in_err-begin_disk-clause-changes
returns-in_err-begin_disk-clause-changes c =
    still_step (memory_host c.args.self.now) (memory_host c.begin_disk.new.self) c.args.file (InPlace (Torn c.args.at (length c.args.bytes.now)))
    (stays_on c.args.at (length c.args.bytes.now)) (search rules) (search rules)
    (failed_counts (memory_host c.args.self.now) (memory_host c.begin_disk.new.self) (search rules) (c.begin_disk.ensures.to_fail.0 (search rules)) c.begin_disk.ensures.few)

pub returns-then-is_err-clause-changes : goal.returns-then-is_err-clause-changes
returns-then-is_err-clause-changes c =
    let same = err_from c.write.result (search rules) c.write.ensures.err in
    still_step (memory_host c.args.self.now) (memory_host c.refuse_disk.new.self) c.args.file (InPlace (Torn c.args.at (length c.args.bytes.now)))
    (stays_on c.args.at (length c.args.bytes.now)) (search rules) (search rules)
    (refused_counts (memory_host c.args.self.now) (memory_host c.begin_disk.new.self) (memory_host c.refuse_disk.new.self) c.write.new.self.start c.write.new.self.calls.items (search rules) (search rules) c.begin_disk.ensures.few c.refuse_disk.ensures.few)

pub returns-clause-moments : goal.returns-clause-moments
returns-clause-moments c =
    disk_moments (Wrote c.args.file c.args.at c.args.bytes.now) (memory_host c.args.self.now) (memory_host c.begin_disk.new.self) c.write.new.self.start c.write.new.self.calls.items
    c.write.result (search rules) c.write.ensures.ok (search rules) (search rules)

pub returns-clause-changes : goal.returns-clause-changes
returns-clause-changes c =
    disk_changes (Wrote c.args.file c.args.at c.args.bytes.now) (memory_host c.args.self.now) (memory_host c.begin_disk.new.self) c.write.new.self.start c.write.new.self.calls.items
    c.write.result (search rules) c.write.ensures.ok (search rules) (search rules) refl c.begin_disk.ensures.few

pub returns-clause-ok : goal.returns-clause-ok
returns-clause-ok c = λ old there.
    let room = c.requires refl in
    let same : room.0 ≡ old = some_same _ _ (sym room.1 ∙ there) in
    let fits : c.args.at ≤ length old = subst (λ (l : Bytes). c.args.at ≤ length l) same room.2 in
    let before : Folder = folder_now (memory_host c.args.self.now) in
    ap (λ (f : Folder). get f c.args.file)
    (disk_folder (Wrote c.args.file c.args.at c.args.bytes.now) (memory_host c.args.self.now) (memory_host c.begin_disk.new.self) c.write.new.self.start c.write.new.self.calls.items
    c.write.result (search rules) c.write.ensures.ok (search rules) (search rules)
    ∙ written_to before c.args.file c.args.at c.args.bytes.now old there
    ∙ ap (λ (l : Bytes). insert before c.args.file l) (overwritten_there old c.args.at c.args.bytes.now fits))
    ∙ insert_here before c.args.file (overlay old c.args.at c.args.bytes.now)
