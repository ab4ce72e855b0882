use Rattle.std.proofs.Common.{rules, refl}
use Rattle.sasi_host.specs.Disk.{Same}
use Rattle.sasi_host.specs.Memory.{memory_host}
use Rattle.sasi_host.proofs.HostChanges.{begun_counts, failed_counts, IsStill, still_changes}
use Rattle.sasi_host.proofs.mem_host_calls.MemHostHost.size.Goals as goal

pub returns-in_err-begin_disk-clause-changes : goal.returns-in_err-begin_disk-clause-changes
returns-in_err-begin_disk-clause-changes c =
    let is : IsStill (memory_host c.args.self.now) (memory_host c.begin_disk.new.self) = record { start = search rules; calls = search rules } in
    still_changes (memory_host c.args.self.now) (memory_host c.begin_disk.new.self) Same (λ x. refl) is
    (failed_counts (memory_host c.args.self.now) (memory_host c.begin_disk.new.self) (search rules) (c.begin_disk.ensures.to_fail.0 (search rules)) c.begin_disk.ensures.few)

pub returns-clause-changes : goal.returns-clause-changes
returns-clause-changes c =
    let is : IsStill (memory_host c.args.self.now) (memory_host c.begin_disk.new.self) = record { start = search rules; calls = search rules } in
    still_changes (memory_host c.args.self.now) (memory_host c.begin_disk.new.self) Same (λ x. refl) is (begun_counts (memory_host c.args.self.now) (memory_host c.begin_disk.new.self) (search rules) c.begin_disk.ensures.few)
