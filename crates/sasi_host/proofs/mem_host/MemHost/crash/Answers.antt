use Rattle.std.proofs.Common.{◌≡◌, [], refl, rules, subst, sym}
use Rattle.sasi_host.specs.Disk.{IsCrashOf}
use Rattle.sasi_host.specs.Picks.{picked}
use Rattle.sasi_host.specs.Memory.{MemoryHost, memory_host, host_with, host_view, counts_of}
use Rattle.sasi_host.proofs.PickedImages.{crash_of}
use Rattle.sasi_host.proofs.mem_host.MemHost.crash.Goals as goal

pub returns-clause-image : goal.returns-clause-image
returns-clause-image c =
    let old = memory_host c.args.self.now in
    let is : memory_host c.on.result ≡ host_with (picked c.args.pick old.calls old.start) = search rules in
    subst (λ (h : MemoryHost). IsCrashOf (host_view old) (host_view h)) (sym is) (crash_of c.args.pick old.start _ old.calls [] (counts_of old) (counts_of (host_with (picked c.args.pick old.calls old.start))) refl refl)
