-- What a host in memory tells meets the laws.
use Rattle.std.proofs.Common.{subst}
use Rattle.sasi_host.specs.declared.mem_host.MemHost.{MemHost}
use Rattle.sasi_host.specs.View.{IsSound}
use Rattle.sasi_host.specs.Files.{FitsAll}
use Rattle.sasi_host.specs.CallLaws.{sound}
use Rattle.sasi_host.specs.Memory.{counts_of, memory_host, host_view}

-- its folder and its counts are those that its calls tell
pub host_sound : (h : MemHost) → IsSound (host_view (memory_host h))
host_sound h = sound h.disk.start h.disk.calls.items (counts_of (memory_host h)) (subst FitsAll h.disk.folder_is h.disk.fits)
