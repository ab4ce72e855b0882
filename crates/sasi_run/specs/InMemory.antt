-- A source and a host in memory of which no call is to fail.
use Rattle.std.specs.Prelude.{◌≡◌, ◌<◌, ◌-◌, ◌^◌, []}
use Rattle.sasi_host.specs.Memory.{MemoryHost, MemorySource}

-- no call is listed, the host doesn't stop, and no count of errors stands at its last value
pub record FailsNowhere (s : MemorySource) (h : MemoryHost) : Type 0 where
  pub reads : s.failing ≡ []
  pub calls : h.failing_disk ≡ []
  pub emits : h.failing_emits ≡ []
  pub stop : h.stop ≡ 2 ^ 64 - 1
  pub few_reads : s.faults < 2 ^ 64 - 1
  pub few_calls : h.disk_faults < 2 ^ 64 - 1
  pub few_emits : h.out_faults < 2 ^ 64 - 1
