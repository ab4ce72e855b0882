-- Where no call is to fail, and memory can grow, none fails.
use Rattle.std.proofs.Common.{◌≡◌, ◌⊎◌, ◌<◌, ◌-◌, ◌^◌, ℕ, List, [], ⊎_elim, subst, arith, Contains}
use Rattle.sasi_host.specs.Memory.{MemoryHost, MemorySource, host_view, source_view}
use Rattle.sasi_host.specs.View.{CallFailed, EmitFailed, FailsOnlyAsTold, ReadFailed, ReadsOnlyFailAsTold, Rose, counted_by}
use Rattle.sasi_run.specs.InMemory.{FailsNowhere}

no_more : (before now : ℕ) → before < 2 ^ 64 - 1 → now ≡ before → Rose before now → ⊥
no_more before now few same rose = absurd (omega (arith, few, same, rose))

listed_nowhere : (listed : List ℕ) (call : ℕ) → listed ≡ [] → Contains listed call → ⊥
listed_nowhere listed call none is = let at = subst (λ (l : List ℕ). Contains l call) none is in absurd (omega (arith, at.1))

-- a call that is listed nowhere and comes before the stop
not_to_fail : (listed : List ℕ) (call stop calls emits : ℕ) → listed ≡ [] → stop ≡ 2 ^ 64 - 1 → Contains listed call ⊎ (stop < counted_by calls emits) → ⊥
not_to_fail listed call stop calls emits none end fails = ⊎_elim (listed_nowhere listed call none) (λ late. absurd (omega (arith, end, late))) fails

module _ (s t : MemorySource) (h k : MemoryHost) (nowhere : FailsNowhere s h) where
  pub no_read_fails : ReadsOnlyFailAsTold (source_view s) (source_view t) → Rose s.faults t.faults → ⊥
  no_read_fails told rose = ⊎_elim (λ same. no_more s.faults t.faults nowhere.few_reads same rose)
      (λ (f : ReadFailed (source_view s) (source_view t)). listed_nowhere s.failing f.read nowhere.reads f.to_fail) told.faults

  module _ (told : FailsOnlyAsTold (host_view h) (host_view k)) (grew : Rose h.refused k.refused → ⊥) where
    pub no_call_fails : Rose h.disk_faults k.disk_faults → ⊥
    no_call_fails rose = ⊎_elim (λ same. no_more h.disk_faults k.disk_faults nowhere.few_calls same rose)
        (λ why. ⊎_elim grew (λ (f : CallFailed (host_view h) (host_view k)). not_to_fail h.failing_disk f.calls h.stop f.calls f.emits nowhere.calls nowhere.stop f.to_fail) why) told.disk

    pub no_emit_fails : Rose h.out_faults k.out_faults → ⊥
    no_emit_fails rose = ⊎_elim (λ same. no_more h.out_faults k.out_faults nowhere.few_emits same rose)
        (λ why. ⊎_elim grew (λ (f : EmitFailed (host_view h) (host_view k)). not_to_fail h.failing_emits f.emits h.stop f.calls f.emits nowhere.emits nowhere.stop f.to_fail) why) told.out
