-- What each call of a host of real files counts.
use Rattle.std.proofs.Common.{◌≡◌, ◌≤◌, ◌-◌, ◌^◌, ◌∙◌, ℕ, List, Bool, true, false, None, Ok, Err, Result, is_err, refl, sym, ap, subst}
use Rattle.sasi_host.specs.declared.fault.HostFault.{HostFault}
use Rattle.sasi_host.specs.declared.fault.HostFault.TheVariants as host_fault
use Rattle.sasi_host.specs.Disk.{Changes, Relation}
use Rattle.sasi_host.proofs.OpaqueLaws.{opaque_changes, opaque_emits_untold}
use Rattle.sasi_host.specs.View.{DiskCauses, Emits, FailedAtLast, IsCall, IsEmit, ListCauses, OutCauses, ReadCauses, counted, has_failed}
use Rattle.sasi_filehost.specs.HostCounts.{after_call, after_emit, counts_of, view_of}
use Rattle.sasi_filehost.specs.declared.tally.Tally.{Tally}

-- a file call, which may be a counted read, changes nothing that it tells but the counts
pub call_changes : (S : Relation) (failed : Bool) (t u : Tally) (n : ℕ) → u ≡ after_call failed (record t { reads = n }) → t.calls ≤ 2 ^ 64 - 1 → Changes S (view_of t) (view_of u)
call_changes S failed t u n is few =
    opaque_changes S None (counts_of t) (counts_of u) few (ap (λ (v : Tally). v.calls) is) (ap (λ (v : Tally). v.emits) is) refl (ap (λ (v : Tally). v.out_faults) is)

pub is_call : (failed : Bool) (t u : Tally) (n : ℕ) → u ≡ after_call failed (record t { reads = n }) → IsCall (view_of t) (view_of u) failed
is_call failed t u n is = record { calls = ap (λ (v : Tally). v.calls) is; last = ap (λ (v : Tally). v.failed_last) is }

-- a file call that failed is the last one
call_failed : (t u : Tally) → u ≡ after_call true t → FailedAtLast t.disk_faults u.disk_faults u.failed_last
call_failed t u is = subst (λ (v : Tally). FailedAtLast t.disk_faults v.disk_faults v.failed_last) (sym is) (record { once = refl; is_last = refl })

pub disk_causes : {T E : Type 0} (t u : Tally) (result : Result T E) → u ≡ after_call (is_err result) t → t.disk_faults ≤ u.disk_faults
    → DiskCauses (view_of t) (view_of u) result
disk_causes t u (Ok x) is later = record { disk = later; out = ap (λ (v : Tally). v.out_faults) is; reads = ap (λ (v : Tally). v.reads) is; ok = ap (λ (v : Tally). v.disk_faults) is; failed = tt }
disk_causes t u (Err e) is later = record { disk = later; out = ap (λ (v : Tally). v.out_faults) is; reads = ap (λ (v : Tally). v.reads) is; ok = tt; failed = call_failed t u is }

-- what a file call that reads nothing promises of the counts
pub record IsCounted {T E : Type 0} (S : Relation) (t u : Tally) (result : Result T E) : Type 0 where
  pub changes : Changes S (view_of t) (view_of u)
  pub call : IsCall (view_of t) (view_of u) (is_err result)
  pub causes : DiskCauses (view_of t) (view_of u) result

-- it is counted on the tally that the host had before
pub counted_on : {T E : Type 0} {t now u : Tally} {result : Result T E} (S : Relation) → t ≡ now → u ≡ after_call (is_err result) t → t.calls ≤ 2 ^ 64 - 1
    → t.disk_faults ≤ u.disk_faults → IsCounted S now u result
counted_on {t = t} {u = u} {result = result} S same is few later = subst (λ (v : Tally). IsCounted S v u result) same (record {
  changes = call_changes S (is_err result) t u t.reads is few;
  call = is_call (is_err result) t u t.reads is;
  causes = disk_causes t u result is later;
})

-- a read is counted first
pub read_causes : {T E : Type 0} (t u : Tally) (n : ℕ) (result : Result T E) → u ≡ after_call (is_err result) (record t { reads = n }) → n ≡ counted t.reads
    → t.disk_faults ≤ u.disk_faults → ReadCauses (view_of t) (view_of u) result
read_causes t u n (Ok x) is reads later = record {
  disk = later;
  out = ap (λ (v : Tally). v.out_faults) is;
  reads = ap (λ (v : Tally). v.reads) is ∙ reads;
  ok = ap (λ (v : Tally). v.disk_faults) is;
  failed = tt;
}
read_causes t u n (Err e) is reads later = record {
  disk = later;
  out = ap (λ (v : Tally). v.out_faults) is;
  reads = ap (λ (v : Tally). v.reads) is ∙ reads;
  ok = tt;
  failed = call_failed (record t { reads = n }) u is;
}

pub list_causes : {T : Type 0} (t u : Tally) (failed : Bool) (result : Result T HostFault) → u ≡ after_call failed t → failed ≡ has_failed result
    → t.disk_faults ≤ u.disk_faults → ListCauses (view_of t) (view_of u) result
list_causes t u failed (Ok x) was told later =
    let is : u ≡ after_call false t = was ∙ ap (λ (b : Bool). after_call b t) told in
    record { disk = later; out = ap (λ (v : Tally). v.out_faults) is; reads = ap (λ (v : Tally). v.reads) is; ok = ap (λ (v : Tally). v.disk_faults) is; failed = tt; memory = tt }
list_causes t u failed (Err host_fault.Failed) was told later =
    let is : u ≡ after_call true t = was ∙ ap (λ (b : Bool). after_call b t) told in
    record { disk = later; out = ap (λ (v : Tally). v.out_faults) is; reads = ap (λ (v : Tally). v.reads) is; ok = tt; failed = λ _. call_failed t u is; memory = λ other. absurd (cc) }
list_causes t u failed (Err host_fault.OutOfMemory) was told later =
    let is : u ≡ after_call false t = was ∙ ap (λ (b : Bool). after_call b t) told in
    record { disk = later; out = ap (λ (v : Tally). v.out_faults) is; reads = ap (λ (v : Tally). v.reads) is; ok = tt; failed = λ other. absurd (cc); memory = λ _. ap (λ (v : Tally). v.disk_faults) is }

-- an emit appends what nothing tells
pub emits_untold : (failed : Bool) (t u : Tally) (bytes : List ℕ) → u ≡ after_emit failed t → t.emits ≤ 2 ^ 64 - 1 → Emits bytes (view_of t) (view_of u)
emits_untold failed t u bytes is few =
    opaque_emits_untold (counts_of t) (counts_of u) bytes few (ap (λ (v : Tally). v.calls) is) (ap (λ (v : Tally). v.emits) is) refl (ap (λ (v : Tally). v.disk_faults) is)

pub is_emit : (failed : Bool) (t u : Tally) → u ≡ after_emit failed t → IsEmit (view_of t) (view_of u) failed
is_emit failed t u is = record { emits = ap (λ (v : Tally). v.emits) is; calls = ap (λ (v : Tally). v.calls) is; last = ap (λ (v : Tally). v.failed_last) is }

-- an emit that failed is the last call
emit_failed : (t u : Tally) → u ≡ after_emit true t → FailedAtLast t.out_faults u.out_faults u.failed_last
emit_failed t u is = subst (λ (v : Tally). FailedAtLast t.out_faults v.out_faults v.failed_last) (sym is) (record { once = refl; is_last = refl })

pub out_causes : {T E : Type 0} (t u : Tally) (result : Result T E) → u ≡ after_emit (is_err result) t → t.out_faults ≤ u.out_faults
    → OutCauses (view_of t) (view_of u) result
out_causes t u (Ok x) is later = record {
  out = later;
  ok = ap (λ (v : Tally). v.out_faults) is;
  failed = tt;
  disk = ap (λ (v : Tally). v.disk_faults) is;
  reads = ap (λ (v : Tally). v.reads) is;
  calls = ap (λ (v : Tally). v.calls) is;
}
out_causes t u (Err e) is later = record {
  out = later;
  ok = tt;
  failed = emit_failed t u is;
  disk = ap (λ (v : Tally). v.disk_faults) is;
  reads = ap (λ (v : Tally). v.reads) is;
  calls = ap (λ (v : Tally). v.calls) is;
}
