-- Why a read of a gated file gives no answer.
use Rattle.std.specs.Prelude.{◌≡◌, ◌≤◌, IfErr, OnOk}
use Rattle.std.specs.declared.result.Result.{Result}
use Rattle.sasi_host.specs.declared.damage.Damage.{Damage}
use Rattle.sasi_host.specs.declared.fault.ReadFault.{ReadFault}
use Rattle.sasi_host.specs.declared.fault.ReadFault.TheVariants as fault
use Rattle.sasi_host.specs.View.{View, FailedAtLast}

-- where the host failed, the last file call did, and none before it; else none did
pub record ReadingCauses {T : Type 0} (old new : View) (result : Result T ReadFault) : Type 0 where
  pub disk : old.disk_faults ≤ new.disk_faults
  pub out : new.out_faults ≡ old.out_faults
  pub ok : OnOk result (new.disk_faults ≡ old.disk_faults)
  pub failed : IfErr result (λ f. f ≡ fault.Failed → FailedAtLast old.disk_faults new.disk_faults new.failed_last)
  pub memory : IfErr result (λ f. f ≡ fault.OutOfMemory → new.disk_faults ≡ old.disk_faults)
  pub damaged : IfErr result (λ f. (damage : Damage) → f ≡ fault.Damaged damage → new.disk_faults ≡ old.disk_faults)
