-- When an index file can't be written.
use Rattle.std.specs.Prelude.{◌≡◌, ◌≢◌, IfErr, OnOk}
use Rattle.std.specs.declared.result.Result.{Result}
use Rattle.std.specs.Prelude.{◌≤◌}
use Rattle.sasi_host.specs.declared.damage.Damage.{Damage}
use Rattle.sasi_host.specs.declared.fault.ReadFault.{ReadFault}
use Rattle.sasi_host.specs.declared.fault.ReadFault.TheVariants as read
use Rattle.sasi_host.specs.View.{View, FailedAtLast}

-- Where the host failed, the last call did, and none before it; else none did. Nothing is read, and nothing is damaged.
pub record WriteCauses {T : Type 0} (old new : View) (result : Result T ReadFault) : Type 0 where
  pub disk : old.disk_faults ≤ new.disk_faults
  pub out : new.out_faults ≡ old.out_faults
  pub reads : new.reads ≡ old.reads
  pub ok : OnOk result (new.disk_faults ≡ old.disk_faults)
  pub failed : IfErr result (λ f. f ≡ read.Failed → FailedAtLast old.disk_faults new.disk_faults new.failed_last)
  pub memory : IfErr result (λ f. f ≡ read.OutOfMemory → new.disk_faults ≡ old.disk_faults)
  pub undamaged : IfErr result (λ f. (damage : Damage) → f ≢ read.Damaged damage)
