-- When a partition can't be pushed.
use Rattle.std.specs.Prelude.{◌≡◌, ◌≢◌, ◌≤◌, IfErr, OnOk}
use Rattle.std.specs.declared.result.Result.{Result}
use Rattle.sasi_types.specs.declared.class.Class.{Class}
use Rattle.sasi_types.specs.declared.kit_fault.KitFault.{KitFault}
use Rattle.sasi_types.specs.declared.kit_fault.KitFault.TheVariants as kit
use Rattle.sasi_host.specs.declared.damage.Damage.{Damage}
use Rattle.sasi_host.specs.declared.fault.HostFault.{HostFault}
use Rattle.sasi_host.specs.declared.fault.HostFault.TheVariants as host
use Rattle.sasi_host.specs.declared.fault.ReadFault.{ReadFault}
use Rattle.sasi_host.specs.declared.fault.ReadFault.TheVariants as read
use Rattle.sasi_host.specs.View.{View, FailedAtLast}
use Rattle.sasi_datawrite.specs.declared.fault.PairFault.{PairFault}
use Rattle.sasi_datawrite.specs.declared.fault.PairFault.TheVariants as pair

-- ---- faults of the same name

abbrev pub of_host : HostFault → PairFault
of_host host.Failed = pair.Failed
of_host host.OutOfMemory = pair.OutOfMemory

abbrev pub of_read : ReadFault → PairFault
of_read read.Failed = pair.Failed
of_read read.OutOfMemory = pair.OutOfMemory
of_read (read.Damaged damage) = pair.Damaged damage

abbrev pub of_kit : KitFault → PairFault
of_kit (kit.Missing class) = pair.Missing class
of_kit kit.OutOfMemory = pair.OutOfMemory

-- ---- causes

-- an observer reports a missing class only where it lacks it
abbrev pub MissingOnlyIfLacking : {T : Type 0} → (Class → Type 0) → Result T KitFault → Type 0
MissingOnlyIfLacking Lacks result = IfErr result (λ f. (class : Class) → f ≡ kit.Missing class → Lacks class)

-- Where the host failed, the last call did, and none before it; else none did. Nothing is damaged, and a class is missing only where the observer lacks it.
pub record PushCauses {T : Type 0} (Lacks : Class → Type 0) (old new : View) (result : Result T PairFault) : Type 0 where
  pub disk : old.disk_faults ≤ new.disk_faults
  pub out : new.out_faults ≡ old.out_faults
  pub reads : new.reads ≡ old.reads
  pub ok : OnOk result (new.disk_faults ≡ old.disk_faults)
  pub failed : IfErr result (λ f. f ≡ pair.Failed → FailedAtLast old.disk_faults new.disk_faults new.failed_last)
  pub memory : IfErr result (λ f. f ≡ pair.OutOfMemory → new.disk_faults ≡ old.disk_faults)
  pub undamaged : IfErr result (λ f. (damage : Damage) → f ≢ pair.Damaged damage)
  pub missing : IfErr result (λ f. (class : Class) → f ≡ pair.Missing class → Lacks class)
  pub lacking : IfErr result (λ f. (class : Class) → f ≡ pair.Missing class → new.disk_faults ≡ old.disk_faults)
