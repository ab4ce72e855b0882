-- Why a folder isn't opened.
use Rattle.std.specs.Prelude.{◌≡◌, ◌≢◌, ◌≤◌, IfErr, OnOk, Option, Some, Ok, Err}
use Rattle.std.specs.declared.result.Result.{Result}
use Rattle.sasi_types.specs.declared.class.Class.{Class}
use Rattle.sasi_types.specs.declared.partitioner.Partitioner.{Partitioner}
use Rattle.sasi_host.specs.declared.damage.Damage.{Damage}
use Rattle.sasi_host.specs.declared.fault.ReadFault.{ReadFault}
use Rattle.sasi_host.specs.declared.fault.ReadFault.TheVariants as read_fault
use Rattle.sasi_host.specs.View.{View, FailedAtLast}
use Rattle.sasi_recover.specs.declared.fault.OpenFault.{OpenFault}
use Rattle.sasi_recover.specs.declared.fault.OpenFault.TheVariants as fault

-- the fault of an opening in which a read failed
abbrev pub open_fault_of : ReadFault → OpenFault
open_fault_of read_fault.Failed = fault.Failed
open_fault_of read_fault.OutOfMemory = fault.OutOfMemory
open_fault_of (read_fault.Damaged damage) = fault.Damaged damage

-- if it is damage, it has P
abbrev pub OnOpenDamage : (Damage → Type 0) → OpenFault → Type 0
OnOpenDamage P (fault.Damaged damage) = P damage
OnOpenDamage P _ = Unit {0}

-- if another partitioner is asked than is kept, these have P
abbrev pub OnDiffers : (Partitioner → Partitioner → Type 0) → OpenFault → Type 0
OnDiffers P (fault.PartitionerDiffers asked kept) = P asked kept
OnDiffers P _ = Unit {0}

-- if the analyzer of a class is missing, the class has P
abbrev pub OnMissing : (Class → Type 0) → OpenFault → Type 0
OnMissing P (fault.AnalyzerMissing class) = P class
OnMissing P _ = Unit {0}

-- it tells that this partitioner is asked and that one kept
abbrev pub IsDifference : Option Partitioner → Partitioner → OpenFault → Type 0
IsDifference asked kept (fault.PartitionerDiffers a k) = (asked ≡ Some a) × (k ≡ kept) × (a ≢ k)
IsDifference asked kept _ = ⊥

-- it tells that the one is asked and the other kept, unless a call failed or memory ran out
abbrev pub TellsDifference : {T : Type 0} → Partitioner → Partitioner → Result T OpenFault → Type 0
TellsDifference asked kept (Ok opened) = ⊥
TellsDifference asked kept (Err fault.Failed) = Unit {0}
TellsDifference asked kept (Err fault.OutOfMemory) = Unit {0}
TellsDifference asked kept (Err (fault.Damaged damage)) = ⊥
TellsDifference asked kept (Err (fault.PartitionerDiffers a k)) = (a ≡ asked) × (k ≡ kept)
TellsDifference asked kept (Err (fault.AnalyzerMissing class)) = ⊥

-- it tells that an analyzer is missing, unless a call failed, memory ran out or another partitioner is asked
abbrev pub TellsMissing : {T : Type 0} → Result T OpenFault → Type 0
TellsMissing (Ok opened) = ⊥
TellsMissing (Err fault.Failed) = Unit {0}
TellsMissing (Err fault.OutOfMemory) = Unit {0}
TellsMissing (Err (fault.Damaged damage)) = ⊥
TellsMissing (Err (fault.PartitionerDiffers a k)) = Unit {0}
TellsMissing (Err (fault.AnalyzerMissing class)) = Unit {0}

-- where the host failed, the last file call did, and none before it; else none did
pub record OpenCauses {T : Type 0} (old new : View) (result : Result T OpenFault) : Type 0 where
  pub disk : old.disk_faults ≤ new.disk_faults
  pub out : new.out_faults ≡ old.out_faults
  pub ok : OnOk result (new.disk_faults ≡ old.disk_faults)
  pub failed : IfErr result (λ f. f ≡ fault.Failed → FailedAtLast old.disk_faults new.disk_faults new.failed_last)
  pub others : IfErr result (λ f. f ≢ fault.Failed → new.disk_faults ≡ old.disk_faults)
