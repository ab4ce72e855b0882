-- Why a store makes no step.
use Rattle.std.specs.Prelude.{◌≡◌, ◌≢◌, ◌≤◌, IfErr, OnOk, Result}
use Rattle.sasi_types.specs.declared.class.Class.{Class}
use Rattle.sasi_types.specs.declared.kit_fault.KitFault.{KitFault}
use Rattle.sasi_types.specs.declared.kit_fault.KitFault.TheVariants as kit_fault
use Rattle.sasi_host.specs.declared.damage.Damage.{Damage}
use Rattle.sasi_host.specs.declared.fault.HostFault.{HostFault}
use Rattle.sasi_host.specs.declared.fault.HostFault.TheVariants as host_fault
use Rattle.sasi_host.specs.declared.fault.ReadFault.{ReadFault}
use Rattle.sasi_host.specs.declared.fault.ReadFault.TheVariants as read_fault
use Rattle.sasi_host.specs.View.{FailedAtLast, View}
use Rattle.sasi_datawrite.specs.declared.fault.PairFault.{PairFault}
use Rattle.sasi_datawrite.specs.declared.fault.PairFault.TheVariants as pair
use Rattle.sasi_layout.specs.declared.number_kind.NumberKind.{NumberKind}
use Rattle.sasi_tables.specs.declared.fault.StepFault.{StepFault}
use Rattle.sasi_tables.specs.declared.fault.StepFault.TheVariants as fault

-- the fault of a step in which a call on the host failed
abbrev pub fault_of_call : HostFault → StepFault
fault_of_call host_fault.Failed = fault.Failed
fault_of_call host_fault.OutOfMemory = fault.OutOfMemory

-- the fault of a step in which a read failed
abbrev pub fault_of_read : ReadFault → StepFault
fault_of_read read_fault.Failed = fault.Failed
fault_of_read read_fault.OutOfMemory = fault.OutOfMemory
fault_of_read (read_fault.Damaged damage) = fault.Damaged damage

-- the fault of a step in which a data file with its index files couldn't be written on
abbrev pub fault_of_pair : PairFault → StepFault
fault_of_pair pair.Failed = fault.Failed
fault_of_pair pair.OutOfMemory = fault.OutOfMemory
fault_of_pair (pair.Damaged damage) = fault.Damaged damage
fault_of_pair (pair.Missing class) = fault.AnalyzerMissing class

-- the fault of a step in which an analyzer failed
abbrev pub fault_of_kit : KitFault → StepFault
fault_of_kit kit_fault.OutOfMemory = fault.OutOfMemory
fault_of_kit (kit_fault.Missing class) = fault.AnalyzerMissing class

-- if it is corruption, it has P
abbrev pub OnStepDamage : (Damage → Type 0) → StepFault → Type 0
OnStepDamage P (fault.Damaged damage) = P damage
OnStepDamage P _ = Unit {0}

-- if a number is spent, its kind has P
abbrev pub OnSpent : (NumberKind → Type 0) → StepFault → Type 0
OnSpent P (fault.NumbersSpent kind) = P kind
OnSpent P _ = Unit {0}

-- if the analyzer of a class is missing, the class has P
abbrev pub OnMissing : (Class → Type 0) → StepFault → Type 0
OnMissing P (fault.AnalyzerMissing class) = P class
OnMissing P _ = Unit {0}

-- where the host failed, the last file call did, and none before it; else none did
pub record StepCauses {T : Type 0} (old new : View) (result : Result T StepFault) : Type 0 where
  pub disk : old.disk_faults ≤ new.disk_faults
  pub out : new.out_faults ≡ old.out_faults
  pub ok : OnOk result (new.disk_faults ≡ old.disk_faults)
  pub failed : IfErr result (λ f. f ≡ fault.Failed → FailedAtLast old.disk_faults new.disk_faults new.failed_last)
  pub others : IfErr result (λ f. f ≢ fault.Failed → new.disk_faults ≡ old.disk_faults)
