-- What scans leave of the folder, and why they fail.
use Rattle.std.proofs.Common.{◌≡◌, ◌≢◌, Option, None, Some, Ok, Err, IfErr, OnOk, ap, sym, ◌∙◌, arith, refl}
use Rattle.std.specs.declared.result.Result.{Result}
use Rattle.sasi_host.specs.declared.damage.Damage.{Damage}
use Rattle.sasi_host.specs.declared.fault.ReadFault.{ReadFault}
use Rattle.sasi_host.specs.declared.fault.ReadFault.TheVariants as fault
use Rattle.sasi_host.specs.Names.{Folder}
use Rattle.sasi_host.specs.View.{ReadCost, View}
use Rattle.sasi_host.specs.Disk.{Changes, Same}
use Rattle.sasi_host.specs.Damages.{OnDamage}
use Rattle.sasi_host.proofs.FailingLaws.{failed_behind}
use Rattle.sasi_scan.specs.Scanning.{ScanCauses}

-- a folder that stays reads as before
pub reads_same : (a b : View) → Changes Same a b → b.files ≡ a.files
reads_same a b change = by a.files refl
  where
    by : (o : Option Folder) → a.files ≡ o → b.files ≡ a.files
    by None is = change.untold is ∙ sym is
    by (Some folder) is = let now = change.seen folder is in now.1 ∙ ap Some now.2 ∙ sym is

-- ---- causes

-- so many reads at most fail as reads do
pub of_reads : {T : Type 0} (most : _) (a b : View) (result : Result T ReadFault) → ReadCost most a b result → ScanCauses a b result
of_reads most a b (Ok x) one = record { disk = one.disk; out = one.out; ok = one.ok; failed = tt; other = tt }
of_reads most a b (Err f) one = record { disk = one.disk; out = one.out; ok = tt; failed = one.failed; other = λ works. by f works one.memory one.damaged }
  where
    by : (g : ReadFault) → g ≢ fault.Failed → (g ≡ fault.OutOfMemory → b.disk_faults ≡ a.disk_faults) → ((damage : Damage) → g ≡ fault.Damaged damage → b.disk_faults ≡ a.disk_faults) → b.disk_faults ≡ a.disk_faults
    by fault.Failed works memory damaged = absurd (works refl)
    by fault.OutOfMemory works memory damaged = memory refl
    by (fault.Damaged damage) works memory damaged = damaged damage refl

-- behind calls of which none failed
pub causes_behind : {T : Type 0} (a b c : View) (result : Result T ReadFault) → b.disk_faults ≡ a.disk_faults → b.out_faults ≡ a.out_faults → ScanCauses b c result → ScanCauses a c result
causes_behind a b c (Ok x) disk out two = record { disk = omega (arith, disk, two.disk); out = two.out ∙ out; ok = two.ok ∙ disk; failed = tt; other = tt }
causes_behind a b c (Err f) disk out two = record {
  disk = omega (arith, disk, two.disk);
  out = two.out ∙ out;
  ok = tt;
  failed = λ is. failed_behind a.disk_faults b.disk_faults c.disk_faults c.failed_last disk (two.failed is);
  other = λ works. two.other works ∙ disk;
}

-- a fault that is handed on is the same one
pub causes_of_fault : {S T : Type 0} (a b : View) (f : ReadFault) → ScanCauses {T = S} a b (Err f) → ScanCauses {T = T} a b (Err f)
causes_of_fault a b f one = record { disk = one.disk; out = one.out; ok = tt; failed = one.failed; other = one.other }

-- calls of which none failed, and an answer or another fault after them
pub causes_ok : {T : Type 0} (a b : View) (x : T) → b.disk_faults ≡ a.disk_faults → b.out_faults ≡ a.out_faults → ScanCauses a b (Ok x)
causes_ok a b x disk out = record { disk = omega (arith, disk); out = out; ok = disk; failed = tt; other = tt }

pub causes_memory : {T : Type 0} (a b : View) → b.disk_faults ≡ a.disk_faults → b.out_faults ≡ a.out_faults → ScanCauses {T = T} a b (Err fault.OutOfMemory)
causes_memory a b disk out = record { disk = omega (arith, disk); out = out; ok = tt; failed = λ is. absurd (let other : fault.OutOfMemory ≡ fault.Failed = is in cc); other = λ works. disk }

-- ---- damage

-- damage that follows
pub damage_as : (P Q : Damage → Type 0) (f : ReadFault) → ((damage : Damage) → P damage → Q damage) → OnDamage P f → OnDamage Q f
damage_as P Q fault.Failed follows on = tt
damage_as P Q fault.OutOfMemory follows on = tt
damage_as P Q (fault.Damaged damage) follows on = follows damage on

pub damage_err : {T : Type 0} (P Q : Damage → Type 0) (result : Result T ReadFault) → ((damage : Damage) → P damage → Q damage) → IfErr result (OnDamage P) → IfErr result (OnDamage Q)
damage_err P Q (Ok x) follows on = tt
damage_err P Q (Err f) follows on = damage_as P Q f follows on

-- what follows where a call succeeds
pub ok_as : {T E : Type 0} (P Q : Type 0) (result : Result T E) → (P → Q) → OnOk result P → OnOk result Q
ok_as P Q (Ok x) follows on = follows on
ok_as P Q (Err e) follows on = tt
