-- Faults of the calls that a compaction makes, as its own.
use Rattle.std.proofs.Common.{◌≡◌, ◌≢◌, ◌∙◌, arith, refl}
use Rattle.std.specs.Prelude.{Result, Ok, Err}
use Rattle.sasi_types.specs.declared.class.Class.{Class}
use Rattle.sasi_host.specs.declared.damage.Damage.{Damage}
use Rattle.sasi_host.specs.declared.fault.HostFault.{HostFault}
use Rattle.sasi_host.specs.declared.fault.HostFault.TheVariants as host
use Rattle.sasi_host.specs.declared.fault.ReadFault.{ReadFault}
use Rattle.sasi_host.specs.declared.fault.ReadFault.TheVariants as read
use Rattle.sasi_host.specs.Damages.{OnDamage}
use Rattle.sasi_host.specs.View.{ListCauses, View}
use Rattle.sasi_host.proofs.FailingLaws.{failed_behind}
use Rattle.sasi_datawrite.specs.Causes.{PushCauses, of_host, of_read}
use Rattle.sasi_datawrite.specs.declared.fault.PairFault.{PairFault}
use Rattle.sasi_datawrite.specs.declared.fault.PairFault.TheVariants as pair
use Rattle.sasi_scan.specs.Scanning.{ScanCauses}
use Rattle.sasi_compact.specs.Tasks.{CompactCauses, OnPairDamage}

-- ---- damage

pub damage_read : (P : Damage → Type 0) (f : ReadFault) → OnDamage P f → OnPairDamage P (of_read f)
damage_read P read.Failed on = tt
damage_read P read.OutOfMemory on = tt
damage_read P (read.Damaged damage) on = on

pub damage_as : (P Q : Damage → Type 0) (f : PairFault) → ((damage : Damage) → P damage → Q damage) → OnPairDamage P f → OnPairDamage Q f
damage_as P Q pair.Failed follows on = tt
damage_as P Q pair.OutOfMemory follows on = tt
damage_as P Q (pair.Damaged damage) follows on = follows damage on
damage_as P Q (pair.Missing class) follows on = tt

-- a write shows none
pub no_damage : (P : Damage → Type 0) (f : PairFault) → ((damage : Damage) → f ≢ pair.Damaged damage) → OnPairDamage P f
no_damage P pair.Failed none = tt
no_damage P pair.OutOfMemory none = tt
no_damage P (pair.Damaged damage) none = absurd (none damage refl)
no_damage P (pair.Missing class) none = tt

pub no_host_damage : (P : Damage → Type 0) (f : HostFault) → OnPairDamage P (of_host f)
no_host_damage P host.Failed = tt
no_host_damage P host.OutOfMemory = tt

-- ---- causes

-- calls of which none failed
pub all_well : {T : Type 0} (Lacks : Class → Type 0) (a b : View) (x : T) → b.disk_faults ≡ a.disk_faults → b.out_faults ≡ a.out_faults → CompactCauses Lacks a b (Ok x)
all_well Lacks a b x disk out = record { disk = omega (arith, disk); out = out; ok = disk; failed = tt; other = tt; missing = tt }

-- and then memory ran out
pub memory_out : {T : Type 0} (Lacks : Class → Type 0) (a b : View) → b.disk_faults ≡ a.disk_faults → b.out_faults ≡ a.out_faults → CompactCauses {T = T} Lacks a b (Err pair.OutOfMemory)
memory_out Lacks a b disk out = record { disk = omega (arith, disk); out = out; ok = tt; failed = λ is. cc; other = λ works. disk; missing = λ class is. cc }

-- a fault of a scan
pub of_scan : {S T : Type 0} (Lacks : Class → Type 0) (a b : View) (f : ReadFault) → ScanCauses {T = S} a b (Err f) → CompactCauses {T = T} Lacks a b (Err (of_read f))
of_scan Lacks a b read.Failed one = record { disk = one.disk; out = one.out; ok = tt; failed = λ is. one.failed refl; other = λ works. absurd (works refl); missing = λ class is. cc }
of_scan Lacks a b read.OutOfMemory one = record { disk = one.disk; out = one.out; ok = tt; failed = λ is. cc; other = λ works. one.other (λ is. cc); missing = λ class is. cc }
of_scan Lacks a b (read.Damaged damage) one = record { disk = one.disk; out = one.out; ok = tt; failed = λ is. cc; other = λ works. one.other (λ is. cc); missing = λ class is. cc }

-- of a push
pub of_push : {S T : Type 0} (Lacks : Class → Type 0) (a b : View) (f : PairFault) → PushCauses {T = S} Lacks a b (Err f) → CompactCauses {T = T} Lacks a b (Err f)
of_push Lacks a b f one = record { disk = one.disk; out = one.out; ok = tt; failed = one.failed; other = λ works. by f works one.memory one.undamaged one.lacking; missing = one.missing }
  where
    by : (g : PairFault) → g ≢ pair.Failed → (g ≡ pair.OutOfMemory → b.disk_faults ≡ a.disk_faults) → ((damage : Damage) → g ≢ pair.Damaged damage) → ((class : Class) → g ≡ pair.Missing class → b.disk_faults ≡ a.disk_faults) → b.disk_faults ≡ a.disk_faults
    by pair.Failed works memory undamaged lacking = absurd (works refl)
    by pair.OutOfMemory works memory undamaged lacking = memory refl
    by (pair.Damaged damage) works memory undamaged lacking = absurd (undamaged damage refl)
    by (pair.Missing class) works memory undamaged lacking = lacking class refl

-- of a call that makes a file
pub of_call : {S T : Type 0} (Lacks : Class → Type 0) (a b : View) (f : HostFault) → ListCauses {T = S} a b (Err f) → CompactCauses {T = T} Lacks a b (Err (of_host f))
of_call Lacks a b host.Failed one = record { disk = one.disk; out = one.out; ok = tt; failed = λ is. one.failed refl; other = λ works. absurd (works refl); missing = λ class is. cc }
of_call Lacks a b host.OutOfMemory one = record { disk = one.disk; out = one.out; ok = tt; failed = λ is. cc; other = λ works. one.memory refl; missing = λ class is. cc }

-- behind calls of which none failed
pub well_before : {T : Type 0} (Lacks : Class → Type 0) (a b c : View) (result : Result T PairFault) → b.disk_faults ≡ a.disk_faults → b.out_faults ≡ a.out_faults → CompactCauses Lacks b c result → CompactCauses Lacks a c result
well_before Lacks a b c (Ok x) disk out two = all_well Lacks a c x (two.ok ∙ disk) (two.out ∙ out)
well_before Lacks a b c (Err f) disk out two = record {
  disk = omega (arith, disk, two.disk);
  out = two.out ∙ out;
  ok = tt;
  failed = λ is. failed_behind a.disk_faults b.disk_faults c.disk_faults c.failed_last disk (two.failed is);
  other = λ works. two.other works ∙ disk;
  missing = two.missing;
}

-- where more may lack
pub lacking_more : {T : Type 0} (Lacks More : Class → Type 0) (a b : View) (result : Result T PairFault) → ((class : Class) → Lacks class → More class) → CompactCauses Lacks a b result → CompactCauses More a b result
lacking_more Lacks More a b (Ok x) wider one = all_well More a b x one.ok one.out
lacking_more Lacks More a b (Err f) wider one = record { disk = one.disk; out = one.out; ok = tt; failed = one.failed; other = one.other; missing = λ class is. wider class (one.missing class is) }

-- a fault that is handed on
pub handed_on : {S T : Type 0} (Lacks : Class → Type 0) (a b : View) (f : PairFault) → CompactCauses {T = S} Lacks a b (Err f) → CompactCauses {T = T} Lacks a b (Err f)
handed_on Lacks a b f one = record { disk = one.disk; out = one.out; ok = tt; failed = one.failed; other = one.other; missing = one.missing }
