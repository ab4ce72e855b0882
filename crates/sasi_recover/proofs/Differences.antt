-- Why an opening of a sealed folder fails.
use Rattle.std.proofs.Common.{◌≡◌, ◌≢◌, ℕ, true, false, List, Option, Some, Ok, Err, refl, sym, ◌∙◌, ap, subst, arith}
use Rattle.std.specs.Prelude.{Contains}
use Rattle.std.proofs.lemmas.List.Elements.{All-contains}
use Rattle.sasi_types.specs.declared.class.Class.{Class}
use Rattle.sasi_analyzers.specs.Kits.{has_class}
use Rattle.sasi_layout.specs.Classes.{HasAll, IsFirstMissing, classes_listed}
use Rattle.std.specs.declared.result.Result.{Result}
use Rattle.sasi_types.specs.declared.partitioner.Partitioner.{Partitioner}
use Rattle.sasi_host.specs.declared.damage.Damage.{Damage}
use Rattle.sasi_host.specs.declared.fault.ReadFault.{ReadFault}
use Rattle.sasi_host.specs.declared.fault.ReadFault.TheVariants as read_fault
use Rattle.sasi_host.specs.Damages.{OnDamage}
use Rattle.sasi_host.specs.Names.{Folder, manifest_name}
use Rattle.sasi_host.specs.declared.fault.HostFault.{HostFault}
use Rattle.sasi_host.specs.declared.fault.HostFault.TheVariants as host_fault
use Rattle.sasi_host.specs.Faults.{read_fault_of}
use Rattle.sasi_host.specs.View.{FailedAtLast, IsThere, ListCauses, View}
use Rattle.sasi_host.proofs.ChangeLaws.{then_same}
use Rattle.sasi_host.specs.Disk.{Changes, Same}
use Rattle.sasi_gated.specs.Causes.{ReadingCauses}
use Rattle.sasi_manifest.specs.Damages.{NoFalseManifestDamage}
use Rattle.sasi_manifest.specs.declared.listing.Listing.{Listing}
use Rattle.sasi_manifest.specs.Reading.{ReadsListing}
use Rattle.sasi_manifest.proofs.Laws.{manifest_same}
use Rattle.sasi_folder.specs.Opens.{KeepsUnder}
use Rattle.sasi_recover.specs.declared.fault.OpenFault.{OpenFault}
use Rattle.sasi_recover.specs.declared.fault.OpenFault.TheVariants as fault
use Rattle.sasi_recover.specs.Faults.{IsDifference, OnDiffers, OnMissing, OnOpenDamage, OpenCauses, TellsDifference, TellsMissing, open_fault_of}
use Rattle.sasi_recover.specs.Promises.{LacksUnder, ReportsTruly}
use Rattle.sasi_recover.proofs.SealedStore.{bytes_there, reads_of}

-- damage of a read is that of the opening
pub open_damage : (P : Damage → Type 0) (f : ReadFault) → OnDamage P f → OnOpenDamage P (open_fault_of f)
open_damage P read_fault.Failed shown = tt
open_damage P read_fault.OutOfMemory shown = tt
open_damage P (read_fault.Damaged damage) shown = shown

-- a read tells no difference
pub read_differs : (P : Partitioner → Partitioner → Type 0) (f : ReadFault) → OnDiffers P (open_fault_of f)
read_differs P read_fault.Failed = tt
read_differs P read_fault.OutOfMemory = tt
read_differs P (read_fault.Damaged damage) = tt

-- a manifest that is whole isn't reported
pub manifest_differs : (T : Type 0) (v : View) (folder : Folder) (number : ℕ) (wanted kept : Partitioner) (f : ReadFault) → v.files ≡ Some folder → KeepsUnder folder number kept → NoFalseManifestDamage v number f → TellsDifference {T = T} wanted kept (Err (open_fault_of f))
manifest_differs T v folder number wanted kept read_fault.Failed files keeps no_false = tt
manifest_differs T v folder number wanted kept read_fault.OutOfMemory files keeps no_false = tt
manifest_differs T v folder number wanted kept (read_fault.Damaged damage) files keeps no_false = no_false keeps.bytes keeps.listing (reads_of v folder (manifest_name number) keeps.bytes files keeps.there) keeps.lists

-- the manifest that was read lists what the folder keeps
pub keeps_read : (v : View) (folder : Folder) (number : ℕ) (listing : Listing) (kept : Partitioner) → v.files ≡ Some folder → KeepsUnder folder number kept → ReadsListing v number listing → listing.partitioner ≡ kept
keeps_read v folder number listing kept files keeps reads =
    ap (λ (l : Listing). l.partitioner) (manifest_same number keeps.bytes listing keeps.listing (reads keeps.bytes (reads_of v folder (manifest_name number) keeps.bytes files keeps.there)) keeps.lists) ∙ keeps.partitioner

-- a difference that is told is that one
pub difference_told : (T : Type 0) (asked : Option Partitioner) (listed wanted kept : Partitioner) (f : OpenFault) → asked ≡ Some wanted → listed ≡ kept → IsDifference asked listed f → TellsDifference {T = T} wanted kept (Err f)
difference_told T asked listed wanted kept fault.Failed asks is other = absurd other
difference_told T asked listed wanted kept fault.OutOfMemory asks is other = absurd other
difference_told T asked listed wanted kept (fault.Damaged damage) asks is other = absurd other
difference_told T asked listed wanted kept (fault.AnalyzerMissing class) asks is other = absurd other
difference_told T asked listed wanted kept (fault.PartitionerDiffers a k) asks is other =
    let same : Some a ≡ Some wanted = sym other.0 ∙ asks in
    ((let one : a ≡ wanted = cc in one), other.1 ∙ is)

pub difference_only : (asked : Option Partitioner) (listed : Partitioner) (P : Partitioner → Partitioner → Type 0) (f : OpenFault) → ((wanted : Partitioner) → asked ≡ Some wanted → wanted ≢ listed → P wanted listed) → IsDifference asked listed f → OnDiffers P f
difference_only asked listed P fault.Failed holds other = tt
difference_only asked listed P fault.OutOfMemory holds other = tt
difference_only asked listed P (fault.Damaged damage) holds other = tt
difference_only asked listed P (fault.AnalyzerMissing class) holds other = tt
difference_only asked listed P (fault.PartitionerDiffers a k) holds other =
    subst (P a) (sym other.1) (holds a other.0 (λ same. other.2 (same ∙ sym other.1)))

pub no_damage : (asked : Option Partitioner) (listed : Partitioner) (P : Damage → Type 0) (f : OpenFault) → IsDifference asked listed f → OnOpenDamage P f
no_damage asked listed P fault.Failed other = tt
no_damage asked listed P fault.OutOfMemory other = tt
no_damage asked listed P (fault.Damaged damage) other = absurd other
no_damage asked listed P (fault.PartitionerDiffers a k) other = tt
no_damage asked listed P (fault.AnalyzerMissing class) other = tt

-- ---- an analyzer that is missing

-- a read tells of none
pub read_missing : (P : Class → Type 0) (f : ReadFault) → OnMissing P (open_fault_of f)
read_missing P read_fault.Failed = tt
read_missing P read_fault.OutOfMemory = tt
read_missing P (read_fault.Damaged damage) = tt

-- a manifest that is whole isn't reported
pub manifest_lacks : (T : Type 0) (v : View) (folder : Folder) (number : ℕ) (kinds : List Class) (class : Class) (f : ReadFault) → v.files ≡ Some folder → LacksUnder kinds folder number class → NoFalseManifestDamage v number f → TellsMissing {T = T} (Err (open_fault_of f))
manifest_lacks T v folder number kinds class read_fault.Failed files lacks no_false = tt
manifest_lacks T v folder number kinds class read_fault.OutOfMemory files lacks no_false = tt
manifest_lacks T v folder number kinds class (read_fault.Damaged damage) files lacks no_false = no_false lacks.bytes lacks.listing (reads_of v folder (manifest_name number) lacks.bytes files lacks.there) lacks.lists

-- another partitioner may be told before, and tells of none
pub difference_lacks : (T : Type 0) (asked : Option Partitioner) (listed : Partitioner) (f : OpenFault) → IsDifference asked listed f → TellsMissing {T = T} (Err f)
difference_lacks T asked listed fault.Failed other = absurd other
difference_lacks T asked listed fault.OutOfMemory other = absurd other
difference_lacks T asked listed (fault.Damaged damage) other = absurd other
difference_lacks T asked listed (fault.PartitionerDiffers a k) other = tt
difference_lacks T asked listed (fault.AnalyzerMissing class) other = absurd other

pub difference_missing : (asked : Option Partitioner) (listed : Partitioner) (P : Class → Type 0) (f : OpenFault) → IsDifference asked listed f → OnMissing P f
difference_missing asked listed P fault.Failed other = tt
difference_missing asked listed P fault.OutOfMemory other = tt
difference_missing asked listed P (fault.Damaged damage) other = tt
difference_missing asked listed P (fault.PartitionerDiffers a k) other = tt
difference_missing asked listed P (fault.AnalyzerMissing class) other = absurd other

-- the manifest that was read lists the indexes
listing_read : (v : View) (folder : Folder) (number : ℕ) (listing : Listing) (kinds : List Class) (class : Class) → v.files ≡ Some folder → (lacks : LacksUnder kinds folder number class) → ReadsListing v number listing → listing ≡ lacks.listing
listing_read v folder number listing kinds class files lacks reads =
    manifest_same number lacks.bytes listing lacks.listing (reads lacks.bytes (reads_of v folder (manifest_name number) lacks.bytes files lacks.there)) lacks.lists

class_there : (kinds : List Class) (needed : List (ℕ × Class)) (n : ℕ) (class : Class) → HasAll kinds needed → Contains needed (n, class) → has_class class kinds ≡ true
class_there kinds needed n class has needs = All-contains (λ (c : ℕ × Class). has_class c.1 kinds ≡ true) needed (n, class) has needs

-- so where each analyzer is there, none is missing
pub none_lacks : (v : View) (folder : Folder) (number : ℕ) (listing : Listing) (kinds : List Class) (class : Class) → v.files ≡ Some folder → LacksUnder kinds folder number class → ReadsListing v number listing → HasAll kinds (classes_listed listing.tables) → ⊥
none_lacks v folder number listing kinds class files lacks reads has =
    let all : HasAll kinds (classes_listed lacks.listing.tables) = subst (λ (l : Listing). HasAll kinds (classes_listed l.tables)) (listing_read v folder number listing kinds class files lacks reads) has in
    let there = class_there kinds (classes_listed lacks.listing.tables) lacks.first.number class all lacks.first.needs in
    (let clash : true ≡ false = sym there ∙ lacks.first.lacks in cc)

-- and what was read is what the folder lists
pub lacks_as_read : (v : View) (folder : Folder) (number : ℕ) (listing : Listing) (kinds : List Class) (class : Class) → v.files ≡ Some folder → IsThere v (manifest_name number) → ReadsListing v number listing → IsFirstMissing kinds (classes_listed listing.tables) class → LacksUnder kinds folder number class
lacks_as_read v folder number listing kinds class files there reads first =
    let bytes = bytes_there v folder (manifest_name number) files there in
    record { bytes = bytes.0; listing = listing; there = bytes.1; lists = reads bytes.0 (reads_of v folder (manifest_name number) bytes.0 files bytes.1); first = first }

-- it isn't of the host
pub missing_causes : {T : Type 0} (a b : View) (class : Class) → b.disk_faults ≡ a.disk_faults → b.out_faults ≡ a.out_faults → OpenCauses {T = T} a b (Err (fault.AnalyzerMissing class))
missing_causes a b class disk out = record { disk = omega (arith, disk); out = out; ok = tt; failed = λ is. (let never : fault.AnalyzerMissing class ≡ fault.Failed = is in cc); others = λ not. disk }

-- the causes of a read, handed on
pub read_causes : {T U : Type 0} (a b : View) (f : ReadFault) → ReadingCauses {T = T} a b (Err f) → OpenCauses {T = U} a b (Err (open_fault_of f))
read_causes a b read_fault.Failed causes = record { disk = causes.disk; out = causes.out; ok = tt; failed = λ is. causes.failed refl; others = λ other. absurd (other refl) }
read_causes a b read_fault.OutOfMemory causes = record { disk = causes.disk; out = causes.out; ok = tt; failed = λ is. (let never : fault.OutOfMemory ≡ fault.Failed = is in cc); others = λ other. causes.memory refl }
read_causes a b (read_fault.Damaged damage) causes = record { disk = causes.disk; out = causes.out; ok = tt; failed = λ is. (let never : fault.Damaged damage ≡ fault.Failed = is in cc); others = λ other. causes.damaged damage refl }

-- what was read is what the folder keeps
pub kept_as_read : (v : View) (folder : Folder) (number : ℕ) (listing : Listing) (kept : Partitioner) → v.files ≡ Some folder → IsThere v (manifest_name number) → ReadsListing v number listing → kept ≡ listing.partitioner → KeepsUnder folder number kept
kept_as_read v folder number listing kept files there reads is =
    let bytes = bytes_there v folder (manifest_name number) files there in
    record { bytes = bytes.0; listing = listing; there = bytes.1; lists = reads bytes.0 (reads_of v folder (manifest_name number) bytes.0 files bytes.1); partitioner = sym is }

-- a difference isn't of the host
pub difference_causes : {T : Type 0} (a b : View) (asked : Option Partitioner) (listed : Partitioner) (f : OpenFault) → b.disk_faults ≡ a.disk_faults → b.out_faults ≡ a.out_faults → IsDifference asked listed f → OpenCauses {T = T} a b (Err f)
difference_causes a b asked listed fault.Failed disk out other = absurd other
difference_causes a b asked listed fault.OutOfMemory disk out other = absurd other
difference_causes a b asked listed (fault.Damaged damage) disk out other = absurd other
difference_causes a b asked listed (fault.AnalyzerMissing class) disk out other = absurd other
difference_causes a b asked listed (fault.PartitionerDiffers asks kept) disk out other =
    record { disk = omega (arith, disk); out = out; ok = tt; failed = λ is. (let never : fault.PartitionerDiffers asks kept ≡ fault.Failed = is in cc); others = λ not. disk }

-- nor is success
pub ok_causes : {T : Type 0} {U : Type 0} (a b : View) {value : T} {other : U} → ReadingCauses {T = T} a b (Ok value) → OpenCauses {T = U} a b (Ok other)
ok_causes a b causes = record { disk = causes.disk; out = causes.out; ok = causes.ok; failed = tt; others = tt }

-- ---- a call on the host

-- it tells no damage, and no difference
pub host_damage : (P : Damage → Type 0) (f : HostFault) → OnOpenDamage P (open_fault_of (read_fault_of f))
host_damage P host_fault.Failed = tt
host_damage P host_fault.OutOfMemory = tt

pub host_differs : (T : Type 0) (wanted kept : Partitioner) (f : HostFault) → TellsDifference {T = T} wanted kept (Err (open_fault_of (read_fault_of f)))
host_differs T wanted kept host_fault.Failed = tt
host_differs T wanted kept host_fault.OutOfMemory = tt

pub host_differs_only : (P : Partitioner → Partitioner → Type 0) (f : HostFault) → OnDiffers P (open_fault_of (read_fault_of f))
host_differs_only P host_fault.Failed = tt
host_differs_only P host_fault.OutOfMemory = tt

pub host_lacks : (T : Type 0) (f : HostFault) → TellsMissing {T = T} (Err (open_fault_of (read_fault_of f)))
host_lacks T host_fault.Failed = tt
host_lacks T host_fault.OutOfMemory = tt

pub host_lacks_only : (P : Class → Type 0) (f : HostFault) → OnMissing P (open_fault_of (read_fault_of f))
host_lacks_only P host_fault.Failed = tt
host_lacks_only P host_fault.OutOfMemory = tt

-- so what it reports is true
pub host_reports : (T : Type 0) (asked : Option Partitioner) (kinds : List Class) (a : View) (f : HostFault) → ReportsTruly {T = T} asked kinds a (Err (open_fault_of (read_fault_of f)))
host_reports T asked kinds a f = record {
  damaged = λ folder files. host_damage _ f;
  undamaged = λ folder l files shape. host_damage _ f;
  differs = λ folder wanted kept files asks keeps apart. host_differs T wanted kept f;
  differs_only = λ folder files. host_differs_only _ f;
  lacks = λ folder class files lacks. host_lacks T f;
  lacks_only = λ folder files. host_lacks_only _ f;
}

pub host_causes : {T U : Type 0} (a b : View) (f : HostFault) → ListCauses {T = T} a b (Err f) → OpenCauses {T = U} a b (Err (open_fault_of (read_fault_of f)))
host_causes a b host_fault.Failed causes = record { disk = causes.disk; out = causes.out; ok = tt; failed = λ is. causes.failed refl; others = λ other. absurd (other refl) }
host_causes a b host_fault.OutOfMemory causes = record { disk = causes.disk; out = causes.out; ok = tt; failed = λ is. (let never : fault.OutOfMemory ≡ fault.Failed = is in cc); others = λ other. causes.memory refl }

-- ---- behind calls that failed nothing

-- a difference behind a call that leaves the folder as it is
pub untouched_behind : (a b c : View) (f : OpenFault) → Changes Same a b → OnDiffers (λ wanted kept. Changes Same b c) f → OnDiffers (λ wanted kept. Changes Same a c) f
untouched_behind a b c fault.Failed same told = tt
untouched_behind a b c fault.OutOfMemory same told = tt
untouched_behind a b c (fault.Damaged damage) same told = tt
untouched_behind a b c (fault.PartitionerDiffers asked kept) same told = then_same a b c Same same told
untouched_behind a b c (fault.AnalyzerMissing class) same told = tt

-- a missing analyzer behind such a call
pub unopened_behind : (a b c : View) (f : OpenFault) → Changes Same a b → OnMissing (λ class. Changes Same b c) f → OnMissing (λ class. Changes Same a c) f
unopened_behind a b c fault.Failed same told = tt
unopened_behind a b c fault.OutOfMemory same told = tt
unopened_behind a b c (fault.Damaged damage) same told = tt
unopened_behind a b c (fault.PartitionerDiffers asked kept) same told = tt
unopened_behind a b c (fault.AnalyzerMissing class) same told = then_same a b c Same same told

pub causes_behind : {T : Type 0} (a b c : View) (result : Result T OpenFault) → b.disk_faults ≡ a.disk_faults → b.out_faults ≡ a.out_faults → OpenCauses b c result → OpenCauses a c result
causes_behind a b c (Ok value) disk out causes = record { disk = omega (arith, disk, causes.disk); out = causes.out ∙ out; ok = causes.ok ∙ disk; failed = tt; others = tt }
causes_behind a b c (Err f) disk out causes = record {
  disk = omega (arith, disk, causes.disk);
  out = causes.out ∙ out;
  ok = tt;
  failed = λ is. subst (λ n. FailedAtLast n c.disk_faults c.failed_last) disk (causes.failed is);
  others = λ other. causes.others other ∙ disk;
}
