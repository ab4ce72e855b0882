-- The causes of faults of a step, and steps that make no move.
use Rattle.std.proofs.Common.{◌≡◌, ◌≢◌, Some, Result, Ok, Err, refl, arith}
use Rattle.sasi_host.specs.declared.fault.HostFault.{HostFault}
use Rattle.sasi_host.specs.declared.fault.HostFault.TheVariants as host
use Rattle.sasi_host.proofs.ChangeLaws.{changes_as, stays}
use Rattle.sasi_host.specs.Disk.{Changes, Relation, Same}
use Rattle.sasi_host.specs.View.{IsSound, ListCauses, View}
use Rattle.sasi_layout.proofs.Trails.{moves_none}
use Rattle.sasi_layout.specs.Layout.{Layout}
use Rattle.sasi_layout.specs.Serving.{Serves, StoreInMemory}
use Rattle.sasi_layout.specs.Spent.{spent}
use Rattle.sasi_layout.specs.declared.number_kind.NumberKind.{NumberKind}
use Rattle.sasi_recover.specs.OpenedFolder.{AnyFolderChange}
use Rattle.sasi_types.specs.declared.class.Class.{Class}
use Rattle.sasi_tables.specs.Faults.{OnMissing, OnSpent, OnStepDamage, StepCauses, fault_of_call}
use Rattle.sasi_tables.specs.MakesMoves.{MakesMoves, MovesOf}
use Rattle.sasi_tables.specs.declared.fault.StepFault.{StepFault}
use Rattle.sasi_tables.specs.declared.fault.StepFault.TheVariants as fault
use Rattle.sasi_tables.proofs.ListedFrames.{same_used}

-- ---- faults of calls and of memory

abbrev pub IsPlain : StepFault → Type 0
IsPlain fault.Failed = Unit {0}
IsPlain fault.OutOfMemory = Unit {0}
IsPlain (fault.Damaged damage) = ⊥
IsPlain (fault.NumbersSpent kind) = ⊥
IsPlain (fault.AnalyzerMissing class) = ⊥

pub plain_undamaged : (e : StepFault) → IsPlain e → OnStepDamage (λ _. ⊥) e
plain_undamaged fault.Failed plain = tt
plain_undamaged fault.OutOfMemory plain = tt
plain_undamaged (fault.Damaged damage) plain = plain
plain_undamaged (fault.NumbersSpent kind) plain = tt
plain_undamaged (fault.AnalyzerMissing class) plain = tt

pub plain_unspent : (P : NumberKind → Type 0) (e : StepFault) → IsPlain e → OnSpent P e
plain_unspent P fault.Failed plain = tt
plain_unspent P fault.OutOfMemory plain = tt
plain_unspent P (fault.Damaged damage) plain = tt
plain_unspent P (fault.NumbersSpent kind) plain = absurd plain
plain_unspent P (fault.AnalyzerMissing class) plain = tt

pub plain_present : (P : Class → Type 0) (e : StepFault) → IsPlain e → OnMissing P e
plain_present P fault.Failed plain = tt
plain_present P fault.OutOfMemory plain = tt
plain_present P (fault.Damaged damage) plain = tt
plain_present P (fault.NumbersSpent kind) plain = tt
plain_present P (fault.AnalyzerMissing class) plain = absurd plain

pub call_plain : (f : HostFault) → IsPlain (fault_of_call f)
call_plain host.Failed = tt
call_plain host.OutOfMemory = tt

-- ---- causes

module _ {T U : Type 0} (a b : View) where
  -- a call failed
  pub call_failed : (f : HostFault) → ListCauses {T = T} a b (Err f) → StepCauses {T = U} a b (Err (fault_of_call f))
  call_failed host.Failed causes = record { disk = causes.disk; out = causes.out; ok = tt; failed = λ _. causes.failed refl; others = λ other. absurd (other refl) }
  call_failed host.OutOfMemory causes = record { disk = causes.disk; out = causes.out; ok = tt; failed = λ same. cc; others = λ _. causes.memory refl }

  -- it was made
  pub call_made : (x : T) (y : U) → ListCauses {T = T} a b (Ok x) → StepCauses {T = U} a b (Ok y)
  call_made x y causes = record { disk = causes.disk; out = causes.out; ok = causes.ok; failed = tt; others = tt }

  -- it was made, and memory ran out then
  pub made_then_full : (x : T) → ListCauses {T = T} a b (Ok x) → StepCauses {T = U} a b (Err fault.OutOfMemory)
  made_then_full x causes = record { disk = causes.disk; out = causes.out; ok = tt; failed = λ same. cc; others = λ _. causes.ok }

-- no call was made
pub none_made : {U : Type 0} (v : View) (result : Result U StepFault) → ((e : StepFault) → result ≡ Err e → e ≢ fault.Failed) → StepCauses v v result
none_made v (Ok x) other = record { disk = omega arith; out = refl; ok = refl; failed = tt; others = tt }
none_made v (Err e) other = record { disk = omega arith; out = refl; ok = tt; failed = λ same. absurd (other e refl same); others = λ _. refl }

-- ---- no move

pub any_change : (S : Relation) (a b : View) → Changes S a b → Changes AnyFolderChange a b
any_change S a b change = changes_as a b S AnyFolderChange change (λ x y step. tt)

-- memory ran out, or a number was spent, before anything was done
pub makes_nothing : {T : Type 0} (moves : MovesOf) (v : View) (sound : IsSound v) (old new : StoreInMemory) (e : StepFault) → OnStepDamage (λ _. ⊥) e → OnMissing (λ _. ⊥) e → OnSpent (λ kind. (l : Layout) → Serves v old l → spent l (moves l) ≡ Some kind) e → e ≢ fault.Failed → MakesMoves {T = T} moves v v old new (Err e)
makes_nothing moves v sound old new e undamaged present spent_is other = record {
  exactly = tt;
  any_moment = λ l serves. moves_none l v (moves l) sound (λ x now. (_, serves.shape x now));
  serves = tt;
  ready = tt;
  unspent = tt;
  spent_is = spent_is;
  undamaged = undamaged;
  present = present;
  changes = any_change Same v v (stays v);
  files_stay = same_used old.used.«data» v v (stays v);
  listed_stay = tt;
  numbers_stay = tt;
  reads = refl;
  causes = none_made v (Err e) (λ f is same. (let one : e ≡ f = cc in other (one_then one same)));
}
  where
    one_then : {f : StepFault} → e ≡ f → f ≡ fault.Failed → e ≡ fault.Failed
    one_then one same = cc
