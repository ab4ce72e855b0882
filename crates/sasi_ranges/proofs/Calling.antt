-- Laws of calls on streams, one after another.
use Rattle.std.proofs.Common.{◌≡◌, ℕ, ◌+◌, ◌-◌, ◌≤◌, Option, Some, None, IsSome, IfErr, OnOk, refl, sym, ap, subst, ◌∙◌, inl, inr, ⊎_elim, arith, Result, Ok, Err}
use Rattle.sasi_host.specs.declared.name.FileName.{FileName}
use Rattle.sasi_host.specs.declared.damage.Damage.{Damage}
use Rattle.sasi_host.specs.declared.fault.ReadFault.{ReadFault}
use Rattle.sasi_host.specs.declared.fault.ReadFault.TheVariants as fault
use Rattle.sasi_host.specs.Names.{Folder}
use Rattle.sasi_host.specs.View.{View, IsThere, ReadCost, contents_in}
use Rattle.sasi_host.specs.Disk.{Changes, Same}
use Rattle.sasi_host.specs.Damages.{OnDamage}
use Rattle.sasi_host.proofs.ChangeLaws.{stays, then_same}
use Rattle.sasi_host.proofs.FailingLaws.{failed_behind}
use Rattle.sasi_ranges.specs.StreamCalls.{CanStream, HasStreamed, Spends, StreamFaults}

-- ---- the folder

-- what the folder reads stays
pub files_same : (a b : View) → Changes Same a b → b.files ≡ a.files
files_same a b same = by a.files refl
  where
    by : (o : Option Folder) → a.files ≡ o → b.files ≡ a.files
    by None is = same.untold is ∙ sym is
    by (Some folder) is = let now = same.seen folder is in now.1 ∙ ap (λ (f : Folder). Some f) now.2 ∙ sym is

there_still : (a b : View) (name : FileName) → Changes Same a b → IsThere a name → IsThere b name
there_still a b name same there = subst (λ (o : Option Folder). IsSome o → IsSome (contents_in o name)) (sym (files_same a b same)) there

-- ---- what is read

-- nothing is read
pub streams_nothing : (K : Option Folder → Type 0) (A O : FileName → Type 0) (v : View) → K v.files → HasStreamed K A A O O v v
streams_nothing K A O v agrees = record { agrees = agrees; covers = λ name at. inl at; opens = λ name at. at; changes = stays v }

-- one call after another
pub streamed_then : (K L : Option Folder → Type 0) (A B C O P Q : FileName → Type 0) (u v w : View) → HasStreamed K A B O P u v → HasStreamed L B C P Q v w
    → HasStreamed L A C O Q u w
streamed_then K L A B C O P Q u v w first second = record {
  agrees = second.agrees;
  covers = λ name at. ⊎_elim (λ before. first.covers name before) (λ mine. inr (first.opens name mine)) (second.covers name at);
  opens = λ name at. first.opens name (second.opens name at);
  changes = then_same u v w Same first.changes second.changes;
}

-- the next call may follow
pub can_still : (K L : Option Folder → Type 0) (A B O P : FileName → Type 0) (u v : View) → CanStream K O u → HasStreamed L A B O P u v → CanStream L P v
can_still K L A B O P u v can has = record { there = λ name at. there_still u v name has.changes (can.there name (has.opens name at)); agrees = has.agrees }

-- ---- faults

on_damage : (P Q : Damage → Type 0) (f : ReadFault) → ((damage : Damage) → P damage → Q damage) → OnDamage P f → OnDamage Q f
on_damage P Q fault.Failed follows is = tt
on_damage P Q fault.OutOfMemory follows is = tt
on_damage P Q (fault.Damaged damage) follows is = follows damage is

pub on_err : {T : Type 0} (P Q : Damage → Type 0) (r : Result T ReadFault) → ((damage : Damage) → P damage → Q damage) → IfErr r (OnDamage P)
    → IfErr r (OnDamage Q)
on_err P Q (Ok x) follows is = tt
on_err P Q (Err f) follows is = on_damage P Q f follows is

-- nothing failed
pub fails_nothing : {T L : Type 0} (Shows : Damage → Type 0) (Leaves : L → Type 0) (v : View) (x : T) → StreamFaults Shows Shows Leaves v v (Ok x)
fails_nothing Shows Leaves v x = record {
  causes = record { disk = omega arith; out = refl; reads = omega arith; ok = refl; failed = tt; memory = tt; damaged = tt };
  damaged = tt;
  undamaged = tt;
  shows = λ damage is. is;
}

-- a fault of reads behind reads that didn't fail
cause_then : {R T : Type 0} (a b c : View) (x : R) (r : Result T ReadFault) → ReadCost (b.reads - a.reads) a b (Ok x) → ReadCost (c.reads - b.reads) b c r
    → ReadCost (c.reads - a.reads) a c r
cause_then a b c x (Ok y) one two = record { disk = omega (arith, one.disk, two.disk); out = two.out ∙ one.out; reads = omega arith; ok = two.ok ∙ one.ok; failed = tt; memory = tt; damaged = tt }
cause_then a b c x (Err f) one two = record {
  disk = omega (arith, one.disk, two.disk);
  out = two.out ∙ one.out;
  reads = omega arith;
  ok = tt;
  failed = λ is. failed_behind a.disk_faults b.disk_faults c.disk_faults c.failed_last one.ok (two.failed is);
  memory = λ is. two.memory is ∙ one.ok;
  damaged = λ damage is. two.damaged damage is ∙ one.ok;
}

cause_handed : {R T : Type 0} (a b : View) (f : ReadFault) → ReadCost {T = R} (b.reads - a.reads) a b (Err f) → ReadCost {T = T} (b.reads - a.reads) a b (Err f)
cause_handed a b f one = record { disk = one.disk; out = one.out; reads = one.reads; ok = tt; failed = one.failed; memory = one.memory; damaged = one.damaged }

-- one call after another
pub faults_then : {R T L M : Type 0} (Shown Mid Shows : Damage → Type 0) (Leaves : L → Type 0) (Later : M → Type 0) (u v w : View) (x : R) (r : Result T ReadFault) → ((l : L) → Leaves l → (m : M) × Later m)
    → StreamFaults Shown Mid Leaves u v (Ok x) → StreamFaults Mid Shows Later v w r → StreamFaults Shown Shows Leaves u w r
faults_then Shown Mid Shows Leaves Later u v w x r goes first second = record {
  causes = cause_then u v w x r first.causes second.causes;
  damaged = on_err Mid Shown r first.shows second.damaged;
  undamaged = on_err (λ _. (m : _) → Later m → ⊥) (λ _. (l : _) → Leaves l → ⊥) r (λ damage no l is. (let m = goes l is in no m.0 m.1)) second.undamaged;
  shows = λ damage is. first.shows damage (second.shows damage is);
}

-- a fault that is handed on
pub faults_handed : {R T L M : Type 0} (Shown Shows : Damage → Type 0) (Leaves : L → Type 0) (Other : M → Type 0) (u v : View) (r : Result R ReadFault) (f : ReadFault) → r ≡ Err f → ((m : M) → Other m → (l : L) × Leaves l)
    → StreamFaults Shown Shows Leaves u v r → StreamFaults {T = T} Shown Shows Other u v (Err f)
faults_handed {R} {T} {L} {M} Shown Shows Leaves Other u v r f is goes one = by (subst (λ (k : Result R ReadFault). StreamFaults Shown Shows Leaves u v k) is one)
  where
    by : StreamFaults {T = R} Shown Shows Leaves u v (Err f) → StreamFaults {T = T} Shown Shows Other u v (Err f)
    by one = record {
      causes = cause_handed u v f one.causes;
      damaged = one.damaged;
      undamaged = on_damage (λ _. (l : L) → Leaves l → ⊥) (λ _. (m : M) → Other m → ⊥) f (λ damage no m is. (let l = goes m is in no l.0 l.1)) one.undamaged;
      shows = one.shows;
    }

-- another answer after the same calls
pub faults_ok : {R T L M : Type 0} (Shown Shows : Damage → Type 0) (Leaves : L → Type 0) (Other : M → Type 0) (u v : View) (x : R) (y : T)
    → StreamFaults Shown Shows Leaves u v (Ok x) → StreamFaults Shown Shows Other u v (Ok y)
faults_ok Shown Shows Leaves Other u v x y one = record {
  causes = record { disk = one.causes.disk; out = one.causes.out; reads = one.causes.reads; ok = one.causes.ok; failed = tt; memory = tt; damaged = tt };
  damaged = tt;
  undamaged = tt;
  shows = one.shows;
}

-- fewer shown afterwards, and what leaves more
pub faults_as : {T L M : Type 0} (Shown Shows Fewer : Damage → Type 0) (Leaves : L → Type 0) (Other : M → Type 0) (u v : View) (r : Result T ReadFault)
    → ((damage : Damage) → Fewer damage → Shows damage) → ((m : M) → Other m → (l : L) × Leaves l)
    → StreamFaults Shown Shows Leaves u v r → StreamFaults Shown Fewer Other u v r
faults_as Shown Shows Fewer Leaves Other u v r fewer goes one = record {
  causes = one.causes;
  damaged = one.damaged;
  undamaged = on_err (λ _. (l : _) → Leaves l → ⊥) (λ _. (m : _) → Other m → ⊥) r (λ damage no m is. (let l = goes m is in no l.0 l.1)) one.undamaged;
  shows = λ damage is. one.shows damage (fewer damage is);
}

-- a call that lacks memory, behind reads that didn't fail
pub faults_memory : {R T L M : Type 0} (Shown Shows : Damage → Type 0) (Leaves : L → Type 0) (Other : M → Type 0) (u v : View) (x : R) → StreamFaults Shown Shows Leaves u v (Ok x)
    → StreamFaults {T = T} Shown Shows Other u v (Err fault.OutOfMemory)
faults_memory Shown Shows Leaves Other u v x one = record {
  causes = record { disk = one.causes.disk; out = one.causes.out; reads = one.causes.reads; ok = tt; failed = λ is. cc; memory = λ is. one.causes.ok; damaged = λ damage is. cc };
  damaged = tt;
  undamaged = tt;
  shows = one.shows;
}

-- fewer opened afterwards
pub streamed_as : (K : Option Folder → Type 0) (A B O P Q : FileName → Type 0) (u v : View) → ((name : FileName) → Q name → P name)
    → HasStreamed K A B O P u v → HasStreamed K A B O Q u v
streamed_as K A B O P Q u v fewer one = record { agrees = one.agrees; covers = one.covers; opens = λ name is. one.opens name (fewer name is); changes = one.changes }

-- ---- the call that fails

pub spent_err : {T : Type 0} (Pays : ℕ → Type 0) (most before now : ℕ) (r : Result T ReadFault) (f : ReadFault) → r ≡ Err f → Spends Pays most before now r
    → now ≤ before + most
spent_err Pays most before now (Ok v) f is spent = cc
spent_err Pays most before now (Err e) f is spent = spent

pub on_ok : {T : Type 0} (P Q : Type 0) (r : Result T ReadFault) → (P → Q) → OnOk r P → OnOk r Q
on_ok P Q (Ok v) follows is = follows is
on_ok P Q (Err f) follows is = tt
