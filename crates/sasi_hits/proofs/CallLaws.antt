-- Calls that read one file, as calls on a stream.
use Rattle.std.proofs.Common.{◌≡◌, ℕ, ◌-◌, Option, IfErr, refl, sym, subst, ◌∙◌, inl, inr, ⊎_elim, arith, Result}
use Rattle.sasi_host.specs.declared.name.FileName.{FileName}
use Rattle.sasi_host.specs.declared.damage.Damage.{Damage}
use Rattle.sasi_host.specs.declared.fault.ReadFault.{ReadFault}
use Rattle.sasi_host.specs.Names.{Bytes, Folder}
use Rattle.sasi_host.specs.Buffered.{Buffered, IsBuffered}
use Rattle.sasi_host.specs.Damages.{DamageShown, OnDamage}
use Rattle.sasi_host.specs.Disk.{Changes, Same}
use Rattle.sasi_host.specs.PageReading.{CanRead, CanReadOn, HasRead, HasReadOn}
use Rattle.sasi_host.specs.View.{IsThere, ReadCost, View}
use Rattle.sasi_host.proofs.ContentLaws.{contents_same, there_where}
use Rattle.sasi_ranges.specs.StreamCalls.{CanStream, HasStreamed, StreamFaults}
use Rattle.sasi_ranges.proofs.Calling.{on_err}
use Rattle.sasi_hits.specs.Calls.{IsFile, ShowsIn}

-- ---- what is needed

pub can_read : (K : Option Folder → Type 0) (v : View) (file : FileName) → CanStream K (IsFile file) v → CanRead K v file
can_read K v file can = record { there = can.there file refl; agrees = can.agrees }

pub can_read_on : (K : Option Folder → Type 0) (v : View) (file : FileName) (h : Buffered) → h.file ≡ file → IsBuffered h v.files → CanStream K (IsFile file) v → CanReadOn K v h
can_read_on K v file h is buffered can = record { there = subst (λ (n : FileName). IsThere v n) (sym is) (can.there file refl); agrees = can.agrees; buffered = buffered }

-- ---- what is left

pub streamed : (K : Option Folder → Type 0) (A B : FileName → Type 0) (u v : View) (file : FileName) → HasRead K A B u v file → HasStreamed K A B (IsFile file) (IsFile file) u v
streamed K A B u v file read = record { agrees = read.agrees; covers = read.covers; opens = λ name at. at; changes = read.changes }

pub streamed_on : (K : Option Folder → Type 0) (A B : FileName → Type 0) (u v : View) (file : FileName) (h i : Buffered) → h.file ≡ file → HasReadOn K A B u v h i → HasStreamed K A B (IsFile file) (IsFile file) u v
streamed_on K A B u v file h i is read = record {
  agrees = read.agrees;
  covers = λ name at. ⊎_elim (λ before. inl before) (λ this. inr (this ∙ is)) (read.covers name at);
  opens = λ name at. at;
  changes = read.changes;
}

-- another name of the file
pub streamed_as_file : (K : Option Folder → Type 0) (A B : FileName → Type 0) (u v : View) (file other : FileName) → other ≡ file → HasStreamed K A B (IsFile other) (IsFile other) u v
    → HasStreamed K A B (IsFile file) (IsFile file) u v
streamed_as_file K A B u v file other is read = subst (λ (n : FileName). HasStreamed K A B (IsFile n) (IsFile n) u v) is read

pub can_as_file : (K : Option Folder → Type 0) (v : View) (file other : FileName) → other ≡ file → CanStream K (IsFile file) v → CanStream K (IsFile other) v
can_as_file K v file other is can = subst (λ (n : FileName). CanStream K (IsFile n) v) (sym is) can

-- ---- faults

-- the reads that were made bound themselves
pub own_cost : {T : Type 0} (u v : View) (n : ℕ) (r : Result T ReadFault) → ReadCost n u v r → ReadCost (v.reads - u.reads) u v r
own_cost u v n r one = record { disk = one.disk; out = one.out; reads = omega arith; ok = one.ok; failed = one.failed; memory = one.memory; damaged = one.damaged }

pub faults_of : {T L : Type 0} (file : FileName) (Shows : Bytes → Damage → Type 0) (Leaves : L → Type 0) (u v : View) (n : ℕ) (r : Result T ReadFault) → Changes Same u v → ReadCost n u v r
    → IfErr r (DamageShown u file Shows) → IfErr r (OnDamage (λ _. (l : L) → Leaves l → ⊥)) → StreamFaults (ShowsIn file Shows u.files) (ShowsIn file Shows v.files) Leaves u v r
faults_of file Shows Leaves u v n r change causes damaged undamaged = record {
  causes = own_cost u v n r causes;
  damaged = damaged;
  undamaged = undamaged;
  shows = λ damage is bytes reads. is bytes (contents_same u v file change ∙ reads);
}

-- what shows it in one way shows it in another
pub faults_shown : {T L : Type 0} (file : FileName) (Shows Tells : Bytes → Damage → Type 0) (Leaves : L → Type 0) (u v : View) (r : Result T ReadFault) → Changes Same u v
    → ((damage : Damage) → ShowsIn file Shows u.files damage → ShowsIn file Tells u.files damage)
    → StreamFaults (ShowsIn file Shows u.files) (ShowsIn file Shows v.files) Leaves u v r → StreamFaults (ShowsIn file Tells u.files) (ShowsIn file Tells v.files) Leaves u v r
faults_shown file Shows Tells Leaves u v r change tells one = record {
  causes = one.causes;
  damaged = on_err (ShowsIn file Shows u.files) (ShowsIn file Tells u.files) r tells one.damaged;
  undamaged = one.undamaged;
  shows = λ damage is bytes reads. is bytes (contents_same u v file change ∙ reads);
}

-- ---- one call after another

pub there_still : (a b : View) (was now : FileName) → Changes Same a b → now ≡ was → IsThere a was → IsThere b now
there_still a b was now change same there = there_where a b Same now change (contents_same a b now change) (subst (λ (n : FileName). IsThere a n) (sym same) there)

pub can_still_on : (K L : Option Folder → Type 0) (A B : FileName → Type 0) (u v : View) (h i : Buffered) → CanReadOn K u h → HasReadOn L A B u v h i → CanReadOn L v i
can_still_on K L A B u v h i can read = record { there = there_still u v h.file i.file read.changes read.file can.there; agrees = read.agrees; buffered = read.buffered }
