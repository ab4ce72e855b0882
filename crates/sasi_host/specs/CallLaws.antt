-- The laws of what a host in memory tells, from what its calls do to the folder.
use Rattle.std.specs.Prelude.{◌≡◌, ℕ, zero, suc, ◌+◌, ◌-◌, ◌≤◌, nat_le, Bool, true, false, if◌then◌else◌, List, [], ◌∷◌, ◌++◌, length, take, drop, Option, Some, None, refl}
use Rattle.std.proofs.Common.{inr, sym, ap, subst, arith, append_assoc, length-append, length-drop}
use Rattle.std.proofs.lemmas.List.{take_at, drop_at}
use Rattle.std.specs.FinMap.{get, insert}
use Rattle.sasi_host.specs.declared.name.FileName.{FileName}
use Rattle.sasi_host.specs.declared.call.Call.{Call}
use Rattle.sasi_host.specs.declared.call.Call.TheVariants.{Created, Wrote, Synced, Deleted, FolderSynced, Emitted, Put}
use Rattle.sasi_host.specs.Names.{Bytes, Folder}
use Rattle.sasi_host.specs.View.{IsSound}
use Rattle.sasi_host.specs.Disk.{FileChange, InPlace, Torn, overlay}
use Rattle.sasi_host.specs.Counts.{Counts}
use Rattle.sasi_host.specs.Files.{FitsAll, overwritten, written}
use Rattle.sasi_host.specs.NameLaws.{insert_here, insert_apart, remove_here, remove_apart}
use Rattle.std.proofs.lemmas.Bool.{leb-true}
use Rattle.std.proofs.lemmas.List.{length-take}
use Rattle.sasi_host.specs.Calls.{Medium, apply, Effect, step, replay, LeftNow, LeftSince, opened, view_after}

-- A call's effect on what the folder reads is one that a crash may leave.
abbrev pub AppliesWell : Type 0
AppliesWell = (call : Call) (f : Folder) → Effect call f f (apply call f)

-- now is one of the moments since an earlier one
pub now_since : (m : Medium) (calls : List Call) (t : ℕ) (c : Folder) (e : Bytes) → t ≤ length calls → LeftNow (replay m calls) c e
    → LeftSince m calls t c e
now_since m [] zero c e le now = now
now_since m [] (suc t) c e le now = absurd (omega arith)
now_since m (call ∷ calls) zero c e le now = inr (inr (now_since (step m call) calls zero c e (omega arith) now))
now_since m (call ∷ calls) (suc t) c e le now = now_since (step m call) calls t c e (omega arith) now

-- since the last call there is no other moment
pub since_last : (m : Medium) (calls : List Call) (c : Folder) (e : Bytes) → LeftSince m calls (length calls) c e → LeftNow (replay m calls) c e
since_last m [] c e left = left
since_last m (call ∷ calls) c e left = since_last (step m call) calls c e left

-- what the folder reads is an image
pub reads_image : AppliesWell → (m : Medium) (calls : List Call) → m.image m.folder → (replay m calls).image (replay m calls).folder
reads_image well m [] here = here
reads_image well m (call ∷ calls) here = reads_image well (step m call) calls (m.folder, here, well call m.folder)

-- a whole write is one of those that a crash may leave
torn_by : (old : Bytes) (at : ℕ) (bytes : Bytes) → at ≤ length old → Torn at (length bytes) old (overlay old at bytes)
torn_by old at bytes le = record {
  before = simp append_assoc (take_at (take at old) (bytes ++ drop (at + length bytes) old) at front);
  after = drop_at (take at old ++ bytes) (drop (at + length bytes) old) (at + length bytes) (omega (arith, front, length-append (take at old) bytes));
  no_shorter = omega (arith, long, le);
  no_longer = omega (arith, long, le);
}
  where
    front : length (take at old) ≡ at
    front = omega (arith, length-take at old, le)

    long : length (overlay old at bytes) ≡ at + length bytes + (length old - (at + length bytes))
    long =
        omega
        (arith, front, length-append (take at old ++ bytes) (drop (at + length bytes) old), length-append (take at old) bytes, length-drop (at + length bytes) old)

-- no write at all is one, too
itself : (at n : ℕ) (b : Bytes) → Torn at n b b
itself at n b = record { before = refl; after = refl; no_shorter = omega arith; no_longer = omega arith }

-- the same of a file that may not be there
pub stays_on : (at n : ℕ) (o : Option Bytes) → InPlace (Torn at n) o o
stays_on at n None = tt
stays_on at n (Some b) = itself at n b

-- a write that may leave a gap does what a crash may leave of it
overwrites_well : (old : Bytes) (at : ℕ) (bytes : Bytes) → Torn at (length bytes) old (overwritten old at bytes)
overwrites_well old at bytes = from (nat_le at (length old)) refl
  where
    from : (t : Bool) → nat_le at (length old) ≡ t → Torn at (length bytes) old (if t then overlay old at bytes else old)
    from true e = torn_by old at bytes (leb-true at (length old) e)
    from false e = itself at (length bytes) old

-- a write does to the folder what a crash may leave of it
pub writes_well : (file : FileName) (at : ℕ) (bytes : Bytes) (f : Folder) (o : Option Bytes) → get f file ≡ o
    → FileChange file (InPlace (Torn at (length bytes))) f (written o file at bytes f)
writes_well file at bytes f None is = record { others = λ name apart. refl; this = stays_on at (length bytes) (get f file) }
writes_well file at bytes f (Some old) is = record {
  others = λ name apart. insert_apart f file name (overwritten old at bytes) apart;
  this = subst (λ (o : Option Bytes). InPlace (Torn at (length bytes)) o (get (insert f file (overwritten old at bytes)) file)) (sym is)
      (subst (λ (o : Option Bytes). InPlace (Torn at (length bytes)) (Some old) o) (sym (insert_here f file (overwritten old at bytes))) (overwrites_well old at bytes));
}

-- the same of each call
pub applies_well : AppliesWell
applies_well (Created file) f = record { others = λ name apart. insert_apart f file name [] apart; this = inr (insert_here f file []) }
applies_well (Wrote file at bytes) f = writes_well file at bytes f (get f file) refl
applies_well (Synced file) f = (refl, λ a b is is2. cc)
applies_well (Deleted file) f = record { others = λ name apart. remove_apart f file name apart; this = inr (remove_here f file) }
applies_well FolderSynced f = (refl, λ name. refl)
applies_well (Emitted bytes) f = refl
applies_well (Put file bytes) f = refl

-- an option has one value
pub some_same : {T : Type 0} (a b : T) → Some a ≡ Some b → a ≡ b
some_same a b is = cc

module _ (start : Folder) (calls : List Call) (counts : Counts) where
  -- the laws of what is told
  pub sound : FitsAll (replay (opened start) calls).folder → IsSound (view_after start calls counts)
  sound fits = record {
    told = λ c now. refl;
    reads = λ f is. subst (λ (g : Folder). (replay (opened start) calls).image g) (some_same _ _ is) (reads_image applies_well (opened start) calls refl);
    counts_now = λ t c e le now. now_since (opened start) calls t c e le (now.0, sym (some_same _ _ now.1));
    only_now = λ c e left. let now = since_last (opened start) calls c e left in (now.0, ap (λ (b : Bytes). Some b) (sym now.1));
    fits = fits.each;
  }
