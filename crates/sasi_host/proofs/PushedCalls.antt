-- What one more call of a host in memory adds and changes.
use Rattle.std.specs.Prelude.{◌≡◌, ◌⊎◌, ℕ, zero, suc, ◌≤◌, List, [], ◌∷◌, ◌++◌, length, take, Some, refl}
use Rattle.std.proofs.Common.{inl, inr, ⊎_elim, sym, ◌∙◌, ap, subst, arith, length-append}
use Rattle.std.proofs.lemmas.List.{append-nil}
use Rattle.sasi_host.specs.declared.call.Call.{Call}
use Rattle.sasi_host.specs.Names.{Bytes, Folder}
use Rattle.sasi_host.specs.View.{FailsOnlyAsTold, View}
use Rattle.sasi_host.specs.Disk.{Changes, Relation}
use Rattle.sasi_host.specs.Counts.{Counts}
use Rattle.sasi_host.specs.Calls.{Medium, apply, Effect, output, step, replay, LeftNow, LeftDuring, LeftSince, opened, view_after}
use Rattle.sasi_host.specs.CallLaws.{now_since, applies_well, some_same}

-- one more call is one more step
pub replay_push : (m : Medium) (calls : List Call) (call : Call) → replay m (calls ++ call ∷ []) ≡ step (replay m calls) call
replay_push m [] call = refl
replay_push m (c ∷ calls) call = replay_push (step m c) calls call

-- one more call adds the moments within it, and the one after it
pub since_push : (m : Medium) (calls : List Call) (call : Call) (t : ℕ) (c : Folder) (e : Bytes) → t ≤ length calls
    → LeftSince m (calls ++ call ∷ []) t c e
    → LeftSince m calls t c e ⊎ (LeftDuring (replay m calls) call c e ⊎ LeftNow (step (replay m calls) call) c e)
since_push m [] call zero c e le left = elim left [ inl now ↦ inl now | inr later ↦ inr later ]
since_push m [] call (suc t) c e le left = absurd (omega arith)
since_push m (first ∷ calls) call zero c e le left = elim left [
  | inl now ↦ inl (inl now)
  | inr later ↦ elim later [
    | inl within ↦ inl (inr (inl within))
    | inr rest ↦ ⊎_elim (λ old. inl (inr (inr old))) (λ new. inr new) (since_push (step m first) calls call zero c e (omega arith) rest)
  ]
]
since_push m (first ∷ calls) call (suc t) c e le left = since_push (step m first) calls call t c e (omega arith) left

-- and keeps the earlier ones
pub since_keeps : (m : Medium) (calls : List Call) (call : Call) (t : ℕ) (c : Folder) (e : Bytes) → LeftSince m calls t c e
    → LeftSince m (calls ++ call ∷ []) t c e
since_keeps m [] call zero c e left = inl left
since_keeps m [] call (suc t) c e left = absurd left
since_keeps m (first ∷ calls) call zero c e left = elim left [
  | inl now ↦ inl now
  | inr later ↦ elim later [
    | inl within ↦ inr (inl within)
    | inr rest ↦ inr (inr (since_keeps (step m first) calls call zero c e rest))
  ]
]
since_keeps m (first ∷ calls) call (suc t) c e left = since_keeps (step m first) calls call t c e left

-- each first part of what it emits is one of its moments
pub fronts_since : (m : Medium) (calls : List Call) (call : Call) (t : ℕ) (c : Folder) (k : ℕ) → t ≤ length calls → (replay m calls).image c
    → LeftSince m (calls ++ call ∷ []) t c ((replay m calls).emitted ++ take k (output call))
fronts_since m [] call zero c k le now = inr (inl (now, k, refl))
fronts_since m [] call (suc t) c k le now = absurd (omega arith)
fronts_since m (first ∷ calls) call zero c k le now = inr (inr (fronts_since (step m first) calls call zero c k (omega arith) now))
fronts_since m (first ∷ calls) call (suc t) c k le now = fronts_since (step m first) calls call t c k (omega arith) now

-- no bytes have no first part but themselves
take_none : (k : ℕ) → take {A = ℕ} k [] ≡ []
take_none zero = refl
take_none (suc k) = refl

-- other counts beside the same folder
pub recounted : (S : Relation) (start begin : Folder) (old new : List Call) (m n k : Counts) → Changes S (view_after start old m) (view_after begin new n)
    → k.emits ≡ m.emits → FailsOnlyAsTold (view_after start old m) (view_after begin new k) → Changes S (view_after start old m) (view_after begin new k)
recounted S start begin old new m n k change emits told = record {
  seen = change.seen;
  untold = change.untold;
  image = change.image;
  during = record { later = change.during.later; left = change.during.left };
  emitted = change.emitted;
  emits = emits;
  told = told;
}

-- the same counts tell of no call that failed
pub told_same : (start begin : Folder) (old new : List Call) (m : Counts) → FailsOnlyAsTold (view_after start old m) (view_after begin new m)
told_same start begin old new m = record {
  failing = refl;
  calls = omega arith;
  emits = omega arith;
  refused = omega arith;
  disk = inl refl;
  out = inl refl;
}

module _ (start : Folder) (calls : List Call) (counts : Counts) where
  -- one more call, which emits nothing
  pub pushed : (call : Call) → output call ≡ []
      → Changes (Effect call (replay (opened start) calls).folder) (view_after start calls counts) (view_after start (calls ++ call ∷ []) counts)
  pushed call quiet =
      subst (λ (m : Medium). Changes (Effect call before.folder) (view_after start calls counts) (tells m)) (sym (replay_push (opened start) calls call)) changes
    where
      before : Medium
      before = replay (opened start) calls

      tells : Medium → View
      tells m = record {
        files = Some m.folder;
        emitted = Some m.emitted;
        image = m.image;
        moment = length (calls ++ call ∷ []);
        left = LeftSince
            (opened start) (calls ++ call ∷ []);
        disk_faults = counts.disk_faults;
        out_faults = counts.out_faults;
        reads = counts.reads;
        calls = counts.calls;
        emits = counts.emits;
        failed_last = counts.failed_last;
        refused = counts.refused;
        failing = counts.failing;
      }

      changes : Changes (Effect call before.folder) (view_after start calls counts) (tells (step before call))
      changes = record {
        seen = λ f is. (apply call before.folder, refl, subst (λ (g : Folder). Effect call before.folder g (apply call before.folder)) (some_same _ _ is) (applies_well call before.folder));
        untold = λ is. cc;
        image = λ c now. now;
        during = record {
          later = omega (arith, length-append calls (call ∷ []));
          left = λ t c e le gone. elim (since_push (opened start) calls call t c e le gone) [
            | inl old ↦ inl old
            | inr new ↦ elim new [
              | inl within ↦ inl (now_since (opened start) calls t c e le (within.0, within.2 ∙ no_more within.1))
              | inr now ↦ inr (now.0.0, now.0.1, now.0.2, ap (λ (b : Bytes). Some b) (sym (now.1 ∙ all_out)))
            ]
          ];
        };
        emitted = ap (λ (b : Bytes). Some b) all_out;
        emits = refl;
        told = record {
          failing = refl;
          calls = omega arith;
          emits = omega arith;
          refused = omega arith;
          disk = inl refl;
          out = inl refl;
        };
      }
        where
          all_out : before.emitted ++ output call ≡ before.emitted
          all_out = ap (λ (b : Bytes). before.emitted ++ b) quiet ∙ append-nil before.emitted

          no_more : (k : ℕ) → before.emitted ++ take k (output call) ≡ before.emitted
          no_more k =
              ap (λ (b : Bytes). before.emitted ++ take k b) quiet ∙ ap (λ (b : Bytes). before.emitted ++ b) (take_none k) ∙ append-nil before.emitted
