-- What a call makes of what a host in memory tells.
use Rattle.std.proofs.Common.{◌≡◌, ◌⊎◌, ◌≤◌, ◌-◌, ◌^◌, inl, inr, ⊎_elim, false, List, [], ◌∷◌, ◌++◌, Option, Some, Result, OnOk, is_err, refl, sym, ◌∙◌, ap, subst, arith}
use Rattle.std.proofs.lemmas.List.{append-nil}
use Rattle.sasi_host.specs.declared.name.FileName.{FileName}
use Rattle.sasi_host.specs.declared.call.Call.{Call}
use Rattle.sasi_host.specs.declared.call.Call.TheVariants.{Emitted}
use Rattle.sasi_host.specs.Names.{Bytes, Folder}
use Rattle.sasi_host.specs.View.{KeepsMoments, TellsPrefixes, Emits, AllOut, Failing, FailsOnlyAsTold, Rose, counted}
use Rattle.sasi_host.specs.Disk.{Relation, Changes, FileChange}
use Rattle.sasi_host.specs.Calls.{replay, opened, apply, output, Effect, view_after}
use Rattle.sasi_host.specs.Memory.{MemoryHost, counts_of, failing_of, host_view, begun_disk, begun_read, begun_emit, disk_failed, disk_refused, emit_failed, emit_refused, IsDiskToFail, IsEmitToFail}
use Rattle.sasi_host.proofs.PushedCalls.{recounted}
use Rattle.sasi_host.specs.CallLaws.{some_same}
use Rattle.sasi_host.proofs.CallChanges.{ok_from, step_same, unmoved, noted, keeps, emits_all, tells_prefixes, folder_on, emitted_on, image_on}

-- what the folder of a host reads
abbrev pub folder_now : MemoryHost → Folder
folder_now h = (replay (opened h.start) h.calls).folder

-- the second has the same folder and calls as the first
pub record IsStill (a b : MemoryHost) : Type 0 where
  pub start : b.start ≡ a.start
  pub calls : b.calls ≡ a.calls

-- the second has one call more
pub record HasDone (call : Call) (a b : MemoryHost) : Type 0 where
  pub start : b.start ≡ a.start
  pub calls : b.calls ≡ a.calls ++ call ∷ []

-- the host after it, which has this folder at its start and these calls
abbrev pub after_disk : MemoryHost → Folder → List Call → MemoryHost
after_disk begun start calls = record begun { start = start; calls = calls }

-- ---- what a call counts

-- a file call was made on the first, which is then the second
pub record Counted (a b : MemoryHost) : Type 0 where
  pub failing : failing_of b ≡ failing_of a
  pub calls : b.disk_calls ≡ counted a.disk_calls
  pub few : a.disk_calls ≤ 2 ^ 64 - 1
  pub emits : b.emits ≡ a.emits
  pub out : b.out_faults ≡ a.out_faults
  pub refused : a.refused ≤ b.refused
  pub disk : (b.disk_faults ≡ a.disk_faults) ⊎ Rose a.refused b.refused ⊎ IsDiskToFail a

pub told_call : (a b : MemoryHost) → Counted a b → FailsOnlyAsTold (host_view a) (host_view b)
told_call a b is = record {
  failing = ap (λ (f : Failing). Some f) is.failing;
  calls = omega (arith, is.calls, is.few);
  emits = omega (arith, is.emits);
  refused = is.refused;
  disk = ⊎_elim (λ same. inl same) (λ why. inr (⊎_elim (λ rose. inl rose) (λ fails. inr (record {
    calls = counted a.disk_calls;
    emits = a.emits;
    after = (omega arith, omega arith);
    by = (omega (arith, is.calls), omega (arith, is.emits));
    to_fail = fails;
  })) why)) is.disk;
  out = inl is.out;
}

-- it was done, or read something
pub begun_counts : (a b : MemoryHost) → b ≡ begun_disk a → a.disk_calls ≤ 2 ^ 64 - 1 → Counted a b
begun_counts a b is few = subst (Counted a) (sym is) (record { failing = refl; calls = refl; few = few; emits = refl; out = refl; refused = omega arith; disk = inl refl })

pub read_counts : (a b : MemoryHost) → b ≡ begun_read a → a.disk_calls ≤ 2 ^ 64 - 1 → Counted a b
read_counts a b is few = subst (Counted a) (sym is) (record { failing = refl; calls = refl; few = few; emits = refl; out = refl; refused = omega arith; disk = inl refl })

pub done_counts : (a b : MemoryHost) (start : Folder) (calls : List Call) → b ≡ begun_disk a → a.disk_calls ≤ 2 ^ 64 - 1 → Counted a (after_disk b start calls)
done_counts a b start calls is few = subst (λ (h : MemoryHost). Counted a (after_disk h start calls)) (sym is)
    (record { failing = refl; calls = refl; few = few; emits = refl; out = refl; refused = omega arith; disk = inl refl })

-- it was to fail
pub failed_counts : (a b : MemoryHost) → b ≡ disk_failed (begun_disk a) → IsDiskToFail a → a.disk_calls ≤ 2 ^ 64 - 1 → Counted a b
failed_counts a b is fails few = subst (Counted a) (sym is) (record { failing = refl; calls = refl; few = few; emits = refl; out = refl; refused = omega arith; disk = inr (inr fails) })

pub failed_read_counts : (a b : MemoryHost) → b ≡ disk_failed (begun_read a) → IsDiskToFail a → a.disk_calls ≤ 2 ^ 64 - 1 → Counted a b
failed_read_counts a b is fails few = subst (Counted a) (sym is) (record { failing = refl; calls = refl; few = few; emits = refl; out = refl; refused = omega arith; disk = inr (inr fails) })

-- it was refused memory
pub refused_counts : (a begun b : MemoryHost) (start : Folder) (calls : List Call) → begun ≡ begun_disk a → b ≡ disk_refused (after_disk begun start calls)
    → a.disk_calls ≤ 2 ^ 64 - 1 → begun.refused ≤ 2 ^ 64 - 1 → Counted a b
refused_counts a begun b start calls was is few fewer =
    let few_refused : a.refused ≤ 2 ^ 64 - 1 = subst (λ (h : MemoryHost). h.refused ≤ 2 ^ 64 - 1) was fewer in
    subst (Counted a) (sym (is ∙ ap (λ (h : MemoryHost). disk_refused (after_disk h start calls)) was))
    (record { failing = refl; calls = refl; few = few; emits = refl; out = refl; refused = omega (arith, few_refused); disk = inr (inl (omega arith)) })

-- an emit was made
pub record EmitCounted (a b : MemoryHost) : Type 0 where
  pub failing : failing_of b ≡ failing_of a
  pub calls : b.disk_calls ≡ a.disk_calls
  pub emits : b.emits ≡ counted a.emits
  pub few : a.emits ≤ 2 ^ 64 - 1
  pub disk : b.disk_faults ≡ a.disk_faults
  pub refused : a.refused ≤ b.refused
  pub out : (b.out_faults ≡ a.out_faults) ⊎ Rose a.refused b.refused ⊎ IsEmitToFail a

pub told_emit : (a b : MemoryHost) → EmitCounted a b → FailsOnlyAsTold (host_view a) (host_view b)
told_emit a b is = record {
  failing = ap (λ (f : Failing). Some f) is.failing;
  calls = omega (arith, is.calls);
  emits = omega (arith, is.emits, is.few);
  refused = is.refused;
  disk = inl is.disk;
  out = ⊎_elim (λ same. inl same) (λ why. inr (⊎_elim (λ rose. inl rose) (λ fails. inr (record {
    calls = a.disk_calls;
    emits = counted a.emits;
    after = (omega arith, omega arith);
    by = (omega (arith, is.calls), omega (arith, is.emits));
    to_fail = fails;
  })) why)) is.out;
}

pub emit_counts : (a b : MemoryHost) (start : Folder) (calls : List Call) → b ≡ begun_emit a → a.emits ≤ 2 ^ 64 - 1 → EmitCounted a (after_disk b start calls)
emit_counts a b start calls is few = subst (λ (h : MemoryHost). EmitCounted a (after_disk h start calls)) (sym is)
    (record { failing = refl; calls = refl; emits = refl; few = few; disk = refl; refused = omega arith; out = inl refl })

pub emit_failed_counts : (a b : MemoryHost) → b ≡ emit_failed (begun_emit a) → IsEmitToFail a → a.emits ≤ 2 ^ 64 - 1 → EmitCounted a b
emit_failed_counts a b is fails few = subst (EmitCounted a) (sym is) (record { failing = refl; calls = refl; emits = refl; few = few; disk = refl; refused = omega arith; out = inr (inr fails) })

pub emit_refused_counts : (a begun b : MemoryHost) (start : Folder) (calls : List Call) → begun ≡ begun_emit a → b ≡ emit_refused (after_disk begun start calls)
    → a.emits ≤ 2 ^ 64 - 1 → begun.refused ≤ 2 ^ 64 - 1 → EmitCounted a b
emit_refused_counts a begun b start calls was is few fewer =
    let few_refused : a.refused ≤ 2 ^ 64 - 1 = subst (λ (h : MemoryHost). h.refused ≤ 2 ^ 64 - 1) was fewer in
    subst (EmitCounted a) (sym (is ∙ ap (λ (h : MemoryHost). emit_refused (after_disk h start calls)) was))
    (record { failing = refl; calls = refl; emits = refl; few = few; disk = refl; refused = omega (arith, few_refused); out = inr (inl (omega arith)) })

-- ---- a call that did nothing

pub still_changes : (a b : MemoryHost) (S : Relation) → ((x : Folder) → S x x) → IsStill a b → Counted a b → Changes S (host_view a) (host_view b)
still_changes a b S same is counts =
    recounted S a.start b.start a.calls b.calls (counts_of a) (counts_of a) (counts_of b)
    (subst (λ (s : Folder). Changes S (host_view a) (view_after s b.calls (counts_of a))) (sym is.start)
    (unmoved a.start S same a.calls b.calls is.calls (counts_of a))) counts.emits (told_call a b counts)

pub still_folder : (a b : MemoryHost) → IsStill a b → folder_now b ≡ folder_now a
still_folder a b is =
    ap (λ (s : Folder). (replay (opened s) b.calls).folder) is.start ∙ ap (λ (calls : List Call). (replay (opened a.start) calls).folder) is.calls

-- as a change of one file
pub still_step : (a b : MemoryHost) (file : FileName) (R : Option Bytes → Option Bytes → Type 0) → ((o : Option Bytes) → R o o)
    → b.start ≡ a.start → b.calls ≡ a.calls → Counted a b → Changes (FileChange file R) (host_view a) (host_view b)
still_step a b file R same start calls counts = still_changes a b (FileChange file R) (step_same file R same) (record { start = start; calls = calls }) counts

-- no part of the bytes was emitted
pub still_emits : (a b : MemoryHost) (bytes : Bytes) → IsStill a b → EmitCounted a b → Emits bytes (host_view a) (host_view b)
still_emits a b bytes is counts =
    let same = unmoved a.start (λ x y. y ≡ x) (λ x. refl) a.calls b.calls is.calls (counts_of a) in
    let moved = subst (λ (s : Folder). Changes (λ x y. y ≡ x) (host_view a) (view_after s b.calls (counts_of a))) (sym is.start) same in
    record {
      front = [];
      back = bytes;
      parts = refl;
      out = some_same _ _ moved.emitted ∙ sym (append-nil _);
      files = let now = moved.seen (folder_now a) refl in now.1 ∙ ap (λ (f : Folder). Some f) now.2;
      image = λ folder now. let was = moved.image folder now in subst (host_view a).image (sym was.2) was.1;
      during = record {
        later = moved.during.later;
        left = λ t folder out le gone. ⊎_elim (λ was. inl was)
            (λ since. inr (subst (host_view a).image (sym since.2) since.1, out, 0, since.3, sym (append-nil out))) (moved.during.left t folder out le gone);
      };
      told = told_emit a b counts;
    }

-- ---- a call that was done

pub done_changes : (a b : MemoryHost) (call : Call) → output call ≡ [] → HasDone call a b → Counted a b
    → Changes (Effect call (folder_now a)) (host_view a) (host_view b)
done_changes a b call quiet is counts =
    recounted (Effect call (folder_now a)) a.start b.start a.calls b.calls (counts_of a) (counts_of a) (counts_of b)
    (subst (λ (s : Folder). Changes (Effect call (folder_now a)) (host_view a) (view_after s b.calls (counts_of a)))
    (sym is.start) (noted a.start a.calls b.calls call is.calls quiet (counts_of a))) counts.emits (told_call a b counts)

pub done_moments : (a b : MemoryHost) (call : Call) → HasDone call a b → KeepsMoments (host_view a) (host_view b)
done_moments a b call is =
    subst (λ (s : Folder). KeepsMoments (host_view a) (view_after s b.calls (counts_of b))) (sym is.start)
    (keeps a.start a.calls b.calls call is.calls (counts_of a) (counts_of b))

pub done_emits : (a b : MemoryHost) (bytes : Bytes) → HasDone (Emitted bytes) a b → EmitCounted a b → Emits bytes (host_view a) (host_view b)
done_emits a b bytes is counts =
    let same = subst (λ (s : Folder). Emits bytes (host_view a) (view_after s b.calls (counts_of a))) (sym is.start)
    (emits_all a.start bytes a.calls b.calls is.calls (counts_of a)) in
    record {
      front = same.front;
      back = same.back;
      parts = same.parts;
      out = same.out;
      files = same.files;
      image = same.image;
      during = record { later = same.during.later; left = same.during.left };
      told = told_emit a b counts;
    }

pub done_prefixes : (a b : MemoryHost) (bytes : Bytes) → HasDone (Emitted bytes) a b → TellsPrefixes bytes (host_view a) (host_view b)
done_prefixes a b bytes is =
    subst (λ (s : Folder). TellsPrefixes bytes (host_view a) (view_after s b.calls (counts_of b))) (sym is.start)
    (tells_prefixes a.start a.calls b.calls bytes is.calls (counts_of a) (counts_of b))

pub done_emitted : (a b : MemoryHost) (bytes : Bytes) → HasDone (Emitted bytes) a b → AllOut bytes (host_view a) (host_view b)
done_emitted a b bytes is =
    ap (λ (s : Folder). (replay (opened s) b.calls).emitted) is.start ∙ emitted_on a.start a.calls b.calls (Emitted bytes) is.calls

pub done_folder : (a b : MemoryHost) (call : Call) → HasDone call a b → folder_now b ≡ apply call (folder_now a)
done_folder a b call is = ap (λ (s : Folder). (replay (opened s) b.calls).folder) is.start ∙ folder_on a.start a.calls b.calls call is.calls

pub done_image : (a b : MemoryHost) (call : Call) → HasDone call a b → (image : Folder) → (host_view b).image image
    → (was : Folder) × (host_view a).image was × Effect call (folder_now a) was image
done_image a b call is image now =
    image_on a.start a.calls b.calls call is.calls image (subst (λ (s : Folder). (replay (opened s) b.calls).image image) is.start now)

-- ---- a call that the disk has done, which then has this folder at its start and these calls

module _ {T E : Type 0} (call : Call) (a begun : MemoryHost) (start : Folder) (calls : List Call) (r : Result T E)
    (worked : is_err r ≡ false) (done : OnOk r (calls ≡ begun.calls ++ call ∷ [])) (same : start ≡ a.start) (before : begun.calls ≡ a.calls) where
  has_done : HasDone call a (after_disk begun start calls)
  has_done = record { start = same; calls = ok_from r worked done ∙ ap (λ (l : List Call). l ++ call ∷ []) before }

  pub disk_moments : KeepsMoments (host_view a) (host_view (after_disk begun start calls))
  disk_moments = done_moments a (after_disk begun start calls) call has_done

  pub disk_folder : folder_now (after_disk begun start calls) ≡ apply call (folder_now a)
  disk_folder = done_folder a (after_disk begun start calls) call has_done

  pub disk_image : (image : Folder) → (host_view (after_disk begun start calls)).image image
      → (was : Folder) × (host_view a).image was × Effect call (folder_now a) was image
  disk_image = done_image a (after_disk begun start calls) call has_done

module _ {T E : Type 0} (call : Call) (a begun : MemoryHost) (start : Folder) (calls : List Call) (r : Result T E)
    (worked : is_err r ≡ false) (done : OnOk r (calls ≡ begun.calls ++ call ∷ [])) (same : start ≡ a.start) (before : begun ≡ begun_disk a) where
  pub disk_changes : output call ≡ [] → a.disk_calls ≤ 2 ^ 64 - 1 → Changes (Effect call (folder_now a)) (host_view a) (host_view (after_disk begun start calls))
  disk_changes quiet few = done_changes a (after_disk begun start calls) call quiet
      (has_done call a begun start calls r worked done same (ap (λ (h : MemoryHost). h.calls) before)) (done_counts a begun start calls before few)

module _ {T E : Type 0} (bytes : Bytes) (a begun : MemoryHost) (start : Folder) (calls : List Call) (r : Result T E)
    (worked : is_err r ≡ false) (done : OnOk r (calls ≡ begun.calls ++ Emitted bytes ∷ [])) (same : start ≡ a.start) (before : begun ≡ begun_emit a) where
  has_emitted : HasDone (Emitted bytes) a (after_disk begun start calls)
  has_emitted = has_done (Emitted bytes) a begun start calls r worked done same (ap (λ (h : MemoryHost). h.calls) before)

  pub disk_emits : a.emits ≤ 2 ^ 64 - 1 → Emits bytes (host_view a) (host_view (after_disk begun start calls))
  disk_emits few = done_emits a (after_disk begun start calls) bytes has_emitted (emit_counts a begun start calls before few)

  pub disk_emitted : AllOut bytes (host_view a) (host_view (after_disk begun start calls))
  disk_emitted = done_emitted a (after_disk begun start calls) bytes has_emitted

  pub disk_prefixes : TellsPrefixes bytes (host_view a) (host_view (after_disk begun start calls))
  disk_prefixes = done_prefixes a (after_disk begun start calls) bytes has_emitted
