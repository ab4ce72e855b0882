-- What each call of a host in memory changes.
use Rattle.std.proofs.Common.{◌≡◌, inl, inr, true, false, List, [], ◌∷◌, ◌++◌, length, take, sym, ◌∙◌, ap, subst, arith, Option, Some, refl, Result, Ok, Err, OnOk, OnErr, is_err, length-append}
use Rattle.std.proofs.lemmas.List.{append-nil, take_all}
use Rattle.std.specs.FinMap.{get}
use Rattle.sasi_host.specs.declared.name.FileName.{FileName}
use Rattle.sasi_host.specs.declared.call.Call.{Call}
use Rattle.sasi_host.specs.declared.call.Call.TheVariants.{Emitted}
use Rattle.sasi_host.specs.Names.{Bytes, Folder}
use Rattle.sasi_host.specs.View.{KeepsMoments, TellsPrefixes, Emits}
use Rattle.sasi_host.specs.Disk.{Changes, FileChange}
use Rattle.sasi_host.specs.Counts.{Counts}
use Rattle.sasi_host.proofs.FailingLaws.{told_none}
use Rattle.sasi_host.specs.Calls.{Medium, apply, Effect, output, step, replay, opened, view_after, LeftSince}
use Rattle.sasi_host.proofs.PushedCalls.{told_same, since_keeps, fronts_since, pushed, replay_push, since_push}
use Rattle.sasi_host.specs.CallLaws.{some_same}

-- a clause on a result that is known to be Ok
pub ok_from : {T E P : Type 0} (r : Result T E) → is_err r ≡ false → OnOk r P → P
ok_from (Ok x) is p = p
ok_from (Err x) is p = cc

-- and on one that is an error
pub err_from : {T E P : Type 0} (r : Result T E) → is_err r ≡ true → OnErr r P → P
err_from (Ok x) is p = cc
err_from (Err x) is p = p

-- a call that isn't in the log
pub unmoved : (start : Folder) → (S : Folder → Folder → Type 0) → ((x : Folder) → S x x) → (old new : List Call) → new ≡ old → (m : Counts)
    → Changes S (view_after start old m) (view_after start new m)
unmoved start S same old new is m = subst (λ (calls : List Call). Changes S (view_after start old m) (view_after start calls m)) (sym is) (record {
  seen = λ f told. (f, told, same f);
  untold = λ told. told;
  image = λ c now. (c, now, same c);
  during = record { later = omega arith; left = λ t c e le gone. inl gone };
  emitted = refl;
  emits = refl;
  told = told_none (view_after start old m);
})

-- a file that stays as it was, and all others
pub step_same : (file : FileName) (R : Option Bytes → Option Bytes → Type 0) → ((o : Option Bytes) → R o o) → (f : Folder) → FileChange file R f f
step_same file R same f = record { others = λ name apart. refl; this = same (get f file) }

-- a call that is in the log
pub noted : (start : Folder) → (old new : List Call) (call : Call) → new ≡ old ++ call ∷ [] → output call ≡ [] → (m : Counts)
    → Changes (Effect call (replay (opened start) old).folder) (view_after start old m) (view_after start new m)
noted start old new call is quiet m =
    subst
    (λ (calls : List Call). Changes (Effect call (replay (opened start) old).folder) (view_after start old m) (view_after start calls m))
    (sym is) (pushed start old m call quiet)

-- what the folder reads after one more call
pub folder_on : (start : Folder) → (old new : List Call) (call : Call) → new ≡ old ++ call ∷ []
    → (replay (opened start) new).folder ≡ apply call (replay (opened start) old).folder
folder_on start old new call is =
    ap (λ (calls : List Call). (replay (opened start) calls).folder) is ∙ ap (λ (m : Medium). m.folder) (replay_push (opened start) old call)

-- what is emitted after one more call
pub emitted_on : (start : Folder) → (old new : List Call) (call : Call) → new ≡ old ++ call ∷ []
    → (replay (opened start) new).emitted ≡ (replay (opened start) old).emitted ++ output call
emitted_on start old new call is =
    ap (λ (calls : List Call). (replay (opened start) calls).emitted) is ∙ ap (λ (m : Medium). m.emitted) (replay_push (opened start) old call)

-- the images after one more call
pub image_on : (start : Folder) → (old new : List Call) (call : Call) → new ≡ old ++ call ∷ [] → (c : Folder) → (replay (opened start) new).image c
    → (d : Folder) × (replay (opened start) old).image d × Effect call (replay (opened start) old).folder d c
image_on start old new call is c now =
    subst (λ (m : Medium). m.image c) (ap (λ (calls : List Call). replay (opened start) calls) is ∙ replay_push (opened start) old call) now

-- an emit that is in the log
pub emits_all : (start : Folder) → (bytes : Bytes) (old new : List Call) → new ≡ old ++ Emitted bytes ∷ [] → (m : Counts)
    → Emits bytes (view_after start old m) (view_after start new m)
emits_all start bytes old new is m = subst (λ (calls : List Call). Emits bytes (view_after start old m) (view_after start calls m)) (sym is) (record {
  front = bytes;
  back = [];
  parts = sym (append-nil bytes);
  out = ap (λ (m : Medium). m.emitted) after;
  files = ap (λ (m : Medium). Some m.folder) after;
  image = λ c now. let i = image_on start old (old ++ Emitted bytes ∷ []) (Emitted bytes) refl c now in subst before.image (sym i.2) i.1;
  during = record {
    later = omega (arith, length-append old (Emitted bytes ∷ []));
    left = λ t c e le gone. elim (since_push (opened start) old (Emitted bytes) t c e le gone) [
      | inl was ↦ inl was
      | inr new ↦ elim new [
        | inl within ↦ inr (within.0, before.emitted, within.1, refl, within.2)
        | inr now ↦ inr (subst before.image (sym now.0.2) now.0.1, before.emitted, length bytes, refl, whole e now.1)
      ]
    ];
  };
  told = told_same start start old (old ++ Emitted bytes ∷ []) m;
})
  where
    before : Medium
    before = replay (opened start) old

    whole : (b : Bytes) → b ≡ before.emitted ++ bytes → b ≡ before.emitted ++ take (length bytes) bytes
    whole b e = e ∙ ap (λ (l : Bytes). before.emitted ++ l) (sym (take_all (length bytes) bytes (omega arith)))

    after : replay (opened start) (old ++ Emitted bytes ∷ []) ≡ step before (Emitted bytes)
    after = replay_push (opened start) old (Emitted bytes)

-- one more call keeps the earlier moments
pub keeps : (start : Folder) (old new : List Call) (call : Call) → new ≡ old ++ call ∷ [] → (m n : Counts)
    → KeepsMoments (view_after start old m) (view_after start new n)
keeps start old new call is m n t c e le left =
    subst (λ (calls : List Call). LeftSince (opened start) calls t c e) (sym is) (since_keeps (opened start) old call t c e left)

-- and each first part of what it emits counts
pub tells_prefixes : (start : Folder) (old new : List Call) (bytes : Bytes) → new ≡ old ++ Emitted bytes ∷ [] → (m n : Counts)
    → TellsPrefixes bytes (view_after start old m) (view_after start new n)
tells_prefixes start old new bytes is m n t c b k le now told =
    subst (λ (calls : List Call). LeftSince (opened start) calls t c (b ++ take k bytes)) (sym is)
    (subst (λ (w : Bytes). LeftSince (opened start) (old ++ Emitted bytes ∷ []) t c (w ++ take k bytes)) (some_same _ _ told) (fronts_since (opened start) old (Emitted bytes) t c k le now))

-- ---- what a host in memory keeps of its folder

-- a call that is in the log and took effect, or neither
pub folder_kept : {T E : Type 0} (start : Folder) (old new : List Call) (f g : Folder) (call : Call) (r : Result T E)
    → f ≡ (replay (opened start) old).folder → OnOk r ((new ≡ old ++ call ∷ []) × (g ≡ apply call f)) → OnErr r ((new ≡ old) × (g ≡ f))
    → g ≡ (replay (opened start) new).folder
folder_kept start old new f g call (Ok x) is done none = done.1 ∙ ap (apply call) is ∙ sym (folder_on start old new call done.0)
folder_kept start old new f g call (Err x) is done none = none.1 ∙ is ∙ ap (λ (calls : List Call). (replay (opened start) calls).folder) (sym none.0)

-- a call that changes nothing that is read
pub folder_still : {T E : Type 0} (start : Folder) (old new : List Call) (f : Folder) (call : Call) (r : Result T E)
    → ((g : Folder) → apply call g ≡ g) → f ≡ (replay (opened start) old).folder → OnOk r (new ≡ old ++ call ∷ []) → OnErr r (new ≡ old)
    → f ≡ (replay (opened start) new).folder
folder_still start old new f call (Ok x) same is done none = is ∙ sym (folder_on start old new call done ∙ same _)
folder_still start old new f call (Err x) same is done none = is ∙ ap (λ (calls : List Call). (replay (opened start) calls).folder) (sym none)

-- a call that emits nothing
pub emitted_kept : {T E : Type 0} (start : Folder) (old new : List Call) (out : Bytes) (call : Call) (r : Result T E) → output call ≡ []
    → out ≡ (replay (opened start) old).emitted → OnOk r (new ≡ old ++ call ∷ []) → OnErr r (new ≡ old) → out ≡ (replay (opened start) new).emitted
emitted_kept start old new out call (Ok x) quiet is done none =
    is ∙ sym (emitted_on start old new call done ∙ ap (λ (b : Bytes). (replay (opened start) old).emitted ++ b) quiet ∙ append-nil _)
emitted_kept start old new out call (Err x) quiet is done none = is ∙ ap (λ (calls : List Call). (replay (opened start) calls).emitted) (sym none)

-- an emit that is in the log and took effect, or neither
pub emitted_more : {T E : Type 0} (start : Folder) (old new : List Call) (out more bytes : Bytes) (r : Result T E)
    → out ≡ (replay (opened start) old).emitted → OnOk r ((new ≡ old ++ Emitted bytes ∷ []) × (more ≡ out ++ bytes))
    → OnErr r ((new ≡ old) × (more ≡ out)) → more ≡ (replay (opened start) new).emitted
emitted_more start old new out more bytes (Ok x) is done none =
    done.1 ∙ ap (λ (b : Bytes). b ++ bytes) is ∙ sym (emitted_on start old new (Emitted bytes) done.0)
emitted_more start old new out more bytes (Err x) is done none =
    none.1 ∙ is ∙ ap (λ (calls : List Call). (replay (opened start) calls).emitted) (sym none.0)
