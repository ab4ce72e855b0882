-- How the pages of a file are dropped: each page is looked at once, the one used longest ago first.
use Rattle.std.proofs.Common.{◌≡◌, ◌≢◌, ◌+◌, ◌-◌, ◌<◌, ◌≤◌, ℕ, Bool, true, false, cond, not, List, [], ◌∷◌, ◌++◌, length, take, slice_get, Contains, Option, Some, None, refl, sym, ap, subst, ◌∙◌, ⊎_elim, arith, length-append, append_assoc, append-nil, true≢false}
use Rattle.std.specs.List.{AllByRecursion, IsDistinct}
use Rattle.std.specs.Map.{keys_of, lookup_entry, remove_entry}
use Rattle.std.specs.Option.{option_map_or}
use Rattle.std.proofs.lemmas.List.Elements.{filter-append}
use Rattle.std.proofs.Math.Seq.{take-append_seam}
use Rattle.lru.proofs.Splits.{Contains-cons, Contains-head, Contains-nil, Contains-tail, cut_last, last_from}
use Rattle.lru.specs.LruCache.{last_entry, lru_cache, promoted}
use Rattle.sasi_host.specs.declared.name.FileName.{FileName}
use Rattle.sasi_host.specs.Names.{Folder, name_eq}
use Rattle.sasi_cache.specs.declared.page_key.PageKey.{PageKey}
use Rattle.sasi_cache.specs.Pages.{ArePages, Covers, Entry, Pages, key_eq, keys_equal, names_equal, without}

-- ---- the page used longest ago

pub last_is : (front : List Entry) (last : Entry) → last_entry (front ++ last ∷ []) ≡ Some last
last_is front last = ap (λ (n : ℕ). slice_get (front ++ last ∷ []) n) (omega (arith, length-append front (last ∷ []))) ∙ at_end front
  where
    at_end : (es : List Entry) → slice_get (es ++ last ∷ []) (length es) ≡ Some last
    at_end [] = refl
    at_end (e ∷ es) = at_end es

-- dropped
without_last : (front : List Entry) (last : Entry) → take (length (front ++ last ∷ []) - 1) (front ++ last ∷ []) ≡ front
without_last front last = ap (λ (n : ℕ). take n (front ++ last ∷ [])) (omega (arith, length-append front (last ∷ []))) ∙ take-append_seam front (last ∷ [])

-- or found, where no key stands twice, and put in front
module _ (test : PageKey → Bool) where
  found : (front : List Entry) (last : Entry) → ((e : Entry) → Contains front e → test e.0 ≡ false) → test last.0 ≡ true → lookup_entry test (front ++ last ∷ []) ≡ Some last
  found [] last apart passes = ap (λ (b : Bool). cond b (Some last) None) passes
  found (e ∷ front) last apart passes =
      ap (λ (b : Bool). cond b (Some e) (lookup_entry test (front ++ last ∷ []))) (apart e (Contains-head e front)) ∙ found front last (λ f has. apart f (Contains-tail e front f has)) passes

  taken : (front : List Entry) (last : Entry) → ((e : Entry) → Contains front e → test e.0 ≡ false) → test last.0 ≡ true → remove_entry test (front ++ last ∷ []) ≡ front
  taken [] last apart passes = ap (λ (b : Bool). cond b [] (last ∷ [])) passes
  taken (e ∷ front) last apart passes =
      ap (λ (b : Bool). cond b (front ++ last ∷ []) (e ∷ remove_entry test (front ++ last ∷ []))) (apart e (Contains-head e front))
      ∙ ap (λ (l : List Entry). e ∷ l) (taken front last (λ f has. apart f (Contains-tail e front f has)) passes)

  in_front : (front : List Entry) (last : Entry) → ((e : Entry) → Contains front e → test e.0 ≡ false) → test last.0 ≡ true → promoted test (front ++ last ∷ []) ≡ last ∷ front
  in_front front last apart passes =
      ap (λ (o : Option Entry). option_map_or (λ (e : Entry). e ∷ remove_entry test (front ++ last ∷ [])) o (front ++ last ∷ [])) (found front last apart passes)
      ∙ ap (λ (l : List Entry). last ∷ l) (taken front last apart passes)

last_differs : (key : PageKey) (front : List Entry) (last : Entry) → AllByRecursion (λ k. key_eq key k ≡ false) (keys_of (front ++ last ∷ [])) → key_eq key last.0 ≡ false
last_differs key [] last all = all.0
last_differs key (e ∷ front) last all = last_differs key front last all.1

apart_last : (front : List Entry) (last : Entry) → IsDistinct key_eq (keys_of (front ++ last ∷ [])) → (e : Entry) → Contains front e → key_eq last.0 e.0 ≡ false
unfolding IsDistinct
apart_last [] last distinct e has = absurd (Contains-nil e has)
apart_last (f ∷ front) last distinct e has = ⊎_elim
    (λ same. subst (λ (g : Entry). key_eq last.0 g.0 ≡ false) same (keys_equal.symm last.0 f.0 ∙ last_differs f.0 front last distinct.0))
    (λ later. apart_last front last distinct.1 e later)
    (Contains-cons f front e has)

-- ---- one page

pub drops_last : (file : FileName) (front : List Entry) (last : Entry) → name_eq last.0.file file ≡ true → take (length (front ++ last ∷ []) - 1) (front ++ last ∷ []) ≡ without file (last ∷ []) ++ front
drops_last file front last of = without_last front last ∙ sym (ap (λ (b : Bool). cond (not b) (last ∷ []) [] ++ front) of)

pub moves_last : (file : FileName) (front : List Entry) (last : Entry) → name_eq last.0.file file ≡ false → IsDistinct key_eq (keys_of (front ++ last ∷ []))
    → promoted (key_eq last.0) (front ++ last ∷ []) ≡ without file (last ∷ []) ++ front
moves_last file front last of distinct =
    in_front (key_eq last.0) front last (apart_last front last distinct) (keys_equal.refl last.0) ∙ sym (ap (λ (b : Bool). cond (not b) (last ∷ []) [] ++ front) of)

-- ---- all pages

-- of all the pages those at the end were looked at, in so many turns
pub record Forgets (file : FileName) (all now : List Entry) (turns : ℕ) : Type 0 where
  pub left : List Entry
  pub done : List Entry
  pub parts : all ≡ left ++ done
  pub order : now ≡ without file done ++ left
  pub count : length left + turns ≡ length all

pub forgets_none : (file : FileName) (all : List Entry) → Forgets file all all 0
forgets_none file all = record { left = all; done = []; parts = sym (append-nil all); order = refl; count = omega arith }

-- one more
pub forgets_one : (file : FileName) (all now next : List Entry) (turns : ℕ) → Forgets file all now turns → turns < length all
    → ((front : List Entry) (last : Entry) → now ≡ front ++ last ∷ [] → next ≡ without file (last ∷ []) ++ front) → Forgets file all next (turns + 1)
forgets_one file all now next turns so more step = by so.left refl
  where
    by : (left : List Entry) → so.left ≡ left → Forgets file all next (turns + 1)
    by [] is = absurd (omega (arith, more, so.count, ap (λ (l : List Entry). length l) is))
    by (e ∷ es) is =
        let cut = cut_last e es in
        let last = last_from e es in
        let left : so.left ≡ cut.0 ++ last ∷ [] = is ∙ cut.1 in
        record {
          left = cut.0;
          done = last ∷ so.done;
          parts = so.parts ∙ ap (λ (l : List Entry). l ++ so.done) left ∙ append_assoc cut.0 (last ∷ []) so.done;
          order = step (without file so.done ++ cut.0) last (so.order ∙ ap (λ (l : List Entry). without file so.done ++ l) left ∙ sym (append_assoc (without file so.done) cut.0 (last ∷ [])))
              ∙ sym (append_assoc (without file (last ∷ [])) (without file so.done) cut.0)
              ∙ ap (λ (l : List Entry). l ++ cut.0) (sym (filter-append (λ (f : Entry). not (name_eq f.0.file file)) (last ∷ []) so.done));
          count = omega (arith, so.count, ap (λ (l : List Entry). length l) left, length-append cut.0 (last ∷ []));
        }

-- and at the end all
pub forgets_all : (file : FileName) (all now : List Entry) (turns : ℕ) → Forgets file all now turns → length all ≤ turns → now ≡ without file all
forgets_all file all now turns so ends = by so.left refl
  where
    by : (left : List Entry) → so.left ≡ left → now ≡ without file all
    by [] is =
        so.order ∙ ap (λ (l : List Entry). without file so.done ++ l) is ∙ append-nil (without file so.done)
        ∙ ap (λ (l : List Entry). without file l) (sym (so.parts ∙ ap (λ (l : List Entry). l ++ so.done) is))
    by (e ∷ es) is = absurd (let few : length so.left ≡ 0 = omega (arith, so.count, ends) in omega (arith, few, ap (λ (l : List Entry). length l) is))

-- ---- which files are left

-- what is left was there, and isn't of the file
left_of : (file : FileName) (es : List Entry) (e : Entry) → Contains (without file es) e → Contains es e × (name_eq e.0.file file ≡ false)
left_of file [] e has = absurd (Contains-nil e has)
left_of file (f ∷ es) e has = by (left_of file es e) (name_eq f.0.file file) refl
  where
    is_left : (b : Bool) → name_eq f.0.file file ≡ b → Contains (cond (not b) (f ∷ without file es) (without file es)) e
    is_left b is = subst (λ (l : List Entry). Contains l e) (ap (λ (t : Bool). cond (not t) (f ∷ without file es) (without file es)) is) has

    by : (Contains (without file es) e → Contains es e × (name_eq e.0.file file ≡ false)) → (b : Bool) → name_eq f.0.file file ≡ b → Contains (f ∷ es) e × (name_eq e.0.file file ≡ false)
    by later true is = (let on = later (is_left true is) in (Contains-tail f es e on.0, on.1))
    by later false is =
        ⊎_elim
        (λ same. (subst (λ (g : Entry). Contains (f ∷ es) g) same (Contains-head f es), ap (λ (g : Entry). name_eq g.0.file file) (sym same) ∙ is))
        (λ has. (let on = later has in (Contains-tail f es e on.0, on.1)))
        (Contains-cons f (without file es) e (is_left false is))

pub left_pages : (file : FileName) (files : Option Folder) (old new : Pages) → new ≡ lru_cache (without file old.entries) old.cap → ArePages files old.entries → ArePages files new.entries
left_pages file files old new is are e has = are e (left_of file old.entries e (subst (λ (p : Pages). Contains p.entries e) is has)).0

pub left_covers : (file name : FileName) (old new : Pages) → new ≡ lru_cache (without file old.entries) old.cap → Covers new.entries name → Covers old.entries name × (name ≢ file)
left_covers file name old new is covers =
    let left = left_of file old.entries covers.0 (subst (λ (p : Pages). Contains p.entries covers.0) is covers.1) in
    ((covers.0, left.0, covers.2), (λ same. true≢false (sym (names_equal.refl file) ∙ ap (λ (n : FileName). name_eq n file) (sym (covers.2 ∙ same)) ∙ left.1)))
