-- The tasks of a store after a step of one of them: it has another state, and the others are as they were.
use Rattle.std.proofs.Common.{◌≡◌, ◌∙◌, ◌||◌, ◌&&◌, ◌≤◌, ℕ, zero, suc, Bool, true, false, is_some, not, List, [], ◌∷◌, slice_get, Some, refl, sym, ap, subst, arith}
use Rattle.std.specs.List.{AllByRecursion, slice_set}
use Rattle.sasi_host.specs.declared.name.FileName.{FileName}
use Rattle.sasi_host.specs.Names.{data_name, name_eq, rank}
use Rattle.sasi_host.specs.View.{View}
use Rattle.sasi_layout.proofs.FileNameLaws.{name_itself, name_same}
use Rattle.sasi_layout.specs.Kept.{AreAside}
use Rattle.sasi_manifest.specs.FileNames.{has_name}
use Rattle.sasi_compact.specs.declared.task.CompactTask.{CompactTask}
use Rattle.sasi_tables.specs.declared.parts.Parts.{Parts}
use Rattle.sasi_tasks.specs.Running.{AreApart, IsApartFrom, IsTaskReady, is_aside, is_begun, is_held}
use Rattle.sasi_tasks.specs.declared.running.RunningTask.{RunningTask}
use Rattle.sasi_views.specs.Books.{Book}

never : true ≡ false → ⊥
never e = cc

-- the task with another state
abbrev pub stepped : RunningTask → CompactTask → RunningTask
stepped r task = record { table = r.table; task = task }

abbrev pub number_of : RunningTask → ℕ
number_of o = o.task.compaction.number

-- ---- what is said of each of them

module _ (r : RunningTask) (task : CompactTask) (P Q : RunningTask → Type 0) (own : Q (stepped r task)) (step : (o : RunningTask) → (number_of o ≡ number_of r → ⊥) → P o → Q o) where
  rest_after : (rs : List RunningTask) → IsApartFrom rs r → AllByRecursion P rs → AllByRecursion Q rs
  rest_after [] apart all = tt
  rest_after (o ∷ rs) apart all = (step o apart.0.1 all.0, rest_after rs apart.1 all.1)

  apart_at : (x : RunningTask) (rs : List RunningTask) (at : ℕ) → slice_get rs at ≡ Some r → IsApartFrom rs x → number_of x ≡ number_of r → ⊥
  apart_at x [] at there apart = cc
  apart_at x (o ∷ rs) zero there apart = (let one : o ≡ r = cc in λ same. apart.0.1 (ap (λ (k : RunningTask). number_of k) one ∙ sym same))
  apart_at x (o ∷ rs) (suc at) there apart = apart_at x rs at there apart.1

  -- **What holds of each before holds of each after the step.**
  pub each_after : (rs : List RunningTask) (at : ℕ) → slice_get rs at ≡ Some r → AreApart rs → AllByRecursion P rs → AllByRecursion Q (slice_set rs at (stepped r task))
  each_after [] at there apart all = cc
  each_after (x ∷ rs) zero there apart all = (let one : x ≡ r = cc in (own, rest_after rs (subst (IsApartFrom rs) one apart.0) all.1))
  each_after (x ∷ rs) (suc at) there apart all = (step x (apart_at x rs at there apart.0) all.0, each_after rs at there apart.1 all.1)

-- ---- they are apart as before

module _ (r : RunningTask) (task : CompactTask) (same : task.compaction.number ≡ number_of r) where
  from_after : (x : RunningTask) (rs : List RunningTask) (at : ℕ) → slice_get rs at ≡ Some r → IsApartFrom rs x → IsApartFrom (slice_set rs at (stepped r task)) x
  from_after x [] at there apart = cc
  from_after x (o ∷ rs) zero there apart =
      let one : o ≡ r = cc in
      (((λ is. apart.0.0 (ap (λ (k : RunningTask). k.table) one ∙ is)), (λ is. apart.0.1 (ap (λ (k : RunningTask). number_of k) one ∙ sym same ∙ is))), apart.1)
  from_after x (o ∷ rs) (suc at) there apart = (apart.0, from_after x rs at there apart.1)

  from_own : (rs : List RunningTask) → IsApartFrom rs r → IsApartFrom rs (stepped r task)
  from_own [] apart = tt
  from_own (o ∷ rs) apart = ((apart.0.0, (λ is. apart.0.1 (is ∙ same))), from_own rs apart.1)

  pub apart_after : (rs : List RunningTask) (at : ℕ) → slice_get rs at ≡ Some r → AreApart rs → AreApart (slice_set rs at (stepped r task))
  apart_after [] at there apart = cc
  apart_after (x ∷ rs) zero there apart = (let one : x ≡ r = cc in (from_own rs (subst (IsApartFrom rs) one apart.0), apart.1))
  apart_after (x ∷ rs) (suc at) there apart = (from_after x rs at there apart.0, apart_after rs at there apart.1)

  -- ---- their files

  apart_name : (a b : ℕ) → (a ≡ b → ⊥) → name_eq (data_name b) (data_name a) ≡ false
  apart_name a b apart = by (name_eq (data_name b) (data_name a)) refl
    where
      by : (x : Bool) → name_eq (data_name b) (data_name a) ≡ x → name_eq (data_name b) (data_name a) ≡ false
      by false is = is
      by true is = absurd (apart (ap (λ (n : FileName). n.number) (sym (name_same (data_name b) (data_name a) is))))

  -- another name is that of a task exactly where it was
  pub other_begun : (name : FileName) → name_eq name (data_name (number_of r)) ≡ false → (rs : List RunningTask) (at : ℕ) → slice_get rs at ≡ Some r → is_begun (slice_set rs at (stepped r task)) name ≡ is_begun rs name
  other_begun name other [] at there = cc
  other_begun name other (x ∷ rs) zero there =
      let one : x ≡ r = cc in
      let now : name_eq name (data_name task.compaction.number) ≡ false = ap (λ n. name_eq name (data_name n)) same ∙ other in
      let was : name_eq name (data_name (number_of x)) ≡ false = ap (λ (k : RunningTask). name_eq name (data_name (number_of k))) one ∙ other in
      ap (λ b. (b && is_some task.output) || is_begun rs name) now ∙ sym (ap (λ b. (b && is_some x.task.output) || is_begun rs name) was)
  other_begun name other (x ∷ rs) (suc at) there = ap (λ b. (name_eq name (data_name (number_of x)) && is_some x.task.output) || b) (other_begun name other rs at there)

  none_begun : (rs : List RunningTask) → IsApartFrom rs r → is_begun rs (data_name (number_of r)) ≡ false
  none_begun [] apart = refl
  none_begun (o ∷ rs) apart = ap (λ b. (b && is_some o.task.output) || is_begun rs (data_name (number_of r))) (apart_name (number_of o) (number_of r) apart.0.1) ∙ none_begun rs apart.1

  -- and its own is where it has an output
  pub own_begun : (rs : List RunningTask) (at : ℕ) → slice_get rs at ≡ Some r → AreApart rs → is_begun (slice_set rs at (stepped r task)) (data_name (number_of r)) ≡ is_some task.output
  own_begun [] at there apart = cc
  own_begun (x ∷ rs) zero there apart =
      let one : x ≡ r = cc in
      let own : name_eq (data_name (number_of r)) (data_name task.compaction.number) ≡ true = ap (λ n. name_eq (data_name (number_of r)) (data_name n)) same ∙ name_itself (data_name (number_of r)) in
      ap (λ b. (b && is_some task.output) || is_begun rs (data_name (number_of r))) own ∙ ap (λ b. is_some task.output || b) (none_begun rs (subst (IsApartFrom rs) one apart.0)) ∙ or_none (is_some task.output)
    where
      or_none : (x : Bool) → (x || false) ≡ x
      or_none true = refl
      or_none false = refl
  own_begun (x ∷ rs) (suc at) there apart =
      let other = apart_name (number_of x) (number_of r) (apart_at r task (λ k. Unit {0}) (λ k. Unit {0}) tt (λ k is all. tt) x rs at there apart.0) in
      ap (λ b. (b && is_some x.task.output) || is_begun (slice_set rs at (stepped r task)) (data_name (number_of r))) other ∙ own_begun rs at there apart.1

-- ---- files aside

begun_where : (used : ℕ) (os : List RunningTask) (name : FileName) → AllByRecursion (λ (o : RunningTask). number_of o ≤ used) os → is_begun os name ≡ true → (3 ≤ rank name.kind) × (name.number ≤ used)
begun_where used [] name all is = cc
begun_where used (o ∷ os) name all is = by (name_eq name (data_name (number_of o))) refl is (begun_where used os name all.1)
  where
    by : (b : Bool) → name_eq name (data_name (number_of o)) ≡ b → ((b && is_some o.task.output) || is_begun os name) ≡ true → (is_begun os name ≡ true → (3 ≤ rank name.kind) × (name.number ≤ used)) → (3 ≤ rank name.kind) × (name.number ≤ used)
    by true same begun rest =
        let one = name_same name (data_name (number_of o)) same in
        (subst (λ (n : FileName). 3 ≤ rank n.kind) (sym one) (omega arith), omega (arith, ap (λ (n : FileName). n.number) one, all.0))
    by false other begun rest = rest begun

used_each : (v : View) (p : Parts) (os : List RunningTask) → AllByRecursion (IsTaskReady v p) os → AllByRecursion (λ (o : RunningTask). number_of o ≤ p.numbers.«data») os
used_each v p [] all = tt
used_each v p (o ∷ os) all = (all.0.used, used_each v p os all.1)

-- what views list, and what tasks have begun, is aside
pub ready_aside : (v : View) (views : Book) (p : Parts) (os : List RunningTask) → AreAside p.numbers.«data» (is_held views) → AllByRecursion (IsTaskReady v p) os → AreAside p.numbers.«data» (is_aside views os p.manifest.listing)
ready_aside v views p os held all = record { kind = λ name is. (either name is).0; number = λ name is. (either name is).1 }
  where
    either : (name : FileName) → is_aside views os p.manifest.listing name ≡ true → (3 ≤ rank name.kind) × (name.number ≤ p.numbers.«data»)
    either name is = by (not (has_name p.manifest.listing.tables name)) (is_held views name) refl is
      where
        by : (n h : Bool) → is_held views name ≡ h → (n && (h || is_begun os name)) ≡ true → (3 ≤ rank name.kind) × (name.number ≤ p.numbers.«data»)
        by true true h_is both = (held.kind name h_is, held.number name h_is)
        by true false h_is both = begun_where p.numbers.«data» os name (used_each v p os all) both
        by false h h_is both = cc
