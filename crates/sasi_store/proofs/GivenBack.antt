-- A view that is given back, of which the files are deleted that nothing else needs: the store can go on with its tasks, and serves what it did.
use Rattle.std.proofs.Common.{◌≡◌, ◌<◌, ◌-◌, ◌||◌, ◌&&◌, ℕ, Bool, true, false, not, nat_eq, is_some, List, [], ◌∷◌, slice_get, Option, None, Some, refl, sym, ap, ap₂, subst, ◌∙◌, arith}
use Rattle.std.proofs.lemmas.Bool.Decides.{nat_tests}
use Rattle.std.specs.FinMap.{get}
use Rattle.std.specs.List.{AllByRecursion, list_any}
use Rattle.sasi_host.proofs.ChangeLaws.{changes_as}
use Rattle.sasi_host.proofs.ContentLaws.{told_before, told_files}
use Rattle.sasi_host.specs.declared.name.FileName.{FileName}
use Rattle.sasi_host.specs.Disk.{Changes, Within}
use Rattle.sasi_host.specs.Names.{Bytes, Folder, data_name, name_eq, rank}
use Rattle.sasi_host.specs.View.{IsSound, View, contents_in}
use Rattle.sasi_layout.proofs.FileNameLaws.{name_same}
use Rattle.sasi_layout.proofs.KeptLaws.{keeps_listed}
use Rattle.sasi_layout.specs.Between.{Between}
use Rattle.sasi_layout.specs.Kept.{AreAside, is_kept}
use Rattle.sasi_layout.specs.Layout.{Layout, listing_of}
use Rattle.sasi_layout.specs.Serving.{CanChange, HasExactlyBeside, Serves, kept_by}
use Rattle.sasi_manifest.specs.Edits.{files_of}
use Rattle.sasi_manifest.specs.FileNames.{has_name}
use Rattle.sasi_manifest.specs.ListedDefinition.{ListedDefinition}
use Rattle.sasi_manifest.specs.OpenManifest.{ManifestState}
use Rattle.sasi_manifest.specs.declared.listing.Listing.{Listing}
use Rattle.sasi_views.specs.Books.{Book, count_of}
use Rattle.sasi_views.specs.Changes.{Given}
use Rattle.sasi_views.specs.Parts.{ListsOnce, components_of}
use Rattle.sasi_views.specs.declared.component.Component.TheVariants as component
use Rattle.sasi_views.specs.declared.part.Part.{Part}
use Rattle.sasi_tables.specs.TablesView.{IsOfParts, memory_of}
use Rattle.sasi_tables.specs.declared.parts.Parts.{Parts}
use Rattle.sasi_tasks.specs.MakesTaskMoves.{CanGoOn, KeepsHeld}
use Rattle.sasi_tasks.specs.Running.{AreTasksOf, IsUnheld, is_aside, is_begun, is_held}
use Rattle.sasi_tasks.specs.Tasks.{Task}
use Rattle.sasi_tasks.specs.Unheld.{AreGone, is_left, is_one_of}
use Rattle.sasi_tasks.specs.declared.running.RunningTask.{RunningTask}
use Rattle.sasi_store.specs.Cursors.{IsKeptPart, view_names}
use Rattle.sasi_store.proofs.ClosedFiles.{IsDeleted, deleted, deletes, deletes_low, deletes_unlisted, held_before, held_same, held_stays}
use Rattle.sasi_store.proofs.DeletedFiles.{can_deleted, nothing_moved, serves_deleted, tasks_can_still, tasks_deleted}
use Rattle.sasi_store.proofs.HeldFiles.{held_some}
use Rattle.sasi_store.proofs.KeptTasks.{aside_used}
use Rattle.sasi_store.proofs.OpenedTasks.{tasks_alike}

never : true ≡ false → ⊥
never e = cc

-- what holds of all of these names holds of one that is among them
all_found : (P : FileName → Type 0) (names : List FileName) → AllByRecursion P names → (name : FileName) → list_any (name_eq name) names ≡ true → P name
all_found P [] all name is = cc
all_found P (n ∷ ns) all name is = by (name_eq name n) refl is (all_found P ns all.1 name)
  where
    by : (b : Bool) → name_eq name n ≡ b → (b || list_any (name_eq name) ns) ≡ true → (list_any (name_eq name) ns ≡ true → P name) → P name
    by true own later rest = subst P (sym (name_same name n own)) all.0
    by false other later rest = rest later

-- a file that a task has begun isn't held
begun_unheld : (views : Book) (name : FileName) (rs : List RunningTask) → AllByRecursion (λ (r : RunningTask). IsUnheld views r.task.compaction.number) rs → is_held views name ≡ true → is_begun rs name ≡ false
begun_unheld views name [] all held = refl
begun_unheld views name (r ∷ rs) all held = by (name_eq name (data_name r.task.compaction.number)) refl (begun_unheld views name rs all.1 held)
  where
    by : (b : Bool) → name_eq name (data_name r.task.compaction.number) ≡ b → is_begun rs name ≡ false → ((b && is_some r.task.output) || is_begun rs name) ≡ false
    by false other rest = rest
    by true own rest = absurd (all.0 name (ap (λ (n : FileName). n.number) (name_same name (data_name r.task.compaction.number) own)) held)

module _ (a b : View) (p : Parts) (tasks : List RunningTask) (was views : Book) (table : ℕ) (row : ListedDefinition) (there : slice_get p.manifest.listing.tables (table - 1) ≡ Some row) (ps : List Part) (on : CanGoOn a was p tasks)
    (given : Given was views (components_of ps)) (once : ListsOnce ps) (kept : AllByRecursion (IsKeptPart p table) ps) (change : Changes (Within (is_one_of (is_left was (files_of p.manifest.listing.tables table)) (view_names ps))) a b) where
  -- ---- the files

  abbrev mine : FileName → Bool
  mine = deletes p table row there was views ps given once kept

  pub low : (n : FileName) → rank n.kind < 3 → mine n ≡ false
  low = deletes_low p table row there was views ps given once kept

  pub unlisted : (n : FileName) → has_name p.manifest.listing.tables n ≡ true → mine n ≡ false
  unlisted = deletes_unlisted p table row there was views ps given once kept

  before : (n : FileName) → is_held views n ≡ true → is_held was n ≡ true
  before = held_before p table row there was views ps given once kept

  abbrev IsOut : FileName → Type 0
  IsOut = IsDeleted p table row there was views ps given once kept

  out_of : (n : FileName) → mine n ≡ true → IsOut n
  out_of = deleted p table row there was views ps given once kept

  was_held : (n : FileName) → mine n ≡ true → is_held was n ≡ true
  was_held n is = held_some was n (omega (arith, (out_of n is).was_one))

  pub held_change : Changes (KeepsHeld views) a b
  held_change =
      changes_as a b (Within mine) (KeepsHeld views) change
      (λ x y step n held. step n (held_stays p table row there was views ps given once kept n held))

  -- no task's
  apart : (rs : List RunningTask) → AllByRecursion (λ (r : RunningTask). IsUnheld was r.task.compaction.number) rs → AllByRecursion (λ (r : RunningTask). mine (data_name r.task.compaction.number) ≡ false) rs
  apart [] all = tt
  apart (r ∷ rs) all = (by (mine (data_name r.task.compaction.number)) refl, apart rs all.1)
    where
      by : (b : Bool) → mine (data_name r.task.compaction.number) ≡ b → b ≡ false
      by false other = refl
      by true own = absurd (all.0 (data_name r.task.compaction.number) refl (was_held (data_name r.task.compaction.number) own))

  unheld : (rs : List RunningTask) → AllByRecursion (λ (r : RunningTask). IsUnheld was r.task.compaction.number) rs → AllByRecursion (λ (r : RunningTask). IsUnheld views r.task.compaction.number) rs
  unheld [] all = tt
  unheld (r ∷ rs) all = ((λ n own held. all.0 n own (before n held)), unheld rs all.1)

  -- ---- the folder

  record IsFrom (folder : Folder) : Type 0 where
    pub former : Folder
    pub told : a.files ≡ Some former
    pub step : Within mine former folder

  from : (folder : Folder) → b.files ≡ Some folder → IsFrom folder
  from folder files =
      let first = told_files a (told_before (Within mine) a b change (ap (λ (o : Option Folder). is_some o) files)) in
      let seen = change.seen first.0 first.1 in
      let same : seen.0 ≡ folder = (let both : Some seen.0 ≡ Some folder = sym seen.1 ∙ files in cc) in
      record { former = first.0; told = first.1; step = subst (Within mine first.0) same seen.2 }

  abbrev aside_was : FileName → Bool
  aside_was = is_aside was tasks p.manifest.listing

  abbrev aside : FileName → Bool
  aside = is_aside views tasks p.manifest.listing

  aside_before : (n : FileName) → aside n ≡ true → aside_was n ≡ true
  aside_before n = by (has_name p.manifest.listing.tables n) (is_held views n) (is_held was n) (is_begun tasks n) (before n)
    where
      by : (h x y s : Bool) → (x ≡ true → y ≡ true) → (not h && (x || s)) ≡ true → (not h && (y || s)) ≡ true
      by true x y s still all = all
      by false x true s still all = refl
      by false true false s still all = absurd (never (sym (still refl)))
      by false false false s still all = all

  aside_are : AreAside p.numbers.«data» aside
  aside_are =
      let first = aside_used a was p tasks on in
      record { kind = λ n has. first.kind n (aside_before n has); number = λ n has. first.number n (aside_before n has) }

  -- what isn't deleted stands where it stood
  aside_left : (n : FileName) → mine n ≡ false → aside_was n ≡ aside n
  aside_left n other = by (has_name p.manifest.listing.tables n) refl
    where
      by : (h : Bool) → has_name p.manifest.listing.tables n ≡ h → (not h && (is_held was n || is_begun tasks n)) ≡ (not h && (is_held views n || is_begun tasks n))
      by true has = refl
      by false none = ap (λ x. x || is_begun tasks n) (sym (held_same p table row there was views ps given once kept n other none))

  -- and what is deleted is kept for nothing
  gone_now : (n : FileName) → mine n ≡ true → (aside n || is_kept (kept_by (memory_of p)) n) ≡ false
  gone_now n own =
      let out = out_of n own in
      let held : is_held views n ≡ false = (let zero : nat_eq (count_of views (component.File n)) 0 ≡ true = grind (arith, nat_tests, out.now_none) in ap not zero) in
      let begun = begun_unheld was n tasks on.unheld (was_held n own) in
      let kept = keeps_listed (kept_by (memory_of p)) n (on.held_are.kind n (was_held n own)) ∙ out.unlisted in
      ap₂ (λ x k. (not (has_name p.manifest.listing.tables n) && (x || is_begun tasks n)) || k) held kept
      ∙ ap₂ (λ h s. (not h && (false || s)) || false) out.unlisted begun

  exactly_now : AreGone (is_left was (files_of p.manifest.listing.tables table)) b (view_names ps) → HasExactlyBeside b aside (memory_of p)
  exactly_now gone folder files n = by (mine n) refl
    where
      left : (x y : Bool) → (x && y) ≡ true → y ≡ true
      left true y is = is
      left false y is = cc

      by : (m : Bool) → mine n ≡ m → is_some (get folder n) ≡ (aside n || is_kept (kept_by (memory_of p)) n)
      by false other =
          let f = from folder files in
          ap (λ (o : Option Bytes). is_some o) (f.step n other) ∙ on.exactly f.former f.told n ∙ ap (λ x. x || is_kept (kept_by (memory_of p)) n) (aside_left n other)
      by true own =
          let chosen = left (list_any (name_eq n) (view_names ps)) (is_left was (files_of p.manifest.listing.tables table) n) own in
          let absent = all_found _ (view_names ps) gone n (out_of n own).own chosen in
          let none : get folder n ≡ None = sym (ap (λ (o : Option Folder). contents_in o n) files) ∙ absent in
          ap (λ (o : Option Bytes). is_some o) none ∙ sym (gone_now n own)

  -- ---- the store

  -- **The tasks go on.**
  pub goes_on_given : AreGone (is_left was (files_of p.manifest.listing.tables table)) b (view_names ps) → (new : Parts) → new.manifest ≡ p.manifest → new.numbers.«data» ≡ p.numbers.«data» → memory_of new ≡ memory_of p → IsOfParts new → CanGoOn b views new tasks
  goes_on_given gone new manifest_is numbers_are memory_is of = record {
    can = subst (CanChange b) (sym memory_is) (can_deleted a b mine change low (memory_of p) on.can aside aside_are (exactly_now gone));
    parts = of;
    ready = tasks_alike a b p new (λ i. (manifest_is i).listing) numbers_are tasks (tasks_can_still a b mine change low p unlisted tasks on.ready.each (apart tasks on.unheld)) on.ready;
    held_are = record { kind = λ n held. on.held_are.kind n (before n held); number = λ n held. omega (arith, on.held_are.number n (before n held), numbers_are) };
    unheld = unheld tasks on.unheld;
    exactly = subst (λ (m : ManifestState). HasExactlyBeside b (is_aside views tasks m.listing) (memory_of new)) (sym manifest_is) (subst (HasExactlyBeside b aside) (sym memory_is) (exactly_now gone));
  }

  -- ---- a layout

  unlisted_in : (l : Layout) → Serves a (memory_of p) l → (n : FileName) → has_name (listing_of l).tables n ≡ true → mine n ≡ false
  unlisted_in l serves n has = unlisted n (ap (λ (k : Listing). has_name k.tables n) serves.listing ∙ has)

  -- **It is served still,**
  pub serves_given : (l : Layout) → Serves a (memory_of p) l → Serves b (memory_of p) l
  serves_given l serves = serves_deleted a b mine change low l (unlisted_in l serves) (memory_of p) serves

  -- **with its tasks,**
  pub tasks_given : (l : Layout) (ks : List Task) → AreTasksOf a l tasks ks → AreTasksOf b l tasks ks
  tasks_given l ks are = tasks_deleted a b mine change low p unlisted l tasks ks on.ready.each (apart tasks on.unheld) are

  -- **and no move is made.**
  pub given_moment : IsSound a → (l : Layout) → Serves a (memory_of p) l → Changes (λ x y. Between l [] y) a b
  given_moment sound l serves = nothing_moved a b mine change low l (unlisted_in l serves) (memory_of p) sound serves
