-- The tasks of a store when a cursor is opened: its table may be frozen, and its files are held once more. Each task can go on, and is the one of the layout that it was.
use Rattle.std.proofs.Common.{◌≡◌, ◌⊎◌, ◌≤◌, ◌-◌, ◌&&◌, ◌||◌, ℕ, Bool, true, false, not, if◌then◌else◌, nat_eq, is_some, List, [], ◌∷◌, slice_get, inl, inr, refl, sym, ap, subst, ◌∙◌, arith}
use Rattle.std.proofs.lemmas.Bool.Decides.{nat_tests}
use Rattle.std.specs.FinMap as map_
use Rattle.std.specs.FinMap.{get}
use Rattle.std.specs.List.{AllByRecursion, list_any}
use Rattle.sasi_host.specs.declared.name.FileName.{FileName}
use Rattle.sasi_host.specs.Names.{name_eq, rank}
use Rattle.sasi_host.specs.View.{View}
use Rattle.sasi_compact.specs.Tasks.{CanGoOn as TaskCanGoOn}
use Rattle.sasi_manifest.specs.FileNames.{has_name}
use Rattle.sasi_manifest.specs.OpenManifest.{ManifestState}
use Rattle.sasi_manifest.specs.declared.listing.Listing.{Listing}
use Rattle.sasi_layout.proofs.StillRunning.{AreOthers}
use Rattle.sasi_layout.specs.Compacting.{Compaction, IsRunning, TakesFirst}
use Rattle.sasi_layout.specs.Kept.{is_kept}
use Rattle.sasi_layout.specs.Layout.{Layout}
use Rattle.sasi_layout.specs.Moves.{Freeze, after_moves}
use Rattle.sasi_layout.specs.Serving.{CanChange, kept_by}
use Rattle.sasi_store.proofs.ListedNumbers.{listed_kind, listed_number}
use Rattle.sasi_tables.specs.Freezing.{freeze_where, holds_any}
use Rattle.sasi_tables.specs.TablesView.{IsOfParts, memory_of}
use Rattle.sasi_tables.specs.declared.parts.Parts.{Parts}
use Rattle.sasi_tasks.specs.MakesTaskMoves.{CanGoOn}
use Rattle.sasi_tasks.specs.Running.{AreTasksOf, AreTasksReady, IsTaskOf, IsTaskReady, IsUnheld, compaction_of, is_aside, is_begun, is_held}
use Rattle.sasi_tasks.specs.Tasks.{Task, source_map}
use Rattle.sasi_tasks.specs.declared.running.RunningTask.{RunningTask}
use Rattle.sasi_views.specs.Books.{Book, count_of}
use Rattle.sasi_views.specs.Changes.{Taken}
use Rattle.sasi_views.specs.Components.{lists}
use Rattle.sasi_views.specs.Parts.{components_of}
use Rattle.sasi_views.specs.declared.component.Component.TheVariants as component
use Rattle.sasi_views.specs.declared.part.Part.{Part}
use Rattle.sasi_store.specs.Cursors.{view_names}
use Rattle.sasi_store.proofs.CountedFiles.{view_lists}
use Rattle.sasi_store.proofs.KeptSources.{runs_still}

-- ---- a layout whose table is frozen

-- **What runs in it runs on.**
pub freeze_runs : (table : ℕ) (l : Layout) (c : Compaction) → IsRunning c l → IsRunning c (after_moves (freeze_where table l) l) × (source_map c (after_moves (freeze_where table l) l) ≡ source_map c l)
freeze_runs table l c is = runs_still (freeze_where table l) c l (by (holds_any table l)) is
  where
    by : (b : Bool) → AreOthers c (if b then Freeze table ∷ [] else [])
    by true = (tt, tt)
    by false = tt

-- So the tasks of a layout are those of one in which they run over the same partitions.
pub tasks_run : (v : View) (l m : Layout) → ((c : Compaction) → IsRunning c l → IsRunning c m × (source_map c m ≡ source_map c l)) → (rs : List RunningTask) (ks : List Task) → AreTasksOf v l rs ks → AreTasksOf v m rs ks
tasks_run v l m runs [] [] are = tt
tasks_run v l m runs [] (k ∷ ks) are = absurd are
tasks_run v l m runs (r ∷ rs) [] are = absurd are
tasks_run v l m runs (r ∷ rs) (k ∷ ks) are = (one are.0, tasks_run v l m runs rs ks are.1)
  where
    one : IsTaskOf v l r k → IsTaskOf v m r k
    one is = record {
      is = is.is;
      runs = (runs k.compaction is.runs).0;
      passed = is.passed;
      left = is.left;
      compacting = is.compacting;
      passed_is = is.passed_is;
      whole = is.whole ∙ ap map_.entries (sym (runs k.compaction is.runs).1);
      begun = is.begun;
    }

-- ---- parts with the same manifest and numbers

module _ (v w : View) (old new : Parts) (listing_is : new.manifest.listing ≡ old.manifest.listing) (used_is : new.numbers.«data» ≡ old.numbers.«data») where
  task_same : (r : RunningTask) → TaskCanGoOn w r.task → IsTaskReady v old r → IsTaskReady w new r
  task_same r can is = record {
    can = can;
    some = is.some;
    row = is.row;
    there = ap (λ (k : Listing). slice_get k.tables (r.table - 1)) listing_is ∙ is.there;
    types_are = is.types_are;
    partitioner_is = is.partitioner_is ∙ ap (λ (k : Listing). k.partitioner) (sym listing_is);
    takes = subst (λ (n : ℕ). TakesFirst n (compaction_of r) is.row.files) (sym used_is) is.takes;
    firsts = is.firsts;
    indexes_are = is.indexes_are;
    used = omega (arith, is.used, used_is);
    unlisted = λ name has own. is.unlisted name (ap (λ (k : Listing). has_name k.tables name) (sym listing_is) ∙ has) own;
  }

  each_same : (rs : List RunningTask) → AllByRecursion (λ (r : RunningTask). TaskCanGoOn w r.task) rs → AllByRecursion (IsTaskReady v old) rs → AllByRecursion (IsTaskReady w new) rs
  each_same [] can all = tt
  each_same (r ∷ rs) can all = (task_same r can.0 all.0, each_same rs can.1 all.1)

  -- **A task can go on there where its own files let it.**
  pub tasks_alike : (rs : List RunningTask) → AllByRecursion (λ (r : RunningTask). TaskCanGoOn w r.task) rs → AreTasksReady v old rs → AreTasksReady w new rs
  tasks_alike rs can ready = record { each = each_same rs can ready.each; apart = ready.apart }

pub tasks_can : (v : View) (p : Parts) (rs : List RunningTask) → AllByRecursion (IsTaskReady v p) rs → AllByRecursion (λ (r : RunningTask). TaskCanGoOn v r.task) rs
tasks_can v p [] all = tt
tasks_can v p (r ∷ rs) all = (all.0.can, tasks_can v p rs all.1)

-- ---- one view more of listed files

-- a count that is some was some, or its name is listed by the view
held_by : (old new : Book) (parts : List Part) → Taken old new (components_of parts) → (name : FileName) → is_held new name ≡ true → (is_held old name ≡ true) ⊎ (list_any (name_eq name) (view_names parts) ≡ true)
held_by old new parts taken name is = by (nat_eq (count_of old (component.File name)) 0) (list_any (name_eq name) (view_names parts)) refl refl is
  where
    by : (none among : Bool) → nat_eq (count_of old (component.File name)) 0 ≡ none → list_any (name_eq name) (view_names parts) ≡ among → is_held new name ≡ true → (not none ≡ true) ⊎ (among ≡ true)
    by false among old_is among_is held = inl refl
    by true true old_is among_is held = inr refl
    by true false old_is among_is held =
        let was : count_of old (component.File name) ≡ 0 = grind (arith, nat_tests, old_is) in
        let none : lists (component.File name) (components_of parts) ≡ 0 = view_lists name parts among_is in
        let now : count_of new (component.File name) ≡ 0 = omega (arith, was, none, taken.counts (component.File name)) in
        let zero : nat_eq (count_of new (component.File name)) 0 ≡ true = grind (arith, nat_tests, now) in
        absurd (let no : false ≡ true = ap not (sym zero) ∙ held in cc)

-- what was held is held
held_still : (old new : Book) (parts : List Part) → Taken old new (components_of parts) → (name : FileName) → is_held old name ≡ true → is_held new name ≡ true
held_still old new parts taken name is = by (nat_eq (count_of new (component.File name)) 0) refl
  where
    by : (none : Bool) → nat_eq (count_of new (component.File name)) 0 ≡ none → not none ≡ true
    by false now = refl
    by true now =
        let none : count_of new (component.File name) ≡ 0 = grind (arith, nat_tests, now) in
        let was : count_of old (component.File name) ≡ 0 = omega (arith, none, taken.counts (component.File name)) in
        let zero : nat_eq (count_of old (component.File name)) 0 ≡ true = grind (arith, nat_tests, was) in
        absurd (let no : false ≡ true = ap not (sym zero) ∙ is in cc)

module _ (v : View) (was views : Book) (old new : Parts) (tasks : List RunningTask) (parts : List Part) (on : CanGoOn v was old tasks) (can : CanChange v (memory_of new)) (of : IsOfParts new) (manifest_is : new.manifest ≡ old.manifest)
    (used_is : new.numbers.«data» ≡ old.numbers.«data») (taken : Taken was views (components_of parts))
    (listed : (name : FileName) → list_any (name_eq name) (view_names parts) ≡ true → has_name new.manifest.listing.tables name ≡ true) where
  listing_is : new.manifest.listing ≡ old.manifest.listing
  listing_is = λ i. (manifest_is i).listing

  number_used : (name : FileName) → list_any (name_eq name) (view_names parts) ≡ true → name.number ≤ new.numbers.«data»
  number_used name is = listed_number new.manifest (memory_of new).used can.numbered name (listed name is)

  held_number : (name : FileName) → (is_held was name ≡ true) ⊎ (list_any (name_eq name) (view_names parts) ≡ true) → name.number ≤ new.numbers.«data»
  held_number name (inl is) = omega (arith, on.held_are.number name is, used_is)
  held_number name (inr is) = number_used name is

  held_kind : (name : FileName) → (is_held was name ≡ true) ⊎ (list_any (name_eq name) (view_names parts) ≡ true) → 3 ≤ rank name.kind
  held_kind name (inl is) = on.held_are.kind name is
  held_kind name (inr is) = listed_kind new.manifest.listing name (listed name is)

  unheld_on : (r : RunningTask) → IsTaskReady v old r → IsUnheld was r.task.compaction.number → IsUnheld views r.task.compaction.number
  unheld_on r ready unheld name own is = by (held_by was views parts taken name is)
    where
      by : (is_held was name ≡ true) ⊎ (list_any (name_eq name) (view_names parts) ≡ true) → ⊥
      by (inl held) = unheld name own held
      by (inr among) = ready.unlisted name (ap (λ (k : Listing). has_name k.tables name) (sym listing_is) ∙ listed name among) own

  all_unheld : (rs : List RunningTask) → AllByRecursion (IsTaskReady v old) rs → AllByRecursion (λ (r : RunningTask). IsUnheld was r.task.compaction.number) rs → AllByRecursion (λ (r : RunningTask). IsUnheld views r.task.compaction.number) rs
  all_unheld [] ready all = tt
  all_unheld (r ∷ rs) ready all = (unheld_on r ready.0 all.0, all_unheld rs ready.1 all.1)

  -- no file stands aside that didn't
  aside_same : (name : FileName) → is_aside views tasks new.manifest.listing name ≡ is_aside was tasks old.manifest.listing name
  aside_same name = ap (λ (k : Listing). is_aside views tasks k name) listing_is ∙ by (has_name old.manifest.listing.tables name) (is_held was name) (is_held views name) refl refl refl
    where
      by : (has x y : Bool) → has_name old.manifest.listing.tables name ≡ has → is_held was name ≡ x → is_held views name ≡ y → (not has && (y || is_begun tasks name)) ≡ (not has && (x || is_begun tasks name))
      by true x y has_is before after = refl
      by false true true has_is before after = refl
      by false false false has_is before after = refl
      by false true false has_is before after = (let no : true ≡ false = sym (held_still was views parts taken name before) ∙ after in cc)
      by false false true has_is before after = (absurd (other (held_by was views parts taken name after)))
        where
          other : (is_held was name ≡ true) ⊎ (list_any (name_eq name) (view_names parts) ≡ true) → ⊥
          other (inl held) = let no : true ≡ false = sym held ∙ before in cc
          other (inr among) = let no : true ≡ false = sym (ap (λ (k : Listing). has_name k.tables name) (sym listing_is) ∙ listed name among) ∙ has_is in cc

  -- **The store can go on with its tasks.**
  pub goes_on_opened : CanGoOn v views new tasks
  goes_on_opened = record {
    can = can;
    parts = of;
    ready = tasks_alike v v old new listing_is used_is tasks (tasks_can v old tasks on.ready.each) on.ready;
    held_are = record { kind = λ name is. held_kind name (held_by was views parts taken name is); number = λ name is. held_number name (held_by was views parts taken name is) };
    unheld = all_unheld tasks on.ready.each on.unheld;
    exactly = λ folder now name.
        subst (λ (m : ManifestState). is_some (get folder name) ≡ (is_aside was tasks old.manifest.listing name || is_kept (record { manifest = m.number; listing = m.listing }) name)) (sym manifest_is) (on.exactly folder now name)
        ∙ ap (λ b. b || is_kept (kept_by (memory_of new)) name) (sym (aside_same name));
  }
