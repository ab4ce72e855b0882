-- Tasks while a store makes moves that end none: each can go on, and is the one of the layout that it was.
use Rattle.std.proofs.Common.{◌≡◌, ◌<◌, ◌≤◌, ◌-◌, ◌&&◌, ◌||◌, ◌++◌, ◌⊎◌, ℕ, zero, suc, Bool, true, false, not, nat_eq, is_some, List, [], ◌∷◌, length, map, slice_get, take, Option, None, Some, refl, sym, ap, subst, ◌∙◌, inl, inr, arith, append_assoc}
use Rattle.std.specs.Prelude.{Contains, unwrap_or}
use Rattle.std.specs.FinMap as map_
use Rattle.std.specs.List.{AllByRecursion}
use Rattle.std.specs.Option.{option_map_or}
use Rattle.std.proofs.lemmas.List.{length-map}
use Rattle.std.proofs.lemmas.List.Elements.{Contains-append_left}
use Rattle.sasi_types.specs.declared.column.ColumnType.{ColumnType}
use Rattle.sasi_types.specs.declared.column.ColumnType.TheVariants as types
use Rattle.sasi_types.specs.declared.index_def.IndexDef.{IndexDef}
use Rattle.sasi_host.proofs.ChangeLaws.{changes_as}
use Rattle.sasi_host.proofs.ContentLaws.{contents_kept, told_before}
use Rattle.sasi_host.specs.declared.name.FileName.{FileName}
use Rattle.sasi_host.specs.Disk.{Changes}
use Rattle.sasi_host.specs.Names.{data_name, name_eq, rank}
use Rattle.sasi_host.specs.View.{View, contents}
use Rattle.sasi_manifest.specs.Edits.{files_of}
use Rattle.sasi_manifest.specs.FileNames.{has_name}
use Rattle.sasi_manifest.specs.ListedDefinition.{ListedDefinition}
use Rattle.sasi_manifest.specs.declared.files.ListedFile.{ListedFile}
use Rattle.sasi_compact.proofs.TaskLaws.{still_compacting, still_goes_on}
use Rattle.sasi_compact.specs.Tasks.{StaysForTask, files_numbered}
use Rattle.sasi_layout.proofs.FileNameLaws.{name_same}
use Rattle.sasi_layout.specs.Compacting.{Compaction, IsRunning, TakesFirst}
use Rattle.sasi_layout.specs.Kept.{AreAside, is_kept}
use Rattle.sasi_layout.specs.Layout.{Layout}
use Rattle.sasi_layout.specs.NumbersInOrder.{Rising}
use Rattle.sasi_layout.specs.Serving.{CanChange, HasExactlyBeside, kept_by}
use Rattle.sasi_tables.proofs.ListedFrames.{rising_join}
use Rattle.sasi_tables.specs.Frames.{HasGrown, KeepsTables, KeepsUsed}
use Rattle.sasi_tables.specs.TablesView.{IsOfParts, memory_of}
use Rattle.sasi_tables.specs.declared.parts.Parts.{Parts}
use Rattle.sasi_tasks.specs.MakesTaskMoves.{CanGoOn, KeepsHeld}
use Rattle.sasi_tasks.specs.Running.{AreTasksOf, AreTasksReady, IsListedIndex, IsListedOrGone, IsTaskOf, IsTaskReady, IsUnheld, IsUnlisted, KeepsPlaces, compaction_of, is_aside, is_begun, is_held}
use Rattle.sasi_tasks.specs.Tasks.{Task, source_map}
use Rattle.sasi_tasks.specs.declared.running.RunningTask.{RunningTask}
use Rattle.sasi_views.specs.Books.{Book}
use Rattle.sasi_views.specs.Kept.{IsCounted}
use Rattle.sasi_views.specs.declared.component.Component.TheVariants.{File}
use Rattle.sasi_views.specs.declared.part.Part.{Part}
use Rattle.sasi_store.proofs.ViewFiles.{listed_kept}

-- ---- a table that has grown

-- its first files are the same
takes_grown : (was now : ℕ) (c : Compaction) (fs gs more : List ListedFile) → gs ≡ fs ++ more → Rising was now more → TakesFirst was c fs → TakesFirst now c gs
takes_grown was now c fs gs more same rise is = record {
  older = is.older;
  later = is.later ++ more;
  parts = same ∙ ap (λ (l : List ListedFile). l ++ more) is.parts ∙ append_assoc is.older is.later more;
  named = is.named;
  below = is.below;
  some = is.some;
  rise = rising_join c.output was now is.later more is.rise rise;
}

first_more : {A : Type 0} (n : ℕ) (xs more : List A) → length (take n xs) ≡ n → take n (xs ++ more) ≡ take n xs
first_more zero xs more whole = refl
first_more (suc n) [] more whole = absurd (omega (arith, whole))
first_more {A} (suc n) (x ∷ xs) more whole = ap (λ (l : List A). x ∷ l) (first_more n xs more (omega (arith, whole)))

firsts_grown : (sources : List ℕ) (fs gs more : List ListedFile) → gs ≡ fs ++ more → map (λ (f : ListedFile). f.number) (take (length sources) fs) ≡ sources → map (λ (f : ListedFile). f.number) (take (length sources) gs) ≡ sources
firsts_grown sources fs gs more same are =
    let whole : length (take (length sources) fs) ≡ length sources = sym (length-map (take (length sources) fs) (λ (f : ListedFile). f.number)) ∙ ap length are in
    ap (λ (l : List ListedFile). map (λ (f : ListedFile). f.number) (take (length sources) l)) same ∙ ap (map (λ (f : ListedFile). f.number)) (first_more (length sources) fs more whole) ∙ are

-- and its indexes are listed still
indexes_grown : (was now : ℕ) (t u : ListedDefinition) (defs : List IndexDef) → HasGrown was now t u → AllByRecursion (IsListedIndex t) defs → AllByRecursion (IsListedIndex u) defs
indexes_grown was now t u [] grown all = tt
indexes_grown was now t u (def ∷ defs) grown all = (
  record {
    listed = grown.indexes _ all.0.listed;
    kind = ap (λ (kinds : List ColumnType). unwrap_or (slice_get kinds def.column) types.Text) grown.types_are ∙ all.0.kind;
  },
  indexes_grown was now t u defs grown all.1,
)

-- ---- files that are aside

-- the file of a task has a used number
begun_used : (v : View) (p : Parts) (name : FileName) (rs : List RunningTask) → AllByRecursion (IsTaskReady v p) rs → is_begun rs name ≡ true → (3 ≤ rank name.kind) × (name.number ≤ p.numbers.«data»)
begun_used v p name [] ready is = cc
begun_used v p name (r ∷ rs) ready is = by (name_eq name (data_name r.task.compaction.number)) (is_some r.task.output) refl is (begun_used v p name rs ready.1)
  where
    by : (b begun : Bool) → name_eq name (data_name r.task.compaction.number) ≡ b → ((b && begun) || is_begun rs name) ≡ true → (is_begun rs name ≡ true → (3 ≤ rank name.kind) × (name.number ≤ p.numbers.«data»)) → (3 ≤ rank name.kind) × (name.number ≤ p.numbers.«data»)
    by true begun own any later =
        let same : name ≡ data_name r.task.compaction.number = name_same name (data_name r.task.compaction.number) own in
        subst (λ (n : FileName). (3 ≤ rank n.kind) × (n.number ≤ p.numbers.«data»)) (sym same) (omega arith, ready.0.used)
    by false begun other any later = later any

-- **What stands beside the listed files are data and index files of used numbers.**
pub aside_used : (v : View) (views : Book) (p : Parts) (tasks : List RunningTask) → CanGoOn v views p tasks → AreAside p.numbers.«data» (is_aside views tasks p.manifest.listing)
aside_used v views p tasks on = record {
  kind = λ name is. (both name is).0;
  number = λ name is. (both name is).1;
}
  where
    or_else : (name : FileName) (x y : Bool) → is_held views name ≡ x → is_begun tasks name ≡ y → (x || y) ≡ true → (3 ≤ rank name.kind) × (name.number ≤ p.numbers.«data»)
    or_else name true y held begun is = (on.held_are.kind name held, on.held_are.number name held)
    or_else name false true held begun is = begun_used v p name tasks on.ready.each begun
    or_else name false false held begun is = absurd cc

    unlisted : (x y : Bool) → (not x && y) ≡ true → y ≡ true
    unlisted true y is = absurd cc
    unlisted false y is = is

    both : (name : FileName) → is_aside views tasks p.manifest.listing name ≡ true → (3 ≤ rank name.kind) × (name.number ≤ p.numbers.«data»)
    both name is = or_else name (is_held views name) (is_begun tasks name) refl refl (unlisted (has_name p.manifest.listing.tables name) (is_held views name || is_begun tasks name) is)

aside_now : (x o n k : Bool) → (o ≡ true → n ≡ true) → (n ≡ true → k ≡ true) → ((not o && x) || k) ≡ ((not n && x) || k)
aside_now x true true k stays kept = refl
aside_now x true false k stays kept = absurd (let no : false ≡ true = stays refl in cc)
aside_now x false false k stays kept = refl
aside_now true false true true stays kept = refl
aside_now false false true true stays kept = refl
aside_now x false true false stays kept = absurd (let no : false ≡ true = kept refl in cc)

none_in : {A : Type 0} {x : A} → Contains [] x → ⊥
none_in has = omega (arith, has.1)

-- ---- another book

-- a book that counts the same views holds the same files
pub held_recounted : (was now : Book) (out : List (List Part)) → IsCounted was out → IsCounted now out → (name : FileName) → is_held now name ≡ is_held was name
held_recounted was now out before after name = ap (λ (n : ℕ). not (nat_eq n 0)) (after.counts (File name) ∙ sym (before.counts (File name)))

-- **so the store can go on with it.**
pub goes_on_views : (v : View) (p : Parts) (tasks : List RunningTask) (was now : Book) → ((name : FileName) → is_held now name ≡ is_held was name) → CanGoOn v was p tasks → CanGoOn v now p tasks
goes_on_views v p tasks was now same on = record {
  can = on.can;
  parts = on.parts;
  ready = on.ready;
  held_are = record { kind = λ name is. on.held_are.kind name (sym (same name) ∙ is); number = λ name is. on.held_are.number name (sym (same name) ∙ is) };
  unheld = each tasks on.unheld;
  exactly = λ folder told name. on.exactly folder told name
      ∙ ap (λ h. (not (has_name p.manifest.listing.tables name) && (h || is_begun tasks name)) || is_kept (kept_by (memory_of p)) name) (sym (same name));
}
  where
    each : (rs : List RunningTask) → AllByRecursion (λ (r : RunningTask). IsUnheld was r.task.compaction.number) rs → AllByRecursion (λ (r : RunningTask). IsUnheld now r.task.compaction.number) rs
    each [] all = tt
    each (r ∷ rs) all = ((λ name own is. all.0 name own (sym (same name) ∙ is)), each rs all.1)

-- ---- a change that leaves the files of used numbers

-- what views list stays
pub used_held : (a b : View) (used : ℕ) (views : Book) → AreAside used (is_held views) → Changes (KeepsUsed used) a b → Changes (KeepsHeld views) a b
used_held a b used views held files = changes_as a b (KeepsUsed used) (KeepsHeld views) files (λ x y step name is. step name (held.kind name is) (held.number name is))

-- ---- and what is listed

module _ (a b : View) (old new : Parts) (le : old.numbers.«data» ≤ new.numbers.«data») (tables : KeepsTables old.numbers.«data» new.numbers.«data» old.manifest.listing new.manifest.listing) (files : Changes (KeepsUsed old.numbers.«data») a b) where
  used_same : (number : ℕ) → number ≤ old.numbers.«data» → contents b (data_name number) ≡ contents a (data_name number)
  used_same number below = contents_kept a b (KeepsUsed old.numbers.«data») (data_name number) (λ x y kept. kept (data_name number) (omega arith) below) files

  -- the sources and the output of a task stay
  task_stays : (r : RunningTask) → IsTaskReady a old r → StaysForTask r.task.compaction a b
  task_stays r is = record {
    told = told_before (KeepsUsed old.numbers.«data») a b files;
    sources = each r.task.compaction.sources is.takes.below;
    output = used_same r.task.compaction.number is.used;
  }
    where
      each : (ns : List ℕ) → AllByRecursion (λ n. n < r.task.compaction.number) ns → AllByRecursion (λ (f : ListedFile). contents b (data_name f.number) ≡ contents a (data_name f.number)) (files_numbered ns)
      each [] all = tt
      each (n ∷ ns) all = (used_same n (omega (arith, all.0, is.used)), each ns all.1)

  task_kept : (r : RunningTask) → IsTaskReady a old r → IsTaskReady b new r
  task_kept r is =
      let u = tables.rows (r.table - 1) is.row is.there in
      record {
        can = still_goes_on a b r.task (task_stays r is) is.can;
        some = is.some;
        row = u.0;
        there = u.1;
        types_are = is.types_are ∙ sym u.2.types_are;
        partitioner_is = is.partitioner_is ∙ sym tables.partitioner_is;
        takes = takes_grown old.numbers.«data» new.numbers.«data» (compaction_of r) is.row.files u.0.files u.2.more u.2.files_are u.2.rise is.takes;
        firsts = firsts_grown r.task.compaction.sources is.row.files u.0.files u.2.more u.2.files_are is.firsts;
        indexes_are = record { each = indexes_grown old.numbers.«data» new.numbers.«data» is.row u.0 r.task.compaction.indexes u.2 is.indexes_are.each; rise = is.indexes_are.rise; few = is.indexes_are.few };
        used = omega (arith, is.used, le);
        unlisted = λ name has own. is.unlisted name (tables.others name (omega (arith, own, is.used)) has) own;
      }

  each_kept : (rs : List RunningTask) → AllByRecursion (IsTaskReady a old) rs → AllByRecursion (IsTaskReady b new) rs
  each_kept [] all = tt
  each_kept (r ∷ rs) all = (task_kept r all.0, each_kept rs all.1)

  -- **The tasks can go on,**
  tasks_kept : (tasks : List RunningTask) → AreTasksReady a old tasks → AreTasksReady b new tasks
  tasks_kept tasks ready = record { each = each_kept tasks ready.each; apart = ready.apart }

  -- **and are those of a layout in which they run over the same partitions.**
  pub tasks_still : (l m : Layout) → ((c : Compaction) → IsRunning c l → IsRunning c m × (source_map c m ≡ source_map c l)) → (rs : List RunningTask) (ks : List Task) → AllByRecursion (IsTaskReady a old) rs → AreTasksOf a l rs ks → AreTasksOf b m rs ks
  tasks_still l m runs [] [] ready are = tt
  tasks_still l m runs [] (k ∷ ks) ready are = absurd are
  tasks_still l m runs (r ∷ rs) [] ready are = absurd are
  tasks_still l m runs (r ∷ rs) (k ∷ ks) ready are = (one are.0, tasks_still l m runs rs ks ready.1 are.1)
    where
      one : IsTaskOf a l r k → IsTaskOf b m r k
      one is = record {
        is = is.is;
        runs = (runs k.compaction is.runs).0;
        passed = is.passed;
        left = is.left;
        compacting = still_compacting a b r.task (task_stays r ready.0) is.passed is.left ready.0.can is.compacting;
        passed_is = is.passed_is;
        whole = is.whole ∙ ap map_.entries (sym (runs k.compaction is.runs).1);
        begun = is.begun;
      }

  -- what views list is listed where it was
  pub places_kept : (views : Book) → AreAside old.numbers.«data» (is_held views) → KeepsPlaces views old.manifest.listing new.manifest.listing
  places_kept views held table f is place = by place
    where
      listed : (o : Option ListedDefinition) → slice_get old.manifest.listing.tables (table - 1) ≡ o → Contains (option_map_or (λ (t : ListedDefinition). t.files) o []) f → Contains (files_of new.manifest.listing.tables table) f
      listed None none has = absurd (none_in has)
      listed (Some t) there has =
          let u = tables.rows (table - 1) t there in
          subst (λ (o : Option ListedDefinition). Contains (option_map_or (λ (t : ListedDefinition). t.files) o []) f) (sym u.1)
          (subst (λ (fs : List ListedFile). Contains fs f) (sym u.2.files_are) (Contains-append_left t.files u.2.more f has))

      by : Contains (files_of old.manifest.listing.tables table) f ⊎ IsUnlisted f.number old.manifest.listing → IsListedOrGone new.manifest.listing table f
      by (inl has) = inl (listed (slice_get old.manifest.listing.tables (table - 1)) refl has)
      by (inr gone) = inr (λ name has own. gone name (tables.others name (omega (arith, own, held.number (data_name f.number) is)) has) own)

  -- **The store can go on with them.**
  pub goes_on_made : (views : Book) (tasks : List RunningTask) → CanGoOn a views old tasks → CanChange b (memory_of new) → IsOfParts new
      → ((aside : FileName → Bool) → AreAside old.numbers.«data» aside → HasExactlyBeside a aside (memory_of old) → AreAside new.numbers.«data» aside × HasExactlyBeside b aside (memory_of new)) → CanGoOn b views new tasks
  goes_on_made views tasks on can parts exactly = record {
    can = can;
    parts = parts;
    ready = tasks_kept tasks on.ready;
    held_are = record { kind = on.held_are.kind; number = λ name is. omega (arith, le, on.held_are.number name is) };
    unheld = on.unheld;
    exactly = λ folder told name.
        (exactly (is_aside views tasks old.manifest.listing) (aside_used a views old tasks on) on.exactly).1 folder told name
        ∙ aside_now (is_held views name || is_begun tasks name) (has_name old.manifest.listing.tables name) (has_name new.manifest.listing.tables name) (is_kept (kept_by (memory_of new)) name) (tables.stay name) (listed_kept (kept_by (memory_of new)) name);
  }
