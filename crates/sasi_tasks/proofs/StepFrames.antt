-- What stays while one task of a store is stepped: its own file alone changes, and that is listed nowhere.
use Rattle.std.proofs.Common.{◌≡◌, ◌∙◌, ◌||◌, ◌-◌, ℕ, zero, suc, Bool, true, false, nat_eq, List, [], ◌∷◌, ◌++◌, map, slice_get, take, Some, refl, sym, ap, arith}
use Rattle.std.proofs.lemmas.Bool.Decides.{nat_tests}
use Rattle.std.specs.List.{AllByRecursion, list_any}
use Rattle.sasi_host.specs.declared.name.FileName.{FileName}
use Rattle.sasi_host.specs.Disk.{AnyChange, Changes, FileChange}
use Rattle.sasi_host.specs.Names.{Folder, data_name, log_name, manifest_name, seal_name}
use Rattle.sasi_host.specs.View.{IsSound, View, contents}
use Rattle.sasi_host.proofs.ChangeLaws.{changes_as}
use Rattle.sasi_host.proofs.ContentLaws.{contents_other, told_after, told_before}
use Rattle.sasi_folder.proofs.FolderLaws.{kinds_apart}
use Rattle.sasi_manifest.specs.FileNames.{has_name}
use Rattle.sasi_manifest.specs.ListedDefinition.{ListedDefinition}
use Rattle.sasi_manifest.specs.ListedFiles.{has_file, is_among}
use Rattle.sasi_manifest.specs.declared.files.ListedFile.{ListedFile}
use Rattle.sasi_manifest.specs.declared.listing.Listing.{Listing}
use Rattle.sasi_compact.proofs.TaskLaws.{still_compacting, still_goes_on}
use Rattle.sasi_compact.specs.Tasks.{StaysForTask, files_numbered}
use Rattle.sasi_layout.proofs.FileNameLaws.{data_named}
use Rattle.sasi_layout.proofs.LayoutLaws.{bare_listing}
use Rattle.sasi_layout.proofs.Trails.{no_move, still_shape}
use Rattle.sasi_layout.specs.Between.{Between}
use Rattle.sasi_layout.specs.Frames.{AgreeOn}
use Rattle.sasi_layout.specs.Layout.{Layout, bare, listing_of}
use Rattle.sasi_layout.specs.Serving.{Serves}
use Rattle.sasi_recover.proofs.KeptShapes.{agree_where}
use Rattle.sasi_tables.proofs.Frames.{end_other, manifest_other}
use Rattle.sasi_tables.proofs.TablesInMemory.{all_at}
use Rattle.sasi_tables.specs.TablesView.{memory_of}
use Rattle.sasi_tables.specs.declared.parts.Parts.{Parts}
use Rattle.sasi_tasks.specs.MakesTaskMoves.{CanGoOn, KeepsHeld}
use Rattle.sasi_tasks.specs.Running.{IsTaskOf, IsTaskReady, IsUnheld}
use Rattle.sasi_tasks.specs.Tasks.{Task}
use Rattle.sasi_tasks.specs.declared.running.RunningTask.{RunningTask}
use Rattle.sasi_views.specs.Books.{Book}

-- ---- the sources of a task are listed

later : (x y : Bool) → y ≡ true → (x || y) ≡ true
later true y is = refl
later false y is = is

-- a number of the first files is that of a file
pub first_has : (k : ℕ) (fs : List ListedFile) (n : ℕ) → is_among (map (λ (f : ListedFile). f.number) (take k fs)) n ≡ true → has_file fs n ≡ true
first_has zero fs n is = cc
first_has (suc k) [] n is = is
first_has (suc k) (f ∷ fs) n is = by (nat_eq n f.number) is (first_has k fs n)
  where
    by : (b : Bool) → (b || is_among (map (λ (g : ListedFile). g.number) (take k fs)) n) ≡ true → (is_among (map (λ (g : ListedFile). g.number) (take k fs)) n ≡ true → has_file fs n ≡ true) → (b || has_file fs n) ≡ true
    by true there rest = refl
    by false there rest = rest there

-- what holds of a row holds of one of the rows
row_any : {A : Type 0} (q : A → Bool) (xs : List A) (at : ℕ) (x : A) → slice_get xs at ≡ Some x → q x ≡ true → list_any q xs ≡ true
row_any q [] at x there is = cc
row_any q (y ∷ xs) zero x there is = (let one : y ≡ x = cc in ap (λ k. q k || list_any q xs) one ∙ ap (λ b. b || list_any q xs) is)
row_any q (y ∷ xs) (suc at) x there is = later (q y) (list_any q xs) (row_any q xs at x there is)

-- a source of a task is a listed file
pub source_listed : (v : View) (p : Parts) (o : RunningTask) → IsTaskReady v p o → (n : ℕ) → is_among o.task.compaction.sources n ≡ true → has_name p.manifest.listing.tables (data_name n) ≡ true
source_listed v p o ready n is =
    data_named n p.manifest.listing.tables ∙ row_any (λ (t : ListedDefinition). has_file t.files n) p.manifest.listing.tables (o.table - 1) ready.row ready.there
    (first_has _ ready.row.files n (ap (λ (ns : List ℕ). is_among ns n) ready.firsts ∙ is))

pub each_number : (P : ℕ → Type 0) (ns : List ℕ) → ((n : ℕ) → is_among ns n ≡ true → P n) → AllByRecursion (λ (f : ListedFile). P f.number) (files_numbered ns)
each_number P [] each = tt
each_number P (n ∷ ns) each = (each n (here n), each_number P ns (λ m is. each m (later (nat_eq m n) (is_among ns m) is)))
  where
    here : (n : ℕ) → (nat_eq n n || is_among ns n) ≡ true
    here n = (let same : nat_eq n n ≡ true = grind (arith, nat_tests) in ap (λ x. x || is_among ns n) same)

-- ---- the file of one task changes

module _ (a : View) (views : Book) (p : Parts) (tasks : List RunningTask) (ready : CanGoOn a views p tasks) (at : ℕ) (r : RunningTask) (there : slice_get tasks at ≡ Some r) (b : View)
    (change : Changes (FileChange (data_name r.task.compaction.number) AnyChange) a b) where
  abbrev number : ℕ
  number = r.task.compaction.number

  pub own_ready : IsTaskReady a p r
  own_ready = all_at (IsTaskReady a p) at tasks r ready.ready.each there

  apart_listed : (name : FileName) → has_name p.manifest.listing.tables name ≡ true → name ≡ data_name number → ⊥
  apart_listed name listed same = own_ready.unlisted name listed (ap (λ (n : FileName). n.number) same)

  -- what views list stays,
  pub held_stays : Changes (KeepsHeld views) a b
  held_stays = changes_as a b (FileChange (data_name number) AnyChange) (KeepsHeld views) change
      (λ x y step name held. step.others name (λ same. all_at (λ (o : RunningTask). IsUnheld views o.task.compaction.number) at tasks r ready.unheld there name (ap (λ (n : FileName). n.number) same) held))

  agrees : (l : Layout) → p.manifest.listing ≡ listing_of l → (x y : Folder) → FileChange (data_name number) AnyChange x y → AgreeOn (bare l) x y
  agrees l is x y step = record {
    seals = λ n. step.others (seal_name n) (kinds_apart _ _ (omega arith));
    manifest = step.others (manifest_name l.used.manifest) (kinds_apart _ _ (omega arith));
    logs = λ segment above below. step.others (log_name segment) (kinds_apart _ _ (omega arith));
    files = agree_where x y (bare l) (λ name listed. step.others name (apart_listed name (ap (λ (e : Listing). has_name e.tables name) is ∙ ap (λ (e : Listing). has_name e.tables name) (sym (bare_listing l)) ∙ listed)));
  }

  -- it is no move,
  pub no_moment : IsSound a → (l : Layout) → Serves a (memory_of p) l → Changes (λ x y. Between l [] y) a b
  no_moment sound l serves = no_move l a b (FileChange (data_name number) AnyChange) (serves.older ++ serves.current ∷ []) sound serves.shape change (agrees l serves.listing)

  -- and the store serves the layout as before.
  pub still_serves : (l : Layout) → Serves a (memory_of p) l → Serves b (memory_of p) l
  still_serves l serves = record {
    told = told_after (FileChange (data_name number) AnyChange) a b change serves.told;
    in_order = serves.in_order;
    definitions = serves.definitions;
    tables = serves.tables;
    used = serves.used;
    timestamp = serves.timestamp;
    listing = serves.listing;
    manifest = serves.manifest;
    log = serves.log;
    older = serves.older;
    current = serves.current;
    log_end = end_other a b (data_name number) (log_name l.last) p.log.at _ (kinds_apart _ _ (omega arith)) change serves.log_end;
    manifest_end = manifest_other a b (data_name number) l.used.manifest p.manifest.at (listing_of l) (kinds_apart _ _ (omega arith)) change serves.manifest_end;
    shape = still_shape l a b (FileChange (data_name number) AnyChange) (serves.older ++ serves.current ∷ []) serves.shape change (agrees l serves.listing);
  }

  -- ---- another task

  module _ (o : RunningTask) (is_ready : IsTaskReady a p o) (other : o.task.compaction.number ≡ number → ⊥) where
    stays_for : StaysForTask o.task.compaction a b
    stays_for = record {
      told = told_before (FileChange (data_name number) AnyChange) a b change;
      sources = each_number (λ (n : ℕ). contents b (data_name n) ≡ contents a (data_name n)) o.task.compaction.sources
          (λ n is. contents_other a b (data_name number) (data_name n) AnyChange (apart_listed (data_name n) (source_listed a p o is_ready n is)) change);
      output = contents_other a b (data_name number) (data_name o.task.compaction.number) AnyChange (λ same. other (ap (λ (n : FileName). n.number) same)) change;
    }

    -- **It is ready still,**
    pub other_ready : IsTaskReady b p o
    other_ready = record {
      can = still_goes_on a b o.task stays_for is_ready.can;
      some = is_ready.some;
      row = is_ready.row;
      there = is_ready.there;
      types_are = is_ready.types_are;
      partitioner_is = is_ready.partitioner_is;
      takes = is_ready.takes;
      firsts = is_ready.firsts;
      indexes_are = is_ready.indexes_are;
      used = is_ready.used;
      unlisted = is_ready.unlisted;
    }

    -- **and is the same task of the layout.**
    pub other_task : (l : Layout) (k : Task) → IsTaskOf a l o k → IsTaskOf b l o k
    other_task l k of = record {
      is = of.is;
      runs = of.runs;
      passed = of.passed;
      left = of.left;
      compacting = still_compacting a b o.task stays_for of.passed of.left is_ready.can of.compacting;
      passed_is = of.passed_is;
      whole = of.whole;
      begun = of.begun;
    }
