-- The store after a step of one task: it can go on, and the folder has the files that are listed, those beside them, and no other.
use Rattle.std.proofs.Common.{◌≡◌, ◌∙◌, ◌||◌, ◌&&◌, ◌+◌, Bool, true, false, is_some, not, ℕ, List, length, map, slice_get, take, Option, None, Some, refl, sym, ap, subst, arith}
use Rattle.std.specs.FinMap.{get}
use Rattle.std.specs.List.{AllByRecursion, slice_set}
use Rattle.sasi_host.specs.declared.name.FileName.{FileName}
use Rattle.sasi_host.specs.Disk.{AnyChange, Changes, FileChange}
use Rattle.sasi_host.specs.Names.{Bytes, Folder, data_name, log_name, manifest_name, name_eq}
use Rattle.sasi_host.specs.View.{View, contents_in}
use Rattle.sasi_host.proofs.ContentLaws.{contents_other, reaches_where, told_before, told_files}
use Rattle.sasi_folder.proofs.FolderLaws.{kinds_apart}
use Rattle.sasi_manifest.specs.FileNames.{has_name}
use Rattle.sasi_manifest.specs.declared.files.ListedFile.{ListedFile}
use Rattle.sasi_compact.specs.Tasks.{CanGoOnTo}
use Rattle.sasi_compact.specs.Tasks as task_
use Rattle.sasi_compact.specs.declared.compaction.Compaction.{Compaction}
use Rattle.sasi_compact.specs.declared.output.Output.{Output}
use Rattle.sasi_compact.specs.declared.task.CompactTask.{CompactTask}
use Rattle.sasi_layout.proofs.FileNameLaws.{name_itself, name_same}
use Rattle.sasi_layout.proofs.KeptLaws.{keeps_listed}
use Rattle.sasi_layout.specs.Compacting.{TakesFirst}
use Rattle.sasi_layout.specs.Kept.{HasKeptBeside, Kept, is_kept, is_kept_beside}
use Rattle.sasi_layout.specs.Serving.{CanChange, HasExactlyBeside, kept_by}
use Rattle.sasi_tables.proofs.Frames.{manifest_other, reached_there}
use Rattle.sasi_tables.proofs.TablesInMemory.{all_at}
use Rattle.sasi_tables.specs.TablesView.{memory_of}
use Rattle.sasi_tables.specs.declared.parts.Parts.{Parts}
use Rattle.sasi_tasks.proofs.StepFrames.{other_ready, own_ready}
use Rattle.sasi_tasks.proofs.SteppedTasks.{apart_after, each_after, other_begun, own_begun, ready_aside, stepped}
use Rattle.sasi_tasks.specs.MakesTaskMoves.{CanGoOn}
use Rattle.sasi_tasks.specs.Running.{AreListedIndexes, IsTaskReady, IsUnheld, IsUnlisted, is_aside, is_begun, is_held, numbers_of}
use Rattle.sasi_tasks.specs.declared.running.RunningTask.{RunningTask}
use Rattle.sasi_views.specs.Books.{Book}

never : true ≡ false → ⊥
never e = cc

isnt : (x : Bool) → (x ≡ true → ⊥) → x ≡ false
isnt true not_it = absurd (not_it refl)
isnt false not_it = refl

-- a name that is neither listed nor kept nor held is aside where it is that of a task
beside_own : (listed held begun kept output : Bool) → listed ≡ false → held ≡ false → begun ≡ output → kept ≡ false → ((not listed && (held || begun)) || kept) ≡ output
beside_own true held begun kept output no_list no_hold is no_keep = absurd (never no_list)
beside_own false true begun kept output no_list no_hold is no_keep = absurd (never no_hold)
beside_own false false begun true output no_list no_hold is no_keep = absurd (never no_keep)
beside_own false false true false output no_list no_hold is no_keep = is
beside_own false false false false output no_list no_hold is no_keep = is

none_some : (o : Option Bytes) → o ≡ None → is_some o ≡ false
none_some None is = refl
none_some (Some x) is = cc

one_folder : (x y : Folder) → Some x ≡ Some y → x ≡ y
one_folder x y e = cc

module _ (a : View) (views : Book) (p : Parts) (tasks : List RunningTask) (ready : CanGoOn a views p tasks) (at : ℕ) (r : RunningTask) (there : slice_get tasks at ≡ Some r) (b : View)
    (change : Changes (FileChange (data_name r.task.compaction.number) AnyChange) a b) (task : CompactTask) (same : task.compaction ≡ r.task.compaction) (can : task_.CanGoOn b task) where
  abbrev number : ℕ
  number = r.task.compaction.number

  abbrev tasks_now : List RunningTask
  tasks_now = slice_set tasks at (stepped r task)

  same_number : task.compaction.number ≡ number
  same_number = ap (λ (c : Compaction). c.number) same

  own : IsTaskReady a p r
  own = own_ready a views p tasks ready at r there b change

  stepped_ready : IsTaskReady b p (stepped r task)
  stepped_ready = record {
    can = can;
    some = own.some;
    row = own.row;
    there = own.there;
    types_are = ap (λ (c : Compaction). c.types) same ∙ own.types_are;
    partitioner_is = ap (λ (c : Compaction). c.partitioner) same ∙ own.partitioner_is;
    takes = subst (λ (c : Compaction). TakesFirst p.numbers.«data» (record { table = r.table; output = c.number; sources = c.sources; indexes = numbers_of c.indexes }) own.row.files) (sym same) own.takes;
    firsts = subst (λ (c : Compaction). map (λ (f : ListedFile). f.number) (take (length c.sources) own.row.files) ≡ c.sources) (sym same) own.firsts;
    indexes_are = subst (λ (c : Compaction). AreListedIndexes own.row c.indexes) (sym same) own.indexes_are;
    used = omega (arith, same_number, own.used);
    unlisted = subst (λ (n : ℕ). IsUnlisted n p.manifest.listing) (sym same_number) own.unlisted;
  }

  each_ready : AllByRecursion (IsTaskReady b p) tasks_now
  each_ready = each_after r task (IsTaskReady a p) (IsTaskReady b p) stepped_ready (λ o other is. other_ready a views p tasks ready at r there b change o is other) tasks at there ready.ready.apart ready.ready.each

  unheld : AllByRecursion (λ (o : RunningTask). IsUnheld views o.task.compaction.number) tasks_now
  unheld = each_after r task (λ (o : RunningTask). IsUnheld views o.task.compaction.number) (λ (o : RunningTask). IsUnheld views o.task.compaction.number)
      (subst (IsUnheld views) (sym same_number) own_unheld) (λ o other is. is) tasks at there ready.ready.apart ready.unheld
    where
      own_unheld : IsUnheld views number
      own_unheld = all_at (λ (o : RunningTask). IsUnheld views o.task.compaction.number) at tasks r ready.unheld there

  -- ---- the folder

  -- its file is there where it has an output
  present : (o : Option Output) → CanGoOnTo b task.compaction o → (folder : Folder) → b.files ≡ Some folder → is_some (get folder (data_name number)) ≡ is_some o
  present None begins folder files =
      let absent : get folder (data_name task.compaction.number) ≡ None = sym (ap (λ (f : Option Folder). contents_in f (data_name task.compaction.number)) files) ∙ begins.absent in
      none_some (get folder (data_name number)) (subst (λ (n : ℕ). get folder (data_name n) ≡ None) same_number absent)
  present (Some o) writes folder files =
      subst (λ (n : FileName). is_some (get folder n) ≡ true) (writes.file ∙ ap data_name same_number) (reached_there b o.pairs.writer.file o.pairs.writer.offset writes.room folder files)

  own_listed : has_name p.manifest.listing.tables (data_name number) ≡ false
  own_listed = isnt (has_name p.manifest.listing.tables (data_name number)) (λ listed. own.unlisted (data_name number) listed refl)

  own_held : is_held views (data_name number) ≡ false
  own_held = isnt (is_held views (data_name number)) (λ held. all_at (λ (o : RunningTask). IsUnheld views o.task.compaction.number) at tasks r ready.unheld there (data_name number) refl held)

  step_beside : (x y : Folder) → FileChange (data_name number) AnyChange x y → is_some (get y (data_name number)) ≡ is_some task.output → HasKeptBeside (is_aside views tasks p.manifest.listing) (kept_by (memory_of p)) x
      → HasKeptBeside (is_aside views tasks_now p.manifest.listing) (kept_by (memory_of p)) y
  step_beside x y step now has name = by (name_eq name (data_name number)) refl
    where
      kept : Kept
      kept = kept_by (memory_of p)

      at_own : is_kept_beside (is_aside views tasks_now p.manifest.listing) (kept_by (memory_of p)) (data_name number) ≡ is_some task.output
      at_own = beside_own (has_name p.manifest.listing.tables (data_name number)) (is_held views (data_name number)) (is_begun tasks_now (data_name number)) (is_kept (kept_by (memory_of p)) (data_name number)) (is_some task.output)
          own_listed own_held (own_begun r task same_number tasks at there ready.ready.apart) (keeps_listed (kept_by (memory_of p)) (data_name number) (omega arith) ∙ own_listed)

      by : (t : Bool) → name_eq name (data_name number) ≡ t → is_some (get y name) ≡ is_kept_beside (is_aside views tasks_now p.manifest.listing) (kept_by (memory_of p)) name
      by true is = subst (λ (n : FileName). is_some (get y n) ≡ is_kept_beside (is_aside views tasks_now p.manifest.listing) (kept_by (memory_of p)) n) (sym (name_same name (data_name number) is)) (now ∙ sym at_own)
      by false other =
          ap (λ (o : Option Bytes). is_some o) (step.others name (λ equal. never (sym (name_itself (data_name number)) ∙ ap (λ (n : FileName). name_eq n (data_name number)) (sym equal) ∙ other)))
          ∙ has name
          ∙ ap (λ t. (not (has_name p.manifest.listing.tables name) && (is_held views name || t)) || is_kept (kept_by (memory_of p)) name) (sym (other_begun r task same_number name other tasks at there))

  exactly_after : HasExactlyBeside b (is_aside views tasks_now p.manifest.listing) (memory_of p)
  exactly_after folder files =
      let was = told_files a (told_before (FileChange (data_name number) AnyChange) a b change (ap (λ (o : Option Folder). is_some o) files)) in
      let now = change.seen was.0 was.1 in
      let is : now.0 ≡ folder = one_folder now.0 folder (sym now.1 ∙ files) in
      subst (HasKeptBeside (is_aside views tasks_now p.manifest.listing) (kept_by (memory_of p))) is (step_beside was.0 now.0 now.2 (present task.output can.files now.0 now.1) (ready.exactly was.0 was.1))

  -- ---- the store

  can_after : CanChange b (memory_of p)
  can_after =
      let was = ready.can in
      record {
        consistent = was.consistent;
        definitions = was.definitions;
        tables = was.tables;
        numbered = was.numbered;
        timestamp = was.timestamp;
        log_file = was.log_file;
        manifest_room = reaches_where a b (FileChange (data_name number) AnyChange) (manifest_name p.manifest.number) (p.manifest.at + 1) change (contents_other a b (data_name number) (manifest_name p.manifest.number) AnyChange (kinds_apart _ _ (omega arith)) change) was.manifest_room;
        log_room = reaches_where a b (FileChange (data_name number) AnyChange) p.log.file (p.log.at + 1) change
            (contents_other a b (data_name number) p.log.file AnyChange (λ equal. kinds_apart (log_name p.manifest.listing.last) (data_name number) (omega arith) (sym was.log_file ∙ equal)) change) was.log_room;
        manifest_usable = was.manifest_usable;
        stands = λ told. manifest_other a b (data_name number) p.manifest.number p.manifest.at p.manifest.listing (kinds_apart _ _ (omega arith)) change (was.stands (told_before (FileChange (data_name number) AnyChange) a b change told));
        log_usable = was.log_usable;
        aside = is_aside views tasks_now p.manifest.listing;
        aside_are = ready_aside b views p tasks_now ready.held_are each_ready;
        exactly = exactly_after;
      }

  -- **It can go on.**
  pub goes_on_stepped : CanGoOn b views p tasks_now
  goes_on_stepped = record {
    can = can_after;
    parts = ready.parts;
    ready = record { each = each_ready; apart = apart_after r task same_number tasks at there ready.ready.apart };
    held_are = ready.held_are;
    unheld = unheld;
    exactly = exactly_after;
  }
