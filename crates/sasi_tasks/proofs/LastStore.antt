-- The store after the last unit of a task: it can go on with the others.
use Rattle.std.proofs.Common.{◌≡◌, ◌∙◌, ◌||◌, ◌&&◌, ◌+◌, ◌-◌, ◌<◌, ◌≤◌, ◌^◌, ℕ, suc, Bool, true, false, cond, not, nat_eq, is_some, List, [], ◌∷◌, length, map, take, Some, refl, sym, ap, subst, arith}
use Rattle.std.proofs.lemmas.Bool.Decides.{nat_tests}
use Rattle.std.specs.Prelude.{IsTrue}
use Rattle.std.specs.List.{AllByRecursion, flat_map, remove}
use Rattle.sasi_host.proofs.ContentLaws.{contents_kept, reaches_where, told_before}
use Rattle.sasi_host.specs.Disk.{Changes, Within}
use Rattle.sasi_host.specs.Names.{data_name, log_name, manifest_name, name_eq, rank}
use Rattle.sasi_host.specs.View.{IsThere, Reaches, View}
use Rattle.sasi_host.specs.declared.name.FileName.{FileName}
use Rattle.sasi_folder.proofs.FolderLaws.{kinds_apart}
use Rattle.sasi_compact.specs.Listing.{ChangesOutput, edits_of, output_file, since_of}
use Rattle.sasi_layout.proofs.FileNameLaws.{kind_unnamed, name_same, other_kind}
use Rattle.sasi_layout.proofs.Numbered.{all_changed}
use Rattle.sasi_layout.specs.Kept.{AreAside}
use Rattle.sasi_layout.specs.Layout.{numbered}
use Rattle.sasi_layout.specs.NumbersInOrder.{HasFilesInOrder, HasIndexesNumbered, Rising}
use Rattle.sasi_layout.specs.Serving.{CanChange}
use Rattle.sasi_manifest.proofs.Consistency.{record_consistent}
use Rattle.sasi_manifest.proofs.Replacing.{unchanged}
use Rattle.sasi_manifest.specs.Consistent.{IsConsistent}
use Rattle.sasi_manifest.specs.Edits.{encoded}
use Rattle.sasi_manifest.specs.FileNames.{has_name}
use Rattle.sasi_manifest.specs.Format.{IsNext}
use Rattle.sasi_manifest.specs.ListedDefinition.{ListedDefinition}
use Rattle.sasi_manifest.specs.ListedFiles.{names_of}
use Rattle.sasi_manifest.specs.Listings.{at_number, listed_definitions, replaced}
use Rattle.sasi_manifest.specs.OpenManifest.{ManifestState, ManifestStands}
use Rattle.sasi_manifest.specs.declared.files.ListedFile.{ListedFile}
use Rattle.sasi_manifest.specs.declared.files.PartNumber.{PartNumber}
use Rattle.sasi_manifest.specs.declared.listing.Listing.{Listing}
use Rattle.sasi_types.specs.declared.partitioner.Partitioner.{Partitioner}
use Rattle.sasi_tables.proofs.Composition.{numbered_at}
use Rattle.sasi_tables.proofs.FlushFrames.{stands_kept}
use Rattle.sasi_tables.proofs.FlushedMaps.{definitions_flushed, regular_flushed, wanted_flushed}
use Rattle.sasi_tables.proofs.TablesInMemory.{all_at}
use Rattle.sasi_tables.specs.Held.{AreMapped, HasRegularIndexes, Subject, subjects_of}
use Rattle.sasi_tables.specs.TablesView.{AreTables, IsOfParts, held_in, memory_of, wanted_of}
use Rattle.sasi_tables.specs.declared.parts.Parts.{Parts}
use Rattle.sasi_tasks.proofs.LastFolder.{all_removed, folder_after, low_undropped, next_is, unlisted_no_source}
use Rattle.sasi_tasks.proofs.LastRecord.{CanEnd, applies, since_is, task}
use Rattle.sasi_tasks.proofs.LastTasks.{AreOther, apart_after, contents_stay, others_apart, parts_after, ready_after}
use Rattle.sasi_tasks.proofs.TakenFiles.{files_after, left_rise}
use Rattle.sasi_tasks.specs.MakesTaskMoves.{CanGoOn}
use Rattle.sasi_tasks.specs.Running.{AreTasksReady, IsTaskReady, IsUnheld, compaction_of, is_aside, is_begun, is_held}
use Rattle.sasi_tasks.specs.Unheld.{AreGone, is_counted, is_one_of}
use Rattle.sasi_tasks.specs.declared.running.RunningTask.{RunningTask}
use Rattle.sasi_views.specs.Books.{Book}

-- ---- items by their numbers

all_at_one : (P : ListedDefinition → Type 0) (f : ListedDefinition → ListedDefinition) (row : ListedDefinition) → P (f row) → (n number : ℕ) (ts : List ListedDefinition) → numbered n number ts ≡ Some row → AllByRecursion P ts → AllByRecursion P (at_number n number f ts)
all_at_one P f row own n number [] there all = tt
all_at_one P f row own n number (t ∷ ts) there all = by (nat_eq n number) refl there (all_at_one P f row own (suc n) number ts)
  where
    by : (b : Bool) → nat_eq n number ≡ b → cond b (Some t) (numbered (suc n) number ts) ≡ Some row → (numbered (suc n) number ts ≡ Some row → AllByRecursion P ts → AllByRecursion P (at_number (suc n) number f ts))
        → P (cond b (f t) t) × AllByRecursion P (at_number (suc n) number f ts)
    by true is here rest =
        let one : t ≡ row = cc in
        let same : n ≡ number = grind (arith, nat_tests, is) in
        (subst (λ (k : ListedDefinition). P (f k)) (sym one) own, subst (AllByRecursion P) (sym (unchanged (suc n) number f ts (omega (arith, same)))) all.1)
    by false is here rest = (all.0, rest here all.1)

-- ---- files aside

begun_where : (used : ℕ) (os : List RunningTask) (name : FileName) → AllByRecursion (λ (o : RunningTask). o.task.compaction.number ≤ used) os → is_begun os name ≡ true → (3 ≤ rank name.kind) × (name.number ≤ used)
begun_where used [] name all is = cc
begun_where used (o ∷ os) name all is = by (name_eq name (data_name o.task.compaction.number)) refl is (begun_where used os name all.1)
  where
    by : (b : Bool) → name_eq name (data_name o.task.compaction.number) ≡ b → ((b && is_some o.task.output) || is_begun os name) ≡ true → (is_begun os name ≡ true → (3 ≤ rank name.kind) × (name.number ≤ used)) → (3 ≤ rank name.kind) × (name.number ≤ used)
    by true same begun rest =
        let one = name_same name (data_name o.task.compaction.number) same in
        (subst (λ (n : FileName). 3 ≤ rank n.kind) (sym one) (omega arith), omega (arith, ap (λ (n : FileName). n.number) one, all.0))
    by false other begun rest = rest begun

used_each : (v : View) (p : Parts) (os : List RunningTask) → AllByRecursion (IsTaskReady v p) os → AllByRecursion (λ (o : RunningTask). o.task.compaction.number ≤ p.numbers.«data») os
used_each v p [] all = tt
used_each v p (o ∷ os) all = (all.0.used, used_each v p os all.1)

-- what views list, and what tasks have begun, is aside
are_aside : (views : Book) (used : ℕ) (os : List RunningTask) (listing : Listing) → AreAside used (is_held views) → AllByRecursion (λ (o : RunningTask). o.task.compaction.number ≤ used) os → AreAside used (is_aside views os listing)
are_aside views used os listing held all = record { kind = λ name is. (either name is).0; number = λ name is. (either name is).1 }
  where
    either : (name : FileName) → is_aside views os listing name ≡ true → (3 ≤ rank name.kind) × (name.number ≤ used)
    either name is = by (not (has_name listing.tables name)) (is_held views name) refl is
      where
        by : (n h : Bool) → is_held views name ≡ h → (n && (h || is_begun os name)) ≡ true → (3 ≤ rank name.kind) × (name.number ≤ used)
        by true true h_is both = (held.kind name h_is, held.number name h_is)
        by true false h_is both = begun_where used os name all both
        by false h h_is both = cc

both_all : (v w : View) (p q : Parts) (r : RunningTask) (os : List RunningTask) → ((o : RunningTask) → IsTaskReady v p o → AreOther r o → IsTaskReady w q o) → AllByRecursion (IsTaskReady v p) os → AllByRecursion (AreOther r) os → AllByRecursion (IsTaskReady w q) os
both_all v w p q r [] step ready other = tt
both_all v w p q r (o ∷ os) step ready other = (step o ready.0 other.0, both_all v w p q r os step ready.1 other.1)

-- ---- the store

module _ (a : View) (views : Book) (p : Parts) (tasks : List RunningTask) (at : ℕ) (r : RunningTask) (parts : List PartNumber) (e : CanEnd a views p tasks at r parts)
    (m : ManifestState) (listed : IsNext p.manifest.listing (edits_of p.manifest.listing r.table r.task.compaction parts) m.listing) (number : m.number ≡ p.manifest.number)
    (b : View) (change : Changes (ChangesOutput p.manifest.number (output_file r.task.compaction parts)) a b) (room : Reaches b (manifest_name m.number) (m.at + 1)) (usable : IsTrue m.usable)
    (stands : ManifestStands a p.manifest.number p.manifest.at p.manifest.listing → ManifestStands b p.manifest.number m.at m.listing) (there : AllByRecursion (IsThere b) (names_of (output_file r.task.compaction parts)))
    (d : View) (deleted : Changes (Within (is_one_of (is_counted views 0) (flat_map names_of (take (length r.task.compaction.sources) (task a views p tasks at r parts e).row.files)))) b d)
    (gone : AreGone (is_counted views 0) d (flat_map names_of (take (length r.task.compaction.sources) (task a views p tasks at r parts e).row.files))) (part : ℕ) (small : r.table < 2 ^ 32) where
  abbrev rows : List ListedDefinition
  rows = p.manifest.listing.tables

  abbrev output : ListedFile
  output = output_file r.task.compaction parts

  abbrev Dropped : FileName → Bool
  Dropped = is_one_of (is_counted views 0) (flat_map names_of (take (length r.task.compaction.sources) (task a views p tasks at r parts e).row.files))

  abbrev now : List RunningTask
  now = remove tasks at

  abbrev new : Parts
  new = parts_after p m part

  abbrev change_row : ListedDefinition → ListedDefinition
  change_row = replaced r.task.compaction.sources (output ∷ []) (since_of rows r.table)

  listing_is : (m.listing.partitioner ≡ p.manifest.listing.partitioner) × (m.listing.floor ≡ p.manifest.listing.floor) × (m.listing.last ≡ p.manifest.listing.last) × (m.listing.tables ≡ at_number 1 r.table change_row rows)
  listing_is = next_is a views p tasks at r parts e m.listing listed

  consistent : IsConsistent m.listing
  consistent = record_consistent (Some p.manifest.listing) (encoded (edits_of p.manifest.listing r.table r.task.compaction parts)) (edits_of p.manifest.listing r.table r.task.compaction parts) m.listing (applies a views p tasks at r parts e small, tt) listed e.ready.can.consistent

  files_in_order : AllByRecursion (HasFilesInOrder p.numbers.«data» p.manifest.listing.last) (at_number 1 r.table change_row rows)
  files_in_order =
      let t = task a views p tasks at r parts e in
      let was = all_at (HasFilesInOrder p.numbers.«data» p.manifest.listing.last) (r.table - 1) rows t.row e.ready.can.numbered.files t.there in
      let known = e.ready.can.consistent in
      all_at_one (HasFilesInOrder p.numbers.«data» p.manifest.listing.last) change_row t.row (record {
        rise = subst (Rising 0 p.numbers.«data») (sym (files_after p.numbers.«data» (compaction_of r) t.row.files t.takes output refl)) (t.takes.some, left_rise p.numbers.«data» (compaction_of r) t.row.files t.takes);
        since = subst (λ (k : ℕ). k ≤ p.manifest.listing.last) (sym (since_is a views p tasks at r parts e)) (omega (arith, was.since, known.start.floor_some, known.start.ordered));
      }) 1 r.table rows (numbered_at r.table rows t.row t.some t.there) e.ready.can.numbered.files

  can_after : CanChange d (memory_of new)
  can_after =
      let can = e.ready.can in
      let log_low : rank p.log.file.kind < 3 = subst (λ (n : FileName). rank n.kind < 3) (sym can.log_file) (omega arith) in
      record {
        consistent = consistent;
        definitions = can.definitions ∙ sym (ap listed_definitions listing_is.3 ∙ definitions_flushed r.task.compaction.sources (output ∷ []) (since_of rows r.table) r.table rows);
        tables = rw (listing_is.0, listing_is.1, listing_is.2) can.tables;
        numbered = record {
          manifest_is = can.numbered.manifest_is ∙ sym number;
          log_is = can.numbered.log_is ∙ sym listing_is.2;
          files = rw (listing_is.2, listing_is.3) files_in_order;
          indexes = rw listing_is.3 (all_changed (HasIndexesNumbered p.numbers.index) (HasIndexesNumbered p.numbers.index) change_row (λ t is. record { counted = is.counted; within = is.within }) (λ t is. is) 1 r.table rows can.numbered.indexes);
          fits = can.numbered.fits;
        };
        timestamp = can.timestamp;
        log_file = can.log_file ∙ ap log_name (sym listing_is.2);
        manifest_room = reaches_where b d (Within Dropped) (manifest_name m.number) (m.at + 1) deleted (contents_kept b d (Within Dropped) (manifest_name m.number) (λ x y s. s (manifest_name m.number) (low_undropped a views p tasks at r parts e (manifest_name m.number) (omega arith))) deleted) room;
        log_room = λ told. (
            let was = can.log_room (told_before (ChangesOutput p.manifest.number output) a b change (told_before (Within Dropped) b d deleted told)) in (
              was.0,
              contents_stay a views p tasks at r parts e m.listing listed b change d deleted p.log.file
                  (λ same. kinds_apart (log_name p.manifest.listing.last) (manifest_name p.manifest.number) (omega arith) (sym can.log_file ∙ same)) (kind_unnamed p.log.file output log_low) (unlisted_no_source a views p tasks at r parts e p.log.file (other_kind p.log.file rows log_low)) ∙ was.1,
              was.2,
            ));
        manifest_usable = usable;
        log_usable = can.log_usable;
        stands = λ told. subst (λ (k : ℕ). ManifestStands d k m.at m.listing) (sym number)
            (stands_kept b d (Within Dropped) p.manifest.number m.at m.listing (λ x y s. s (manifest_name p.manifest.number) (low_undropped a views p tasks at r parts e (manifest_name p.manifest.number) (omega arith))) deleted
            (stands (can.stands (told_before (ChangesOutput p.manifest.number output) a b change (told_before (Within Dropped) b d deleted told)))));
        aside = is_aside views now m.listing;
        aside_are = are_aside views p.numbers.«data» now m.listing e.ready.held_are (all_removed (λ (o : RunningTask). o.task.compaction.number ≤ p.numbers.«data») tasks at (used_each a p tasks e.ready.ready.each));
        exactly = folder_after a views p tasks at r parts e m.listing listed b change m refl number room there d deleted gone;
      }

  parts_of : IsOfParts new
  parts_of =
      let of = e.ready.parts in
      let wanted : wanted_of new ≡ wanted_of p = ap (λ (ts : List ListedDefinition). map subjects_of ts) listing_is.3 ∙ wanted_flushed r.task.compaction.sources (output ∷ []) (since_of rows r.table) r.table rows in
      record {
        tables = subst (λ (q : Partitioner). AreTables q (held_in p)) (sym listing_is.0) of.tables;
        mapped = subst (λ (w : List (List Subject)). AreMapped p.maps p.last_map w p.tables.items) (sym wanted) of.mapped;
        regular = subst (AllByRecursion HasRegularIndexes) (sym listing_is.3) (regular_flushed r.task.compaction.sources (output ∷ []) (since_of rows r.table) r.table rows of.regular);
      }

  tasks_ready : AreTasksReady d new now
  tasks_ready = record {
    each = both_all a d p new r now
        (λ o ready other. ready_after a views p tasks at r parts e m.listing listed b change d deleted o ready other m part refl)
        (all_removed (IsTaskReady a p) tasks at e.ready.ready.each) (others_apart tasks at r e.ready.ready.apart e.there);
    apart = apart_after tasks at e.ready.ready.apart;
  }

  -- **It can go on with the others.**
  pub goes_on : CanGoOn d views new now
  goes_on = record {
    can = can_after;
    parts = parts_of;
    ready = tasks_ready;
    held_are = e.ready.held_are;
    unheld = all_removed (λ (o : RunningTask). IsUnheld views o.task.compaction.number) tasks at e.ready.unheld;
    exactly = folder_after a views p tasks at r parts e m.listing listed b change m refl number room there d deleted gone;
  }
