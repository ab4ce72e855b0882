-- The last unit of a task of a layout: the moves that it makes, and the layout that the store serves afterwards.
use Rattle.std.proofs.Common.{◌≡◌, ◌∙◌, ◌+◌, ◌-◌, ◌++◌, ◌<◌, ◌≤◌, ℕ, Bool, true, false, max, List, [], ◌∷◌, length, map, slice_get, take, Option, None, Some, refl, sym, ap, subst, arith, append-nil}
use Rattle.std.specs.FinMap as map_
use Rattle.std.specs.List.{AllByRecursion, flat_map, remove}
use Rattle.std.specs.Option.{option_map_or}
use Rattle.sasi_cells.specs.Maps.{merged}
use Rattle.sasi_cells.specs.declared.mutation.Mutation.{Mutation}
use Rattle.sasi_types.specs.declared.column.ColumnType.{ColumnType}
use Rattle.sasi_types.specs.declared.index_def.IndexDef.{IndexDef}
use Rattle.sasi_types.specs.declared.tree.Pair.{Pair}
use Rattle.sasi_host.proofs.ContentLaws.{told_after}
use Rattle.sasi_host.specs.Disk.{Changes, Each, Within}
use Rattle.sasi_host.specs.Names.{log_name, manifest_name, rank}
use Rattle.sasi_host.specs.View.{IsSound, View}
use Rattle.sasi_host.specs.declared.name.FileName.{FileName}
use Rattle.sasi_commitlog.specs.LogPosition.{IsAtLogEnd}
use Rattle.sasi_folder.proofs.FolderLaws.{kinds_apart}
use Rattle.sasi_model.specs.Abbreviations.{types_of}
use Rattle.sasi_model.specs.Cells.{Partition}
use Rattle.sasi_model.specs.State.{max_timestamp}
use Rattle.sasi_datawrite.specs.Format.{Content}
use Rattle.sasi_merge.specs.Streams.{Entries}
use Rattle.sasi_scan.specs.Scanning.{GivesFirst}
use Rattle.sasi_compact.specs.Listing.{AreKept, ChangesOutput, ListsOutput, edits_of, output_file, since_of}
use Rattle.sasi_compact.specs.Tasks.{IsCompacting, IsCompactingTo, IsReadyTo, content_of}
use Rattle.sasi_compact.specs.declared.compaction.Compaction.{Compaction}
use Rattle.sasi_compact.specs.declared.output.Output.{Output}
use Rattle.sasi_layout.proofs.CompactLaws.{compact_in_order, compact_state}
use Rattle.sasi_layout.proofs.Compacts.{compact_is_next}
use Rattle.sasi_layout.proofs.FileNameLaws.{kind_unnamed}
use Rattle.sasi_layout.proofs.Numbered.{unseen_at}
use Rattle.sasi_layout.specs.Between.{Between}
use Rattle.sasi_layout.specs.Compacting.{Compaction as LayoutCompaction, IsRunning, chosen, compact_parts, compact_table}
use Rattle.sasi_layout.specs.Layout.{File, Layout, TableParts, Used, bare, listed_of, listing_of, numbered}
use Rattle.sasi_layout.specs.Moves.{Compact, Move, after_compact, after_moves, compact_edits}
use Rattle.sasi_layout.specs.Serving.{Serves, table_in_memory}
use Rattle.sasi_layout.specs.Shape.{HasShape}
use Rattle.sasi_manifest.specs.Edits.{encoded}
use Rattle.sasi_manifest.specs.FileNames.{has_name}
use Rattle.sasi_manifest.specs.Format.{IsNext}
use Rattle.sasi_manifest.specs.ListedDefinition.{ListedDefinition}
use Rattle.sasi_manifest.specs.ListedFiles.{names_of}
use Rattle.sasi_manifest.specs.Listings.{after_all, with_record_counted}
use Rattle.sasi_manifest.specs.OpenManifest.{ManifestState, ManifestStands}
use Rattle.sasi_manifest.specs.declared.edit.Edit.TheVariants.{Replace}
use Rattle.sasi_manifest.specs.declared.files.PartNumber.{PartNumber}
use Rattle.sasi_manifest.specs.declared.listing.Listing.{Listing}
use Rattle.sasi_tables.proofs.Composition.{numbered_at}
use Rattle.sasi_tables.proofs.FlushFrames.{end_kept, stands_kept}
use Rattle.sasi_tables.proofs.TablesInMemory.{all_at}
use Rattle.sasi_tables.specs.Flushing.{AreTableIndexes}
use Rattle.sasi_tables.specs.TablesView.{memory_of}
use Rattle.sasi_tables.specs.declared.parts.Parts.{Parts}
use Rattle.sasi_tasks.proofs.FirstSegments.{all_begin}
use Rattle.sasi_tasks.proofs.LastFolder.{all_removed, listed_kind, listed_no_output, low_undropped, mine_source, source_gone, source_listed}
use Rattle.sasi_tasks.proofs.LastRecord.{CanEnd, parts_are, since_is, task}
use Rattle.sasi_tasks.proofs.LastShape.{IsLastOf, deletes_each, deletes_on, last_each, last_moments}
use Rattle.sasi_tasks.proofs.LastSpent.{moves_are, row_found, task_found}
use Rattle.sasi_tasks.proofs.LastTasks.{AreOther, others_apart, parts_after, task_after, tasks_after}
use Rattle.sasi_tasks.specs.MakesTaskMoves.{ServesTasks}
use Rattle.sasi_tasks.specs.Running.{AreTasksOf, IsListedIndex, IsTaskOf, IsTaskReady, compaction_of}
use Rattle.sasi_tasks.specs.Tasks.{Task, end_moves, running, source_map, without}
use Rattle.sasi_tasks.specs.Unheld.{is_counted, is_one_of}
use Rattle.sasi_tasks.specs.declared.running.RunningTask.{RunningTask}
use Rattle.sasi_views.specs.Books.{Book}

-- ---- all keys are passed

none_left : (v : View) (c : Compaction) (output : Option Output) (passed left : Entries) → IsReadyTo output → IsCompactingTo v c output passed left → left ≡ []
none_left v c None passed left ready on = absurd ready
none_left v c (Some o) passed left ready on = (subst (λ (n : Option (List ℕ × Partition)). GivesFirst v.files c.partitioner [] left o.scan n) ready.none_next on.ahead).0

some_passed : (v : View) (c : Compaction) (output : Option Output) (passed left : Entries) → IsReadyTo output → IsCompactingTo v c output passed left → 1 ≤ length passed
some_passed v c None passed left ready on = absurd ready
some_passed v c (Some o) [] left ready on = absurd (omega (arith, ready.some, ap (λ (ps : List Pair). length ps) on.written.writing.pairs))
some_passed v c (Some o) (x ∷ passed) left ready on = omega arith

-- ---- its indexes

table_indexes : (t : TableParts) (defs : List IndexDef) → AllByRecursion (IsListedIndex (listed_of t)) defs → AreTableIndexes defs t
table_indexes t [] all = tt
table_indexes t (def ∷ defs) all = (record { listed = all.0.listed; kind = all.0.kind }, table_indexes t defs all.1)

all_pairs : (P Q : RunningTask → Type 0) (rs : List RunningTask) → AllByRecursion P rs → AllByRecursion Q rs → AllByRecursion (λ (r : RunningTask). P r × Q r) rs
all_pairs P Q [] first second = tt
all_pairs P Q (r ∷ rs) first second = ((first.0, second.0), all_pairs P Q rs first.1 second.1)

max_same : (n : ℕ) → 1 ≤ n → max 1 n ≡ n
max_same n some = omega (arith, some)

module _ (a : View) (sound : IsSound a) (views : Book) (p : Parts) (tasks : List RunningTask) (at : ℕ) (r : RunningTask) (parts : List PartNumber) (e : CanEnd a views p tasks at r parts) (l : Layout) (ks : List Task) (serves : ServesTasks a p tasks l ks) where
  abbrev c : LayoutCompaction
  c = compaction_of r

  abbrev next : Layout
  next = after_compact (compaction_of r) l

  -- the task of the layout
  found : (k : Task) × (running r.table ks ≡ Some k) × IsTaskOf a l r k
  found = task_found a views p tasks at r e.ready e.there l ks serves

  one_move : end_moves r.table ks ≡ Compact (compaction_of r) ∷ []
  one_move = moves_are a views p tasks at r e.ready e.there l ks serves

  runs : IsRunning (compaction_of r) l
  runs = subst (λ (k : LayoutCompaction). IsRunning k l) found.2.is found.2.runs

  -- all of the merge is passed
  passed_all : IsCompacting a r.task found.2.passed []
  passed_all = subst (λ (es : Entries). IsCompacting a r.task found.2.passed es) (none_left a r.task.compaction r.task.output found.2.passed found.2.left e.passed found.2.compacting) found.2.compacting

  content : Content
  content = content_of found.2.passed

  -- its table
  row_of : (t : TableParts) × (slice_get l.tables (r.table - 1) ≡ Some t) × (listed_of t ≡ (task a views p tasks at r parts e).row)
  row_of = (let t = task a views p tasks at r parts e in row_found a views p tasks at r e.ready e.there l ks serves t.row t.there)

  its_table : TableParts
  its_table = row_of.0

  table_there : numbered 1 r.table l.tables ≡ Some its_table
  unfolding its_table
  table_there = numbered_at r.table l.tables row_of.0 (task a views p tasks at r parts e).some row_of.1

  entries_are : map_.entries (source_map (compaction_of r) l) ≡ found.2.passed
  entries_are =
      ap (λ (k : LayoutCompaction). map_.entries (source_map k l)) (sym found.2.is) ∙ sym found.2.whole
      ∙ ap (λ (es : Entries). found.2.passed ++ es) (none_left a r.task.compaction r.task.output found.2.passed found.2.left e.passed found.2.compacting) ∙ append-nil found.2.passed

  holds_are : map_.entries (merged (map (λ (f : File). f.holds) (chosen r.task.compaction.sources its_table.files))) ≡ found.2.passed
  holds_are =
      ap (λ (o : Option TableParts). map_.entries (option_map_or (λ (t : TableParts). merged (map (λ (f : File). f.holds) (chosen r.task.compaction.sources t.files))) o map_.empty)) (sym table_there) ∙ entries_are

  parts_as : parts ≡ compact_parts l.used.part (compaction_of r) its_table.numbers
  unfolding its_table
  parts_as =
      (parts_are a views p tasks at r parts e).are ∙ ap (λ (u : Used). compact_parts u.part (compaction_of r) (task a views p tasks at r parts e).row.numbers) serves.serves.used
      ∙ ap (λ (t : ListedDefinition). compact_parts l.used.part (compaction_of r) t.numbers) (sym row_of.2)

  -- **It is the last unit of a task of the layout.**
  is_last : IsLastOf l r parts content its_table
  unfolding its_table content
  is_last =
      let t = task a views p tasks at r parts e in
      record {
        there = table_there;
        typed = subst (λ (ts : List ColumnType). length ts ≤ 64) (t.types_are ∙ ap (λ (k : ListedDefinition). types_of k.definition) (sym row_of.2)) t.can.can.narrow;
        partitioner = t.partitioner_is ∙ ap (λ (g : Listing). g.partitioner) serves.serves.listing;
        parts_are = parts_as;
        indexes = table_indexes row_of.0 r.task.compaction.indexes (subst (λ (k : ListedDefinition). AllByRecursion (IsListedIndex k) r.task.compaction.indexes) (sym row_of.2) t.indexes_are.each);
        some = subst (λ (es : Entries). 1 ≤ length es) (sym holds_are) (some_passed a r.task.compaction r.task.output found.2.passed found.2.left e.passed found.2.compacting);
        content_is = ap content_of (sym holds_are);
        unlisted = λ name is. listed_no_output a views p tasks at r parts e name (ap (λ (g : Listing). has_name g.tables name) serves.serves.listing ∙ is);
      }

  -- ---- its record

  stands_was : ManifestStands a p.manifest.number p.manifest.at p.manifest.listing
  stands_was = e.ready.can.stands serves.serves.told

  since_same : since_of p.manifest.listing.tables r.table ≡ its_table.since
  unfolding its_table
  since_same =
      let t = task a views p tasks at r parts e in
      let begins : 1 ≤ t.row.since = all_at (λ (k : ListedDefinition). 1 ≤ k.since) (r.table - 1) p.manifest.listing.tables t.row (all_begin stands_was.records p.manifest.listing stands_was.builds) t.there in
      since_is a views p tasks at r parts e ∙ max_same t.row.since begins ∙ ap (λ (k : ListedDefinition). k.since) (sym row_of.2)

  pub edits_same : edits_of p.manifest.listing r.table r.task.compaction parts ≡ compact_edits (compaction_of r) l
  edits_same =
      (λ i. Replace r.table r.task.compaction.sources (record { number = r.task.compaction.number; parts = parts_as i } ∷ []) (since_same i) (serves.serves.listing i).floor (serves.serves.listing i).last ∷ [])
      ∙ sym (ap (λ (o : Option TableParts). option_map_or (λ (t : TableParts). Replace r.table r.task.compaction.sources (record { number = r.task.compaction.number; parts = compact_parts l.used.part (compaction_of r) t.numbers } ∷ []) t.since l.floor l.last ∷ []) o []) table_there)

  -- **The layout after it is listed next.**
  next_listed : IsNext p.manifest.listing (edits_of p.manifest.listing r.table r.task.compaction parts) (listing_of next)
  next_listed =
      compact_is_next (compaction_of r) l its_table table_there
      ∙ (λ i. with_record_counted (encoded (sym edits_same i)) (after_all (Some (sym serves.serves.listing i)) (sym edits_same i)))

  listing_after : (m : Listing) → IsNext p.manifest.listing (edits_of p.manifest.listing r.table r.task.compaction parts) m → m ≡ listing_of next
  listing_after m is = one (is ∙ sym next_listed)
    where
      one : Some m ≡ Some (listing_of next) → m ≡ listing_of next
      one s = cc

  -- ---- moments

  module _ (b : View) (whole : (g : Listing) (passed : Entries) → IsNext p.manifest.listing (edits_of p.manifest.listing r.table r.task.compaction parts) g → ManifestStands a p.manifest.number p.manifest.at p.manifest.listing → IsCompacting a r.task passed []
      → Changes (ListsOutput p.manifest.number p.manifest.listing g r.task.compaction parts (content_of passed)) a b) where
    -- **At each moment of it a crash leaves the layout before it or after it.**
    pub unit_moments : Changes (λ x y. Between l (end_moves r.table ks) y) a b
    unfolding content
    unit_moments = subst (λ (ms : List Move). Changes (λ x y. Between l ms y) a b) (sym one_move)
        (last_moments l r parts content its_table is_last a b (serves.serves.older ++ serves.serves.current ∷ []) sound serves.serves.shape
        (subst (λ (k : ℕ). Changes (ListsOutput k (listing_of l) (listing_of next) r.task.compaction parts content) a b) serves.serves.manifest
        (subst (λ (g : Listing). Changes (ListsOutput p.manifest.number g (listing_of next) r.task.compaction parts content) a b) serves.serves.listing
        (whole (listing_of next) found.2.passed next_listed stands_was passed_all))))

    -- ---- afterwards

    module _ (sound_b : IsSound b) (m : ManifestState) (listed : IsNext p.manifest.listing (edits_of p.manifest.listing r.table r.task.compaction parts) m.listing) (number : m.number ≡ p.manifest.number)
        (change : Changes (ChangesOutput p.manifest.number (output_file r.task.compaction parts)) a b)
        (stands : ManifestStands a p.manifest.number p.manifest.at p.manifest.listing → ManifestStands b p.manifest.number m.at m.listing)
        (kept : (passed : Entries) → IsCompacting a r.task passed [] → AreKept b r.task.compaction parts (content_of passed))
        (d : View) (deleted : Changes (Within (is_one_of (is_counted views 0) (flat_map names_of (take (length r.task.compaction.sources) (task a views p tasks at r parts e).row.files)))) b d) where
      abbrev Dropped : FileName → Bool
      Dropped = is_one_of (is_counted views 0) (flat_map names_of (take (length r.task.compaction.sources) (task a views p tasks at r parts e).row.files))

      abbrev logs : List (List Mutation)
      logs = serves.serves.older ++ serves.serves.current ∷ []

      lists : m.listing ≡ listing_of next
      lists = listing_after m.listing listed

      stands_b : ManifestStands b l.used.manifest m.at (listing_of next)
      stands_b = subst (λ (k : ℕ). ManifestStands b k m.at (listing_of next)) serves.serves.manifest (subst (ManifestStands b p.manifest.number m.at) lists (stands stands_was))

      shape_b : Each b (λ x. HasShape x (bare next) logs)
      unfolding content
      shape_b = last_each l r parts content its_table is_last a b m.at logs sound_b serves.serves.shape
          (subst (λ (k : ℕ). Changes (ChangesOutput k (output_file r.task.compaction parts)) a b) serves.serves.manifest change) stands_b (kept found.2.passed passed_all)

      low : (name : FileName) → rank name.kind < 3 → Dropped name ≡ false
      low name = low_undropped a views p tasks at r parts e name

      dropped_source : (name : FileName) → Dropped name ≡ true → has_name p.manifest.listing.tables name ≡ true
      dropped_source name is = source_listed a views p tasks at r parts e name (mine_source a views p tasks at r parts e name is)

      dropped_kind : (name : FileName) → Dropped name ≡ true → 3 ≤ rank name.kind
      dropped_kind name is = listed_kind p.manifest.listing.tables name (dropped_source name is)

      dropped_unlisted : (name : FileName) → Dropped name ≡ true → has_name (listing_of next).tables name ≡ false
      dropped_unlisted name is =
          ap (λ (g : Listing). has_name g.tables name) (sym lists) ∙ source_gone a views p tasks at r parts e m.listing listed name (mine_source a views p tasks at r parts e name is)

      -- **So with the deletions,**
      pub end_moments : Changes (λ x y. Between l (end_moves r.table ks) y) a d
      end_moments = deletes_on next Dropped dropped_kind dropped_unlisted l (end_moves r.table ks) a b d logs (ap (λ (ms : List Move). after_moves ms l) one_move) sound_b shape_b unit_moments deleted

      log_kept : IsAtLogEnd d (log_name l.last) p.log.at serves.serves.current
      log_kept =
          end_kept b d (Within Dropped) (log_name l.last) p.log.at _ (λ x y s. s (log_name l.last) (low (log_name l.last) (omega arith))) deleted
          (end_kept a b (ChangesOutput p.manifest.number (output_file r.task.compaction parts)) (log_name l.last) p.log.at _ (λ x y s. s (log_name l.last) (kinds_apart _ _ (omega arith)) (kind_unnamed (log_name l.last) (output_file r.task.compaction parts) (omega arith))) change serves.serves.log_end)

      serves_next : Serves d (memory_of (parts_after p m (p.numbers.part + length parts))) next
      serves_next =
          let was = serves.serves in
          let change_table : TableParts → TableParts = compact_table l.used.part (compaction_of r) in
          record {
            told = told_after (Within Dropped) b d deleted (told_after (ChangesOutput p.manifest.number (output_file r.task.compaction parts)) a b change was.told);
            in_order = compact_in_order (compaction_of r) l runs was.in_order;
            definitions = was.definitions ∙ sym (unseen_at (λ (t : TableParts). t.definition) change_table (λ t. refl) 1 r.table l.tables);
            tables = was.tables ∙ sym (unseen_at table_in_memory change_table (λ t. refl) 1 r.table l.tables);
            used = ap (λ (u : Used). record u { part = u.part + length parts }) was.used
                ∙ ap (λ (ps : List PartNumber). record l.used { part = l.used.part + length ps }) (parts_as ∙ sym (ap (λ (o : Option TableParts). option_map_or (λ (t : TableParts). compact_parts l.used.part (compaction_of r) t.numbers) o []) table_there));
            timestamp = was.timestamp ∙ sym (ap max_timestamp (compact_state (compaction_of r) l runs));
            listing = lists;
            manifest = number ∙ was.manifest;
            log = was.log;
            older = was.older;
            current = was.current;
            log_end = log_kept;
            manifest_end = stands_kept b d (Within Dropped) l.used.manifest m.at (listing_of next) (λ x y s. s (manifest_name l.used.manifest) (low (manifest_name l.used.manifest) (omega arith))) deleted stands_b;
            shape = deletes_each next Dropped dropped_kind dropped_unlisted b d logs shape_b deleted;
          }

      tasks_next : AreTasksOf d next (remove tasks at) (without r.table ks)
      tasks_next =
          tasks_after a d l next r (λ (o : RunningTask). IsTaskReady a p o × AreOther r o) (λ o q. q.1.0)
          (λ o k q of. task_after a views p tasks at r parts e m.listing listed b change d deleted o q.0 q.1 l k of)
          tasks ks at e.there (all_pairs (IsTaskReady a p) (AreOther r) (remove tasks at) (all_removed (IsTaskReady a p) tasks at e.ready.ready.each) (others_apart tasks at r e.ready.ready.apart e.there)) serves.tasks_are

      -- **the store serves the layout after it, with the other tasks.**
      pub end_serves : ServesTasks d (parts_after p m (p.numbers.part + length parts)) (remove tasks at) (after_moves (end_moves r.table ks) l) (without r.table ks)
      end_serves = subst (λ (ms : List Move). ServesTasks d (parts_after p m (p.numbers.part + length parts)) (remove tasks at) (after_moves ms l) (without r.table ks)) (sym one_move)
          (record { serves = serves_next; tasks_are = tasks_next })
