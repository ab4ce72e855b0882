-- A cursor that is opened, over the tables after the freeze: it gives the rows that the SELECT has, and the others stay.
use Rattle.std.proofs.Common.{◌≡◌, ◌-◌, ◌<◌, ◌++◌, ◌||◌, ℕ, Bool, true, false, if◌then◌else◌, length, List, [], ◌∷◌, map, slice_get, Option, Some, refl, sym, ap, subst, ◌∙◌, length-append, arith}
use Rattle.std.proofs.lemmas.List.{map-append}
use Rattle.std.specs.List.{AllByRecursion, flat_map, list_any}
use Rattle.std.proofs.lemmas.List.Folds.{list_any-append}
use Rattle.std.specs.Option.{option_map_or}
use Rattle.sasi_types.specs.declared.class.Class.{Class}
use Rattle.sasi_types.specs.declared.column.ColumnType.{ColumnType}
use Rattle.sasi_cells.specs.Maps.{merged}
use Rattle.sasi_cells.specs.declared.picked.Picked.{Picked}
use Rattle.sasi_host.proofs.ContentLaws.{told_files}
use Rattle.sasi_host.specs.declared.name.FileName.{FileName}
use Rattle.sasi_host.specs.Names.{Folder, name_eq}
use Rattle.sasi_host.specs.View.{IsSound, View}
use Rattle.sasi_layout.proofs.FileNameLaws.{has_name_by}
use Rattle.sasi_layout.proofs.LayoutLaws.{freeze_state}
use Rattle.sasi_layout.specs.Layout.{File, Layout, TableParts, listed_of, state_of}
use Rattle.sasi_layout.specs.Moves.{Freeze, after_moves}
use Rattle.sasi_layout.specs.Serving.{CanChange, Serves}
use Rattle.sasi_layout.specs.Statements.{any_partition}
use Rattle.sasi_machine.proofs.CursorTurns.{opened_agrees}
use Rattle.sasi_machine.specs.Prepares.{rows_asked}
use Rattle.sasi_machine.specs.declared.prepared.OpenAsked.{OpenAsked}
use Rattle.sasi_manifest.specs.Edits.{files_of}
use Rattle.sasi_manifest.specs.FileNames.{has_name}
use Rattle.sasi_manifest.specs.ListedDefinition.{ListedDefinition}
use Rattle.sasi_manifest.specs.ListedFiles as manifests
use Rattle.sasi_manifest.specs.ListedTables.{listed}
use Rattle.sasi_manifest.specs.declared.files.ListedFile.{ListedFile}
use Rattle.sasi_manifest.specs.declared.listing.Listing.{Listing}
use Rattle.sasi_memindex.specs.Book.{Book as MapBook}
use Rattle.sasi_model.specs.Filters.{where_of}
use Rattle.sasi_model.specs.State.{State}
use Rattle.sasi_candidates.specs.Checks.{rows as answer}
use Rattle.sasi_candidates.specs.Parts.{maps_of}
use Rattle.sasi_recheck.specs.Rows.{KnowsWhere}
use Rattle.sasi_scan.specs.Numbered.{views_numbered}
use Rattle.sasi_sources.specs.KeyCandidates.{HasKeyType}
use Rattle.sasi_views.proofs.BookLaws.{take_counted}
use Rattle.sasi_views.specs.Books.{Book}
use Rattle.sasi_views.specs.Changes.{Taken}
use Rattle.sasi_views.specs.Kept.{IsCounted}
use Rattle.sasi_views.specs.Parts.{ListsOnce, components_of}
use Rattle.sasi_views.specs.declared.part.Part.{Part}
use Rattle.sasi_views.specs.declared.part.Part.TheVariants.{Map}
use Rattle.sasi_engine.specs.HitCandidates.{PlanWorld}
use Rattle.sasi_engine.specs.Plans.{is_file_of, map_numbers, names_of}
use Rattle.sasi_plan.specs.Answers.{RowsLeft, row_of}
use Rattle.sasi_plan.specs.Plans.{PlanView}
use Rattle.sasi_plan.specs.Reading.{IsReadIn, PendingReady}
use Rattle.sasi_plan.specs.contracts.plan_candidates.PlanCandidatesCandidates.TheImpl as source
use Rattle.sasi_fetch.specs.Cursors.{IsReadable, view_of}
use Rattle.sasi_fetch.specs.Printing.{row_picked}
use Rattle.sasi_fetch.specs.declared.cursor.Cursor.{Cursor}
use Rattle.sasi_tables.proofs.TablesInMemory.{all_push, inside_there, seen_as}
use Rattle.sasi_tables.specs.Freezing.{HasEmptyMemtable, HasFrozenIf, HasFrozenWhere, freeze_where, holds_any}
use Rattle.sasi_tables.specs.Held.{HeldTable}
use Rattle.sasi_tables.specs.MakesMoves.{Knows}
use Rattle.sasi_tables.specs.Pinned.{KeepsPinned}
use Rattle.sasi_tables.specs.TablesView.{IsOfParts, held_in, memory_of}
use Rattle.sasi_tables.specs.ViewParts.{aside_parts, current_parts, frozen_numbers, listed_parts}
use Rattle.sasi_tables.specs.declared.parts.Parts.{Parts}
use Rattle.sasi_tables.specs.declared.table_maps.TableMaps.{TableMaps}
use Rattle.sasi_tasks.specs.MakesTaskMoves.{CanGoOn}
use Rattle.sasi_tasks.specs.Running.{IsListedOrGone}
use Rattle.sasi_store.specs.CursorCalls.{IsOpened}
use Rattle.sasi_store.specs.Cursors.{AreCursors, GivesRows, IsKept, IsKeptPart, view_names, views_out, views_told}
use Rattle.sasi_store.specs.Selects.{IsPlanFor}
use Rattle.sasi_store.specs.StoreView.{KnowsAll}
use Rattle.sasi_store.specs.Worlds.{table_names}
use Rattle.sasi_store.specs.declared.session_state.OpenCursor.{OpenCursor}
use Rattle.sasi_store.specs.declared.session_state.SessionState.{SessionState}
use Rattle.sasi_store.proofs.KeptCursors.{KeepsViews, cursors_kept, cursors_still}
use Rattle.sasi_store.proofs.Known.{known_after}
use Rattle.sasi_store.proofs.OpenedTasks.{freeze_runs, goes_on_opened, tasks_run}
use Rattle.sasi_store.proofs.OpenedViews.{aside_kept, aside_once, keys_front, memtable_last, ready_front}
use Rattle.sasi_store.proofs.OpenedWorlds.{opened, opened_have, opened_read, opened_rows}
use Rattle.sasi_store.proofs.Planned.{plan_prints, plan_ready}
use Rattle.sasi_store.proofs.ViewFiles.{name_listed, view_files, view_once}

-- a freeze leaves the manifest,
pub frozen_manifest : (table : ℕ) (old new : Parts) (t : HeldTable) → slice_get (held_in old) (table - 1) ≡ Some t → HasFrozenWhere table old new → new.manifest ≡ old.manifest
frozen_manifest table old new t there frozen = by (any_partition (t.memtable.partitions ∷ [])) (frozen t there)
  where
    by : (b : Bool) → HasFrozenIf b (table - 1) t old new → new.manifest ≡ old.manifest
    by true is = λ i. (is.rest i).manifest
    by false is = λ i. (is i).manifest

-- and the numbers,
pub frozen_numbers_stay : (table : ℕ) (old new : Parts) (t : HeldTable) → slice_get (held_in old) (table - 1) ≡ Some t → HasFrozenWhere table old new → new.numbers.«data» ≡ old.numbers.«data»
frozen_numbers_stay table old new t there frozen = by (any_partition (t.memtable.partitions ∷ [])) (frozen t there)
  where
    by : (b : Bool) → HasFrozenIf b (table - 1) t old new → new.numbers.«data» ≡ old.numbers.«data»
    by true is = λ i. (is.rest i).numbers.«data»
    by false is = λ i. (is i).numbers.«data»

-- and the state
freeze_same : (table : ℕ) (l : Layout) → state_of (after_moves (freeze_where table l) l) ≡ state_of l
freeze_same table l = by (holds_any table l)
  where
    by : (b : Bool) → state_of (after_moves (if b then Freeze table ∷ [] else []) l) ≡ state_of l
    by true = freeze_state table l
    by false = refl

-- the files of a view are those that are listed
names_listed : (fs : List ListedFile) (ns : List ℕ) → view_names (listed_parts fs ns) ≡ flat_map manifests.names_of fs
names_listed [] [] = refl
names_listed [] (n ∷ ns) = names_listed [] ns
names_listed (f ∷ fs) ns = ap (λ (l : List FileName). manifests.names_of f ++ l) (names_listed fs ns)

-- a name of a view is that of one of its parts
pub names_any : (name : FileName) (ps : List Part) → is_file_of ps name ≡ list_any (name_eq name) (view_names ps)
names_any name [] = refl
names_any name (part ∷ ps) = ap (λ b. list_any (name_eq name) (names_of part) || b) (names_any name ps) ∙ sym (list_any-append (name_eq name) (names_of part) (view_names ps))

module _ (kinds : List Class) (v : View) (sound : IsSound v) (asked : OpenAsked) (old new : Parts) (was : SessionState) (views : Book) (rows : Cursor) (are : AreCursors v.files old was) (known_all : KnowsAll kinds old was)
    (serves : (l : Layout) → Serves v (memory_of old) l → Serves v (memory_of new) (after_moves (freeze_where asked.rows.table l) l)) (ready : CanChange v (memory_of new)) (of : IsOfParts new) (on : CanGoOn v was.views old was.tasks.items)
    (numbers_are : new.numbers.«data» ≡ old.numbers.«data») (knows : Knows (memory_of new) old.schema.definitions old.max_timestamp) (manifest : new.manifest ≡ old.manifest) (pinned : KeepsPinned was.views old new) (empty : HasEmptyMemtable asked.rows.table new) (plan : PlanView)
    (is : IsPlanFor new asked.rows plan) (known : KnowsWhere kinds plan.conditions) (taken : Taken was.views views (components_of (aside_parts new asked.rows.table))) (few : length was.cursors < 64)
    (view_is : view_of rows ≡ aside_parts new asked.rows.table) (picked_is : rows.reader.picked ≡ plan.picked) (filter_is : rows.reader.rows.filter ≡ plan.conditions)
    (left : (w : PlanWorld) (book : MapBook) → IsReadIn w plan (aside_parts new asked.rows.table) book
    → RowsLeft source.leaves-value.it rows.reader.rows (Some w.folder) book (map row_of (answer plan.limit (where_of plan.conditions) (merged (maps_of w.parts)))))
    (readable : (files : Option Folder) (book : MapBook) → PendingReady plan.source (aside_parts new asked.rows.table) book
    → HasKeyType plan.types (views_numbered book (map_numbers (aside_parts new asked.rows.table))) plan.picked.key → IsReadable plan.types files book rows) where
  abbrev number : ℕ
  number = asked.rows.table

  abbrev parts : List Part
  parts = aside_parts new number

  abbrev c : OpenCursor
  c = record { table = number; rows = rows }

  abbrev now : SessionState
  now = record was { views = views; cursors = was.cursors ++ (asked.cursor, c) ∷ [] }

  listing_is : new.manifest.listing ≡ old.manifest.listing
  listing_is = λ i. (manifest i).listing

  own : (x : TableMaps) × (slice_get new.tables.items (number - 1) ≡ Some x)
  own = inside_there new.tables.items (number - 1) (omega (arith, is.some, is.within))

  last : current_parts new number ≡ parts ++ Map own.0.memtable ∷ []
  last = memtable_last new number own.0 own.1

  -- ---- the others

  keeps : KeepsViews v.files v.files was.views old new
  keeps = record {
    told = λ some. some;
    files = λ name held. refl;
    places = λ table f held place. subst (λ (k : Listing). IsListedOrGone k table f) (sym listing_is) place;
    numbers = omega (arith, numbers_are);
    types = λ at t there. (t, ap (λ (k : Listing). slice_get k.tables at) listing_is ∙ there, refl);
    maps = pinned;
  }

  -- ---- the cursor

  kept_own : IsKept v.files new c
  kept_own = record {
    some = is.some;
    row = listed is.row;
    there = is.there;
    readable = subst (λ (types : List ColumnType). IsReadable types v.files new.maps rows) is.types
        (readable v.files new.maps
        (ready_front new.maps own.0.memtable plan.source parts (subst (λ (ps : List Part). PendingReady plan.source ps new.maps) last (plan_ready v new of ready asked.rows plan is)))
        (keys_front new.maps own.0.memtable plan.types plan.picked.key parts
        (subst (λ (ps : List Part). HasKeyType plan.types (views_numbered new.maps (map_numbers ps)) plan.picked.key) last (plan_prints v new of ready asked.rows plan is))));
    parts = subst (AllByRecursion (IsKeptPart new number)) (sym view_is) (aside_kept new number own.0 own.1 v ready of);
    once = subst ListsOnce (sym view_is) (aside_once new number own.0 own.1 (view_once v new ready number of));
  }

  gives : (l : Layout) → Serves v (memory_of old) l → GivesRows v.files new.maps c (record { name = asked.cursor; rows = rows_asked (state_of l) asked.rows })
  gives l served =
      let after = serves l served in
      let told = told_files v after.told in
      let next = after_moves (freeze_where number l) l in
      let all = opened_rows v sound new of ready asked.rows plan is next after own.0 own.1 empty told.0 told.1 in (
        all,
        subst (λ (o : Option Folder). RowsLeft source.leaves-value.it rows.reader.rows o new.maps all) (sym told.1)
            (left (opened v sound new of ready asked.rows plan is next after own.0 own.1 empty told.0 told.1) new.maps (opened_read v sound new of ready asked.rows plan is next after own.0 own.1 empty told.0 told.1)),
        ap (λ (s : State). rows_asked s asked.rows) (sym (freeze_same number l)) ∙ sym (opened_have v sound new of ready asked.rows plan is next after own.0 own.1 empty told.0 told.1)
            ∙ ap (λ (k : Picked). map (row_picked k) all) (sym picked_is),
      )

  names_are : (l : Layout) → Serves v (memory_of old) l → table_names l number ≡ view_names (view_of rows)
  names_are l served =
      let seen = ap (λ (k : Listing). slice_get k.tables (number - 1)) (sym served.listing ∙ sym listing_is) ∙ is.there in
      let t = seen_as listed_of l.tables (number - 1) (listed is.row) seen in
      ap (λ (o : Option TableParts). option_map_or (λ (x : TableParts). flat_map manifests.names_of (map (λ (f : File). f.listed) x.files)) o []) t.1
      ∙ ap (λ (x : ListedDefinition). flat_map manifests.names_of x.files) t.2
      ∙ sym (ap (λ (o : Option ListedDefinition). flat_map manifests.names_of (option_map_or (λ (x : ListedDefinition). x.files) o [])) is.there)
      ∙ sym (names_listed (files_of new.manifest.listing.tables number) (frozen_numbers new.tables.items number)) ∙ ap view_names (sym view_is)

  -- its files are listed
  own_listed : (name : FileName) → list_any (name_eq name) (view_names parts) ≡ true → has_name new.manifest.listing.tables name ≡ true
  own_listed name is =
      has_name_by name new.manifest.listing.tables
      ∙ name_listed new.manifest.listing.tables (number - 1) name
      (sym (view_files (files_of new.manifest.listing.tables number) (frozen_numbers new.tables.items number) name) ∙ names_any name parts ∙ is)

  -- **The session has one cursor more, with the rows of its SELECT.**
  pub is_opened : IsOpened kinds v asked old new was now
  is_opened = record {
    serves = λ w served. record {
      serves = serves w.layout served.serves;
      trace_is = served.trace_is;
      cursors_are = opened_agrees (GivesRows v.files new.maps) was.cursors w.session (cursors_still v.files v.files old new was are keeps w.session served.cursors_are) asked.cursor (rows_asked (state_of w.layout) asked.rows) c (gives w.layout served.serves);
      tasks_are = tasks_run v w.layout (after_moves (freeze_where number w.layout) w.layout) (freeze_runs number w.layout) was.tasks.items w.tasks served.tasks_are;
      views_are = ap (λ (vs : List (List ℕ × List FileName)). vs ++ (asked.cursor, table_names w.layout number) ∷ []) served.views_are
          ∙ ap (λ (names : List FileName). views_told was.cursors ++ (asked.cursor, names) ∷ []) (names_are w.layout served.serves)
          ∙ sym (map-append (λ (e : List ℕ × OpenCursor). (e.0, view_names (view_of e.1.rows))) was.cursors ((asked.cursor, c) ∷ []));
    };
    ready = goes_on_opened v was.views views old new was.tasks.items parts on ready of manifest numbers_are taken own_listed;
    cursors = record {
      counted = subst (IsCounted views) (sym (map-append (λ (e : List ℕ × OpenCursor). view_of e.1.rows) was.cursors ((asked.cursor, c) ∷ [])))
          (subst (λ (ps : List Part). IsCounted views (views_out was.cursors ++ ps ∷ [])) (sym view_is) (take_counted was.views views (views_out was.cursors) parts taken are.counted));
      kept = all_push (λ (e : List ℕ × OpenCursor). IsKept v.files new e.1) was.cursors (asked.cursor, c) (cursors_kept v.files v.files old new was are keeps).kept kept_own;
      few = omega (arith, length-append was.cursors ((asked.cursor, c) ∷ []), few);
    };
    classes = record {
      tables = known_after kinds (memory_of new) old.schema.definitions old.max_timestamp knows known_all.tables;
      cursors = all_push (λ (e : List ℕ × OpenCursor). KnowsWhere kinds e.1.rows.reader.rows.filter) was.cursors (asked.cursor, c) known_all.cursors (subst (KnowsWhere kinds) (sym filter_is) known);
      tasks = known_all.tasks;
    };
    knows = knows;
    manifest = manifest;
    names = map-append (λ (e : List ℕ × OpenCursor). e.0) was.cursors ((asked.cursor, c) ∷ []);
  }
