-- What a store is after a BEGIN COMPACT: it serves the layout with one more data number drawn, and one task more.
use Rattle.std.proofs.Common.{◌≡◌, ◌&&◌, ◌||◌, not, ℕ, suc, ◌-◌, ◌<◌, ◌≤◌, ◌^◌, ◌++◌, true, false, List, [], ◌∷◌, length, map, slice_get, Option, None, Some, Ok, Err, refl, sym, ap, subst, ◌∙◌, arith}
use Rattle.std.specs.Prelude.{is_some, nat_eq}
use Rattle.std.proofs.lemmas.List.{append-nil}
use Rattle.std.specs.FinMap as map_
use Rattle.std.specs.List.{AllByRecursion, position}
use Rattle.std.specs.Option.{option_map_or}
use Rattle.sasi_types.specs.declared.class.Class.{Class}
use Rattle.sasi_cells.specs.Maps.{merged}
use Rattle.sasi_host.proofs.ChangeLaws.{stays}
use Rattle.sasi_host.proofs.ContentLaws.{told_files}
use Rattle.sasi_host.specs.Disk.{Changes, Same}
use Rattle.sasi_host.specs.View.{IsSound, View}
use Rattle.sasi_model.specs.Abbreviations.{types_of}
use Rattle.sasi_schema.specs.Defined.{definition}
use Rattle.sasi_manifest.specs.Edits.{files_of}
use Rattle.sasi_manifest.specs.FileNames.{has_name}
use Rattle.sasi_manifest.specs.ListedDefinition.{ListedDefinition}
use Rattle.sasi_manifest.specs.ListedTables.{listed}
use Rattle.sasi_manifest.specs.Listings.{by_number}
use Rattle.sasi_manifest.specs.declared.files.ListedFile.{ListedFile}
use Rattle.sasi_manifest.specs.declared.listing.Listing.{Listing}
use Rattle.sasi_tasks.proofs.LayoutContents.{all_left, merged_files}
use Rattle.sasi_compact.specs.Tasks.{IsCompacting, IsCompactingTo}
use Rattle.sasi_compact.specs.declared.output.Output.{Output}
use Rattle.sasi_compact.specs.declared.task.CompactTask.{CompactTask}
use Rattle.sasi_layout.proofs.CompactLaws.{Compacts, compacts}
use Rattle.sasi_tasks.proofs.Draws.{draw_moves, draw_ready, draw_serves}
use Rattle.sasi_layout.proofs.KeptLaws.{aside_higher}
use Rattle.sasi_layout.proofs.ListingLaws.{rising_bound}
use Rattle.sasi_layout.proofs.StillRunning.{begins_running}
use Rattle.sasi_tasks.proofs.TakesAll.{takes_all}
use Rattle.sasi_layout.specs.Between.{Between}
use Rattle.sasi_layout.specs.Classes.{KnowsClasses}
use Rattle.sasi_layout.specs.Compacting.{Compaction, begun, chosen}
use Rattle.sasi_layout.specs.Kept.{is_kept}
use Rattle.sasi_layout.specs.Layout.{File, Layout, TableParts, Used, listed_of, rising_numbers}
use Rattle.sasi_layout.specs.Moves.{Move, after_draw, after_moves}
use Rattle.sasi_layout.specs.NumbersInOrder.{HasFilesInOrder, Rising}
use Rattle.sasi_layout.specs.Serving.{kept_by}
use Rattle.sasi_layout.specs.declared.number_kind.NumberKind.{NumberKind}
use Rattle.sasi_layout.specs.declared.number_kind.NumberKind.TheVariants.{Data}
use Rattle.sasi_tables.proofs.IndexedTables.{known_defs}
use Rattle.sasi_tables.proofs.KnownClasses.{known_at}
use Rattle.sasi_tables.proofs.MoveCauses.{any_change}
use Rattle.sasi_tables.proofs.RisingIndexes.{are_known, rising_are}
use Rattle.sasi_tables.proofs.TablesInMemory.{all_at, all_push, inside_there, map_there, shaped_at}
use Rattle.sasi_tables.specs.Held.{KnowsDef}
use Rattle.sasi_tables.specs.Puts.{HasTableFor}
use Rattle.sasi_tables.specs.TablesView.{held_in, memory_of}
use Rattle.sasi_tables.specs.declared.fault.StepFault.TheVariants.{NumbersSpent}
use Rattle.sasi_tables.specs.declared.parts.Parts.{Parts}
use Rattle.sasi_views.specs.Books.{Book}
use Rattle.sasi_tasks.proofs.BegunMoves.{HasRow, has_few, has_files, moves_drawn, own, runs_already, spends_data, spends_none, task}
use Rattle.sasi_tasks.proofs.BegunTask.{all_apart, all_ready, compaction_is, defined, drawn, inside_listed, none_begun}
use Rattle.sasi_tasks.proofs.Drawing.{draw_tasks, tasks_behind}
use Rattle.sasi_tasks.proofs.NothingDone.{held_same, made_nowhere, nothing_done, nothing_spent}
use Rattle.sasi_tasks.proofs.TaskPositions.{is_in, none_passes}
use Rattle.sasi_tasks.specs.MakesTaskMoves.{CanGoOn, MakesTaskMoves, ServesTasks}
use Rattle.sasi_tasks.specs.Running.{IsOverAll, IsTaskOf, IsUnheld, compaction_of, is_held, numbers_of}
use Rattle.sasi_tasks.specs.Tasks.{Task, begin_moves, source_map, tasks_begun}
use Rattle.sasi_tasks.specs.declared.running.RunningTask.{RunningTask}

none_above : (n : ℕ) (fs : List File) → Rising n n (map (λ (f : File). f.listed) fs) → fs ≡ []
none_above n [] rise = refl
none_above n (f ∷ fs) rise = absurd (omega (arith, rise.0, rising_bound f.listed.number n (map (λ (f : File). f.listed) fs) rise.1))

-- one that takes in all files of a table merges them all
all_chosen : (used table : ℕ) (t : TableParts) → Rising 0 used (map (λ (f : File). f.listed) t.files) → chosen (begun used table t (rising_numbers t)).sources t.files ≡ t.files
all_chosen used table t rise =
    let c : Compacts 0 (suc used) (begun used table t (rising_numbers t)) t = compacts 0 (suc used) (begun used table t (rising_numbers t)) t (takes_all used table (map (λ (f : File). f.listed) t.files) (rising_numbers t) rise) in
    let whole : t.files ≡ c.front = c.is ∙ ap (λ (fs : List File). c.front ++ fs) (none_above (suc used) c.back c.rise) ∙ append-nil c.front in
    c.sources ∙ sym whole

module _ (v : View) (sound : IsSound v) (views : Book) (p : Parts) (was : List RunningTask) (can : CanGoOn v views p was) (table : ℕ) (some : 0 < table) (running : CompactTask) (over : IsOverAll p table (suc p.numbers.«data») running)
    (none : is_some (position (λ (r : RunningTask). nat_eq r.table table) was) ≡ false) (many : 2 ≤ length (files_of p.manifest.listing.tables table)) (fits : suc p.numbers.«data» < 2 ^ 32) where
  abbrev more : Parts
  more = drawn v views p was can table

  abbrev r : RunningTask
  r = record { table = table; task = running }

  two : 2 ≤ length over.row.files
  two = omega (arith, many, ap (λ (o : Option ListedDefinition). length (option_map_or (λ (t : ListedDefinition). t.files) o [])) over.there)

  others : AllByRecursion (λ (r : RunningTask). is_in table r ≡ false) was
  others = none_passes (is_in table) was (by (position (λ (r : RunningTask). nat_eq r.table table) was) none)
    where
      by : (o : Option ℕ) → is_some o ≡ false → o ≡ None
      by None is = refl
      by (Some at) is = cc

  module _ (l : Layout) (ks : List Task) (serves : ServesTasks v p was l ks) where
    abbrev row : HasRow l table (listed over.row)
    row = own v p was table l ks serves some (listed over.row) over.there

    abbrev t : TableParts
    t = row.t

    abbrev k : Task
    k = task v p was table l ks serves some (listed over.row) over.there

    files_are : map (λ (f : File). f.listed) t.files ≡ over.row.files
    files_are = ap (λ (x : ListedDefinition). x.files) row.listed_is

    rise : Rising 0 l.used.«data» (map (λ (f : File). f.listed) t.files)
    rise = (all_at (HasFilesInOrder l.used.«data» l.last) (table - 1) (map listed_of l.tables) (listed_of t) serves.serves.in_order.files (map_there listed_of l.tables (table - 1) t row.at)).rise

    is_it : k.compaction ≡ compaction_of r
    is_it =
        let number : l.used.«data» ≡ p.numbers.«data» = sym (ap (λ (u : Used). u.«data») serves.serves.used) in
        let files = files_are in
        let indexes : rising_numbers t ≡ numbers_of (by_number over.row.table.indexes) = sym (rising_are over.row t (ap (λ (x : ListedDefinition). x.numbers) row.listed_is) (ap (λ (x : ListedDefinition). x.definition) row.listed_is)) in
        let same : k.compaction ≡ record { table = table; output = suc p.numbers.«data»; sources = map (λ (f : ListedFile). f.number) over.row.files; indexes = numbers_of (by_number over.row.table.indexes) } =
        λ i. record { table = table; output = suc (number i); sources = map (λ (f : ListedFile). f.number) (files i); indexes = indexes i } in
        same ∙ sym (compaction_is v views p was can table some running over two)

    whole : map_.entries (merged_files t.files) ≡ map_.entries (source_map k.compaction (after_draw l))
    whole = sym (
        ap (λ (o : Option TableParts). map_.entries (option_map_or (λ (t : TableParts). merged (map (λ (f : File). f.holds) (chosen k.compaction.sources t.files))) o map_.empty)) row.there
        ∙ ap (λ (fs : List File). map_.entries (merged_files fs)) (all_chosen l.used.«data» table t rise))

    begins : IsCompacting v running [] (map_.entries (merged_files t.files))
    begins =
        let folder = told_files v serves.serves.told in
        let shape = serves.serves.shape folder.0 (sound.reads folder.0 folder.1) in
        let has = shaped_at folder.0 l.partitioner l.floor 1 (serves.serves.older ++ serves.serves.current ∷ []) l.tables (table - 1) t shape.tables row.at in
        subst (λ (o : Option Output). IsCompactingTo v running.compaction o [] (map_.entries (merged_files t.files))) (sym over.before)
        (all_left folder.0 l.partitioner t.definition t.numbers v running.compaction t.files has folder.1
        (over.partitioner_is ∙ ap (λ (e : Listing). e.partitioner) serves.serves.listing)
        (over.types_are ∙ ap (λ (x : ListedDefinition). types_of x.definition) (sym row.listed_is))
        (ap (λ (c : Compaction). c.sources) (compaction_is v views p was can table some running over two) ∙ ap (map (λ (f : ListedFile). f.number)) (sym files_are)))

    -- **It is the compaction that begins.**
    is_task : IsTaskOf v (after_draw l) r k
    is_task = record {
      is = is_it;
      runs = begins_running l table t (rising_numbers t) row.there serves.serves.in_order;
      passed = [];
      left = map_.entries (merged_files t.files);
      compacting = begins;
      passed_is = refl;
      whole = whole;
      begun = ap is_some over.before;
    }

    serves_then : ServesTasks v more (was ++ r ∷ []) (after_moves (begin_moves table l ks) l) (tasks_begun table l ks)
    serves_then =
        subst (λ (ms : List Move). ServesTasks v more (was ++ r ∷ []) (after_moves ms l) (tasks_begun table l ks)) (sym (moves_drawn v p was table l ks serves some (listed over.row) over.there none many))
        (subst (λ (xs : List Task). ServesTasks v more (was ++ r ∷ []) (after_draw l) (ks ++ xs)) (sym (has_files v p was table l ks serves some (listed over.row) over.there none many))
        (record {
          serves = draw_serves v (memory_of p) l serves.serves;
          tasks_are = tasks_behind v (after_draw l) was ks r k (draw_tasks v l was ks serves.tasks_are) is_task;
        }))

    between : Changes (λ x y. Between l (begin_moves table l ks) y) v v
    between =
        subst (λ (ms : List Move). Changes (λ x y. Between l ms y) v v) (sym (moves_drawn v p was table l ks serves some (listed over.row) over.there none many))
        (draw_moves l v (serves.serves.older ++ serves.serves.current ∷ []) sound serves.serves.shape)

  goes_on : CanGoOn v views more (was ++ r ∷ [])
  goes_on = record {
    can = draw_ready v (memory_of p) fits can.can;
    parts = record { tables = can.parts.tables; mapped = can.parts.mapped; regular = can.parts.regular };
    ready = record { each = all_ready v views p was can table some running over two; apart = all_apart v views p was can table some running over two others };
    held_are = aside_higher p.numbers.«data» (suc p.numbers.«data») (is_held views) (omega arith) can.held_are;
    unheld = all_push (λ (r : RunningTask). IsUnheld views r.task.compaction.number) was r can.unheld (λ name is held. (let low : name.number ≤ p.numbers.«data» = can.held_are.number name held in let own : name.number ≡ running.compaction.number = is in absurd (omega (arith, low, own, over.number_is))));
    exactly = λ folder files name.
        can.exactly folder files name
        ∙ ap (λ b. (not (has_name p.manifest.listing.tables name) && (is_held views name || b)) || is_kept (kept_by (memory_of p)) name) (sym (none_begun v views p was can table some running over two name));
  }

  one_known : (kinds : List Class) → KnowsClasses kinds (memory_of p) → AllByRecursion (KnowsDef kinds) running.compaction.indexes
  one_known kinds known =
      subst (AllByRecursion (KnowsDef kinds)) (sym over.indexes_are)
      (are_known over.row kinds (known_defs kinds over.row (known_at kinds p.schema.definitions (table - 1) (definition over.row.table) known (defined v views p was can table some running over two))))

  -- **A BEGIN COMPACT is made.**
  pub begin_made : MakesTaskMoves (begin_moves table) (tasks_begun table) views v v p more was (was ++ r ∷ []) (Ok tt)
  begin_made = record {
    any_moment = between;
    serves = serves_then;
    ready = goes_on;
    knows = record { definitions_are = refl; timestamp_is = refl };
    maps = record { maps_are = refl; tables_are = refl; last_is = refl; schema_is = refl };
    numbers_stay = omega arith;
    listed_stay = λ table f held place. place;
    unspent = λ l ks serves. spends_none v p was table l ks serves some (listed over.row) over.there none many fits;
    spent_is = tt;
    damaged = λ folder told. tt;
    undamaged = λ l ks serves. tt;
    present = tt;
    held = held_same v views;
    changes = any_change Same v v (stays v);
    known = λ kinds tables known. all_push (λ (r : RunningTask). AllByRecursion (KnowsDef kinds) r.task.compaction.indexes) was r known (one_known kinds tables);
    causes = made_nowhere v;
  }

-- ---- where none is begun

module _ (v : View) (sound : IsSound v) (views : Book) (p : Parts) (was : List RunningTask) (can : CanGoOn v views p was) (table : ℕ) where
  abbrev at : Option ℕ
  at = position (λ (r : RunningTask). nat_eq r.table table) was

  -- one runs there
  pub begin_again : is_some at ≡ true → MakesTaskMoves (begin_moves table) (tasks_begun table) views v v p p was was (Ok tt)
  begin_again is = nothing_done (begin_moves table) (tasks_begun table) views v sound p was can (λ l ks serves. runs_already v p was table l ks serves is)

  -- the table of the number is listed
  listed_there : HasTableFor table (held_in p) → (row : ListedDefinition) × (slice_get p.manifest.listing.tables (table - 1) ≡ Some row)
  listed_there there = inside_there p.manifest.listing.tables (table - 1) (omega (arith, there.some, inside_listed v views p was can table there))

  -- it has fewer than two files
  pub begin_few : HasTableFor table (held_in p) → is_some at ≡ false → length (files_of p.manifest.listing.tables table) < 2 → MakesTaskMoves (begin_moves table) (tasks_begun table) views v v p p was was (Ok tt)
  begin_few there none few = (let row = listed_there there in nothing_done (begin_moves table) (tasks_begun table) views v sound p was can (λ l ks serves. has_few v p was table l ks serves there.some row.0 row.1 none few))

  -- no data number is left
  pub begin_spent : HasTableFor table (held_in p) → is_some at ≡ false → 2 ≤ length (files_of p.manifest.listing.tables table) → (kind : NumberKind) → (kind ≡ Data) × (p.numbers.«data» ≡ 2 ^ 32 - 1)
      → MakesTaskMoves (begin_moves table) (tasks_begun table) views v v p p was was (Err (NumbersSpent kind))
  begin_spent there none many kind is = (let row = listed_there there in nothing_spent (begin_moves table) (tasks_begun table) views v sound p was p was kind
      (λ l ks serves. spends_data v p was table l ks serves there.some row.0 row.1 none many is.1 ∙ ap Some (sym is.0)))
