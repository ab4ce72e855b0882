-- A step that goes on with the compaction of a table.
use Rattle.std.proofs.Common.{◌≡◌, ◌+◌, ◌≤◌, ◌++◌, ℕ, zero, suc, pos, negsuc, Bool, true, false, if◌then◌else◌, List, [], length, map, Option, None, Some, Ok, Err, refl, sym, ap, subst, ◌∙◌, inl, inr, arith, int_le, ◌&&◌}
use Rattle.std.specs.Prelude.{◌-◌, ◌^◌}
use Rattle.std.proofs.lemmas.List.{append-nil}
use Rattle.std.specs.FinMap.{get}
use Rattle.std.specs.List.{AllByRecursion}
use Rattle.std.specs.Option.{option_map_or}
use Rattle.sasi_folder.specs.Damages.{FolderShows}
use Rattle.sasi_host.proofs.ChangeLaws.{stays}
use Rattle.sasi_host.specs.Disk.{Changes, Same}
use Rattle.sasi_host.specs.Names.{Folder}
use Rattle.sasi_host.specs.View.{View}
use Rattle.sasi_layout.proofs.StatementLaws.{definitions_are}
use Rattle.sasi_layout.specs.Between.{Between}
use Rattle.sasi_layout.specs.Layout.{Layout, state_of}
use Rattle.sasi_layout.specs.Moves.{Move, after_moves}
use Rattle.sasi_layout.specs.Serving.{Serves, known_in_memory}
use Rattle.sasi_layout.specs.Spent.{spent}
use Rattle.sasi_layout.specs.Statements.{definitions_of, moves_of}
use Rattle.sasi_machine.proofs.SessionTurns.{compacted_leaves, plain_reply}
use Rattle.sasi_machine.specs.Outcome.{outcome_of}
use Rattle.sasi_machine.specs.Prepares.{CompactsTable, HasTable, IsStateOf, SaysOne, StepsTo, compact_asked, unit_steps}
use Rattle.sasi_machine.specs.declared.outcome.Outcome.TheVariants.{Done}
use Rattle.sasi_machine.specs.declared.prepared.CompactAsked.{CompactAsked}
use Rattle.sasi_machine.specs.declared.prepared.CompactSteps.{CompactSteps}
use Rattle.sasi_machine.specs.declared.prepared.CompactSteps.TheVariants.{Begin, Units, Whole}
use Rattle.sasi_memindex.proofs.GrowthLaws.{grown_not}
use Rattle.sasi_memindex.specs.Book as maps
use Rattle.sasi_memindex.specs.Growth.{IsGrown}
use Rattle.sasi_model.specs.Abbreviations.{definitions}
use Rattle.sasi_model.specs.Asked as ask
use Rattle.sasi_model.specs.Asked.{asks}
use Rattle.sasi_model.specs.Parsers.{grammar_parser}
use Rattle.sasi_model.specs.Pieces.{Piece}
use Rattle.sasi_model.specs.Refusals.{Refusal, Says, is_count, read}
use Rattle.sasi_model.specs.Sessions.{Turn, count_asked, refused_by}
use Rattle.sasi_model.specs.State.{Definition, State}
use Rattle.sasi_recheck.specs.Rows.{KnowsWhere}
use Rattle.sasi_schema.specs.Numbers.{number_of_table}
use Rattle.sasi_types.specs.declared.class.Class.{Class}
use Rattle.sasi_types.specs.declared.literal.Number.{Number}
use Rattle.sasi_types.specs.declared.literal.Number.TheVariants.{Fits, Wide}
use Rattle.sasi_types.specs.declared.statement.Statement.{Statement}
use Rattle.sasi_types.specs.declared.statement.Statement.TheVariants.{BeginCompact, Compact, StepCompact}
use Rattle.sasi_tables.specs.Pinned.{IsMemtable, KeepsPinned}
use Rattle.sasi_tables.specs.TablesView.{memory_of}
use Rattle.sasi_tables.specs.declared.fault.StepFault.{StepFault}
use Rattle.sasi_tables.specs.declared.parts.Parts.{Parts}
use Rattle.sasi_tables.specs.declared.table_maps.TableMaps.{TableMaps}
use Rattle.sasi_tasks.specs.MakesTaskMoves.{CanGoOn, HasSameMaps, KeepsHeld, MakesTaskMoves, ServesTasks}
use Rattle.sasi_tasks.specs.Running.{AreTasksOf}
use Rattle.sasi_views.specs.Books.{Book}
use Rattle.sasi_views.specs.Kept.{IsCounted}
use Rattle.sasi_store.specs.Answers.{DeletesOrBuilds, DoesUnits, ReadsFiles}
use Rattle.sasi_store.specs.Compactions.{AreSome, moves_asked, moves_for, tasks_asked, tasks_for}
use Rattle.sasi_store.specs.Cursors.{AreCursors, AreCursorsOf, IsKept, Opened, views_out, views_told}
use Rattle.sasi_store.specs.HeldDamage.{StepShows}
use Rattle.sasi_store.specs.Selects.{HasShortRows, select_reads}
use Rattle.sasi_store.specs.Steps.{StepPromises}
use Rattle.sasi_store.specs.Worlds.{PartsServe, World, of_named, session_moves, steps, tasks_after, told_in, unless_refused, views_after}
use Rattle.sasi_store.specs.declared.session_state.OpenCursor.{OpenCursor}
use Rattle.sasi_store.specs.declared.session_state.SessionState.{SessionState as StoreSession}
use Rattle.sasi_store.proofs.KeptCursors.{cursors_kept, cursors_still, keeps_changed}
use Rattle.sasi_store.proofs.KeptTypes.{types_left}
use Rattle.sasi_store.proofs.Known.{known_after, known_as}
use Rattle.sasi_store.proofs.NoFile.{steps_are, steps_in}
use Rattle.sasi_store.proofs.Stepping.{answered_as, by_damage, by_spent, moves_are, needed_asked, never_missing, state_is, turn_taken, turns_plainly, where_spent}

-- ---- the statement

abbrev table_in : Option (List ℕ × Option CompactSteps) → List ℕ
table_in asked = option_map_or (λ (a : List ℕ × Option CompactSteps). a.0) asked []

-- the units of a STEP COMPACT that no rule refuses
units_are : (units : Number) (taken : CompactSteps) → unit_steps units ≡ Some taken → Units (count_asked units) ≡ taken
units_are units taken is = by (is_count units) is
  where
    by : (b : Bool) → (if b then Some (Units (count_asked units)) else None) ≡ Some taken → Units (count_asked units) ≡ taken
    by true is = cc
    by false is = cc

-- are some
some_units : (units : Number) (taken : CompactSteps) → unit_steps units ≡ Some taken → AreSome taken
some_units units taken is = by units is
  where
    taken_so : (n : ℕ) (b : Bool) → 1 ≤ n → (if b then Some (Units n) else None) ≡ Some taken → AreSome taken
    taken_so n true some is = subst AreSome (sym (steps_are (Units n) taken is)) some
    taken_so n false some is = cc

    by : (u : Number) → unit_steps u ≡ Some taken → AreSome taken
    by Wide is = cc
    by (Fits (negsuc n)) is = cc
    by (Fits (pos zero)) is = cc
    by (Fits (pos (suc n))) is = taken_so (suc n) (int_le (pos 1) (pos (suc n)) && int_le (pos (suc n)) (pos (2 ^ 31 - 1))) (omega arith) is

-- **What is asked of a compaction is something.**
pub asks_some : (s : State) (piece : Piece) (asked : CompactAsked) → SaysOne piece (λ statement. CompactsTable s statement asked) → AreSome asked.steps
asks_some s piece asked (statement, says, well, is) = by statement is.table is.asked_is
  where
    by : (statement : Statement) (table : List ℕ) → compact_asked statement ≡ Some (table, Some asked.steps) → AreSome asked.steps
    by (Compact name) table is = subst AreSome (sym (steps_are Whole asked.steps (ap steps_in is))) tt
    by (BeginCompact name) table is = subst AreSome (sym (steps_are Begin asked.steps (ap steps_in is))) tt
    by (StepCompact name units) table is = some_units units asked.steps (ap steps_in is)
    by statement table is = cc

module _ (asked : CompactAsked) where
  -- one that does no units is BEGIN COMPACT
  begins : (statement : Statement) (table : List ℕ) → compact_asked statement ≡ Some (table, Some asked.steps) → (DoesUnits (Says statement) → ⊥) → asked.steps ≡ Begin
  begins (Compact name) table is none = absurd (none tt)
  begins (BeginCompact name) table is none = steps_are Begin asked.steps (ap steps_in is)
  begins (StepCompact name units) table is none = absurd (none tt)
  begins statement table is none = cc

  -- one of whose reads a bound is said does none
  idle : (seen : Option Folder) (l : Layout) (statement : Statement) → HasShortRows seen l (Says statement) → DoesUnits (Says statement) → ⊥
  idle seen l (Compact name) short units = short
  idle seen l (StepCompact name number) short units = short
  idle seen l statement short units = units

  deletes : (statement : Statement) → DoesUnits (Says statement) → DeletesOrBuilds (Says statement)
  deletes (Compact name) units = tt
  deletes (StepCompact name number) units = tt
  deletes statement units = absurd units

  module _ (w : World) (ds : List Definition) (are : ds ≡ definitions_of w.layout) where
    named_at : {A : Type 0} (table : List ℕ) → number_of_table table ds ≡ Some asked.table → (none : A) (f : ℕ → A) → of_named table w.layout none f ≡ f asked.table
    named_at table named none f = ap (λ (o : Option ℕ). option_map_or f o none) (ap (number_of_table table) (sym are) ∙ named)

    moves_said : (statement : Statement) (table : List ℕ) → compact_asked statement ≡ Some (table, Some asked.steps) → number_of_table table ds ≡ Some asked.table → session_moves w (Says statement) ≡ moves_asked asked w.layout w.tasks
    moves_said (Compact name) table is named =
        ap (λ (t : List ℕ). session_moves w (Says (Compact t))) (ap table_in is) ∙ named_at table named [] (λ n. moves_for n Whole w.layout w.tasks) ∙ ap (λ (st : CompactSteps). moves_for asked.table st w.layout w.tasks) (sym (steps_are Whole asked.steps (ap steps_in is)))
    moves_said (BeginCompact name) table is named =
        ap (λ (t : List ℕ). session_moves w (Says (BeginCompact t))) (ap table_in is) ∙ named_at table named [] (λ n. moves_for n Begin w.layout w.tasks) ∙ ap (λ (st : CompactSteps). moves_for asked.table st w.layout w.tasks) (sym (steps_are Begin asked.steps (ap steps_in is)))
    moves_said (StepCompact name units) table is named =
        ap (λ (t : List ℕ). session_moves w (Says (StepCompact t units))) (ap table_in is) ∙ named_at table named [] (λ n. moves_for n (Units (count_asked units)) w.layout w.tasks)
        ∙ ap (λ (st : CompactSteps). moves_for asked.table st w.layout w.tasks) (units_are units asked.steps (ap steps_in is))
    moves_said statement table is named = cc

    tasks_said : (statement : Statement) (table : List ℕ) → compact_asked statement ≡ Some (table, Some asked.steps) → number_of_table table ds ≡ Some asked.table → tasks_after w.layout (Says statement) w.tasks ≡ tasks_asked asked w.layout w.tasks
    tasks_said (Compact name) table is named =
        ap (λ (t : List ℕ). tasks_after w.layout (Says (Compact t)) w.tasks) (ap table_in is) ∙ named_at table named w.tasks (λ n. tasks_for n Whole w.layout w.tasks) ∙ ap (λ (st : CompactSteps). tasks_for asked.table st w.layout w.tasks) (sym (steps_are Whole asked.steps (ap steps_in is)))
    tasks_said (BeginCompact name) table is named =
        ap (λ (t : List ℕ). tasks_after w.layout (Says (BeginCompact t)) w.tasks) (ap table_in is) ∙ named_at table named w.tasks (λ n. tasks_for n Begin w.layout w.tasks) ∙ ap (λ (st : CompactSteps). tasks_for asked.table st w.layout w.tasks) (sym (steps_are Begin asked.steps (ap steps_in is)))
    tasks_said (StepCompact name units) table is named =
        ap (λ (t : List ℕ). tasks_after w.layout (Says (StepCompact t units)) w.tasks) (ap table_in is) ∙ named_at table named w.tasks (λ n. tasks_for n (Units (count_asked units)) w.layout w.tasks)
        ∙ ap (λ (st : CompactSteps). tasks_for asked.table st w.layout w.tasks) (units_are units asked.steps (ap steps_in is))
    tasks_said statement table is named = cc

    views_said : (statement : Statement) (table : List ℕ) → compact_asked statement ≡ Some (table, Some asked.steps) → views_after w.layout (Says statement) w.views ≡ w.views
    views_said (Compact name) table is = refl
    views_said (BeginCompact name) table is = refl
    views_said (StepCompact name units) table is = refl
    views_said statement table is = cc

-- ---- the maps

same_pinned : (views : Book) (old new : Parts) → HasSameMaps old new → KeepsPinned views old new
same_pinned views old new same = record {
  stay = λ n aside some. subst (λ (book : maps.Book). IsGrown (get old.maps n) (get book n)) (sym same.maps_are) (grown_not (get old.maps n));
  aside = λ n is. record {
    numbered = subst (λ (last : ℕ). n ≤ last) (sym same.last_is) is.numbered;
    apart = λ own. is.apart (subst (λ (ts : List TableMaps). IsMemtable ts n) (ap (λ t. t.items) same.tables_are) own);
  };
}

-- ---- the step

module _ (was now : StoreSession) (kinds : List Class) (a b : View) (old new : Parts) (piece : Piece) (reply : List ℕ) (asked : CompactAsked) (is : asks (known_in_memory (memory_of old)) piece ≡ ask.NoChange)
    (trace_stays : now.trace ≡ was.trace) (views_stay : now.views ≡ was.views) (cursors_stay : now.cursors ≡ was.cursors) (on : CanGoOn a was.views old was.tasks.items) (are : AreCursors a.files old was)
    (prepares : (s : State) → IsStateOf (known_in_memory (memory_of old)) s → StepsTo s piece s reply Done × SaysOne piece (λ statement. CompactsTable s statement asked) × HasTable s asked.table)
    (blank : State) (says : SaysOne piece (λ statement. CompactsTable blank statement asked)) (no_call : (P : View → Type 0) → asked.steps ≡ Begin → P a → P b) where
  -- in each world
  module _ (w : World) (serves : PartsServe a old was w) where
    abbrev s : State
    s = state_of w.layout

    here : IsStateOf (known_in_memory (memory_of old)) (state_of w.layout)
    here = state_is a (memory_of old) w.layout serves.serves

    abbrev said : SaysOne piece (λ statement. CompactsTable (state_of w.layout) statement asked)
    said = (prepares (state_of w.layout) here).1

    taken : refused_by grammar_parser w.session (state_of w.layout) piece ≡ None
    taken = turn_taken w.session (state_of w.layout) piece _ _ (compacted_leaves (state_of w.layout) piece asked said) (prepares (state_of w.layout) here).0.outcome_is

    are_defined : definitions (state_of w.layout).tables ≡ definitions_of w.layout
    are_defined = sym (definitions_are w.layout)

    moves_then : steps.moves w piece ≡ moves_asked asked w.layout w.tasks
    moves_then =
        ap (λ (o : Option Refusal). unless_refused o (session_moves w (read piece)) [] ++ moves_of w.layout piece) taken
        ∙ ap (λ (ms : List Move). session_moves w (read piece) ++ ms) (moves_are a (memory_of old) piece ask.NoChange is w.layout serves.serves)
        ∙ append-nil (session_moves w (read piece))
        ∙ ap (session_moves w) said.1
        ∙ moves_said asked w (definitions (state_of w.layout).tables) are_defined said.0 said.3.table said.3.asked_is said.3.named

    tasks_then : (steps.after w piece).tasks ≡ tasks_asked asked w.layout w.tasks
    tasks_then =
        ap (λ (o : Option Refusal). unless_refused o (tasks_after w.layout (read piece) w.tasks) w.tasks) taken
        ∙ ap (λ p. tasks_after w.layout p w.tasks) said.1
        ∙ tasks_said asked w (definitions (state_of w.layout).tables) are_defined said.0 said.3.table said.3.asked_is said.3.named

    views_then : (steps.after w piece).views ≡ w.views
    views_then =
        ap (λ (o : Option Refusal). unless_refused o (views_after w.layout (read piece) w.views) w.views) taken
        ∙ ap (λ p. views_after w.layout p w.views) said.1
        ∙ views_said asked w (definitions (state_of w.layout).tables) are_defined said.0 said.3.table said.3.asked_is

    with_tasks : ServesTasks a old was.tasks.items w.layout w.tasks
    with_tasks = record { serves = serves.serves; tasks_are = serves.tasks_are }

  -- ---- BEGIN COMPACT

  begins_where : (DoesUnits (read piece) → ⊥) → asked.steps ≡ Begin
  begins_where none = begins asked says.0 says.3.table says.3.asked_is (λ units. none (subst DoesUnits (sym says.1) units))

  only_reads : (DeletesOrBuilds (read piece) → ⊥) → Changes Same a b
  only_reads other = no_call (λ v. Changes Same a v) (begins_where (λ units. other (subst DeletesOrBuilds (sym says.1) (deletes asked says.0 (subst DoesUnits says.1 units))))) (stays a)

  unread : (ReadsFiles (read piece) → ⊥) → b.reads ≡ a.reads
  unread other = no_call (λ v. v.reads ≡ a.reads) (begins_where (λ units. other (inr (inr units)))) refl

  few_reads : (l : Layout) → HasShortRows a.files l (read piece) → b.reads ≤ a.reads + select_reads a.files l (read piece)
  few_reads l short =
      no_call (λ v. v.reads ≤ a.reads + select_reads a.files l (read piece)) (begins_where (λ units. idle asked a.files l says.0 (subst (HasShortRows a.files l) says.1 short) (subst DoesUnits says.1 units))) (omega arith)

  held_then : Changes (KeepsHeld was.views) a b → Changes (KeepsHeld now.views) a b
  held_then held = subst (λ (book : Book). Changes (KeepsHeld book) a b) (sym views_stay) held

  -- **It is answered as the model does.**
  pub step_compacted : (x : Unit {0}) → MakesTaskMoves (moves_asked asked) (tasks_asked asked) was.views a b old new was.tasks.items now.tasks.items (Ok x) → StepPromises kinds piece a b old new was now reply (Ok Done)
  step_compacted x makes =
      let keeps = keeps_changed a b was.views old new makes.held makes.listed_stay makes.numbers_stay (types_left a b old new on.can makes.ready.can old.max_timestamp makes.knows) (same_pinned was.views old new makes.maps) in
      let kept = cursors_kept a.files b.files old new was are keeps in
      record {
        answers = λ w serves.
            let to = (prepares (state_of w.layout) (here w serves)).0 in
            let leaves = compacted_leaves (state_of w.layout) piece asked (said w serves) in
            let turned = turns_plainly w.session (state_of w.layout) (state_of w.layout) piece reply Done (λ x. x) leaves to in
            let served = makes.serves w.layout w.tasks (with_tasks w serves) in
            record {
              serves = record {
                serves = subst (λ (ms : List Move). Serves b (memory_of new) (after_moves ms w.layout)) (sym (moves_then w serves)) served.serves;
                trace_is = trace_stays ∙ serves.trace_is ∙ ap (λ (t : Turn). t.session.trace) (sym turned.turn_is);
                cursors_are = subst (λ (t : Turn). AreCursorsOf b.files new.maps now.cursors t.session) (sym turned.turn_is)
                    (subst (λ (es : Opened). AreCursorsOf b.files new.maps es w.session) (sym cursors_stay) (cursors_still a.files b.files old new was are keeps w.session serves.cursors_are));
                views_are = views_then w serves ∙ serves.views_are ∙ ap views_told (sym cursors_stay);
                tasks_are = subst (λ (ms : List Move). AreTasksOf b (after_moves ms w.layout) now.tasks.items (steps.after w piece).tasks) (sym (moves_then w serves))
                    (subst (AreTasksOf b (after_moves (moves_asked asked w.layout w.tasks) w.layout) now.tasks.items) (sym (tasks_then w serves)) served.tasks_are);
              };
              reply_is = sym (plain_reply (state_of w.layout) piece (λ x. x) leaves w.session (told_in w (read piece)) ∙ to.reply_is);
              outcome_is = turned.outcome_is ∙ ap (λ (t : Turn). outcome_of t.refused) (sym turned.turn_is);
              unspent = ap (spent w.layout) (moves_then w serves) ∙ makes.unspent w.layout w.tasks (with_tasks w serves);
            };
        everywhere = λ x s named of.
            let to = prepares s of in
            answered_as new now x x s piece reply Done (turns_plainly x s s piece reply Done (λ y. y) (compacted_leaves s piece asked to.1) to.0)
            (ap (λ (es : Opened). map (λ (e : List ℕ × OpenCursor). e.0) es) cursors_stay ∙ named)
            (subst (IsStateOf (known_in_memory (memory_of new))) (sym to.0.state_is) (known_as (memory_of new) old.schema.definitions old.max_timestamp s makes.knows of));
        ready = subst (λ (book : Book). CanGoOn b book new now.tasks.items) (sym views_stay) makes.ready;
        cursors = record {
          counted = subst (λ (book : Book). IsCounted book (views_out now.cursors)) (sym views_stay) (subst (λ (es : Opened). IsCounted was.views (views_out es)) (sym cursors_stay) kept.counted);
          kept = subst (AllByRecursion (λ (e : List ℕ × OpenCursor). IsKept b.files new e.1)) (sym cursors_stay) kept.kept;
          few = subst (λ (es : Opened). length es ≤ 64) (sym cursors_stay) kept.few;
        };
        any_moment = λ w serves. subst (λ (ms : List Move). Changes (λ x y. Between w.layout ms y) a b) (sym (moves_then w serves)) (makes.any_moment w.layout w.tasks (with_tasks w serves));
        spent_is = tt;
        classes = λ known. record {
          tables = known_after kinds (memory_of new) old.schema.definitions old.max_timestamp makes.knows known.tables;
          cursors = subst (AllByRecursion (λ (e : List ℕ × OpenCursor). KnowsWhere kinds e.1.rows.reader.rows.filter)) (sym cursors_stay) known.cursors;
          tasks = makes.known kinds known.tables known.tasks;
        };
        needed = needed_asked kinds (asks (known_in_memory (memory_of old)) piece) ask.NoChange is tt;
        needed_first = tt;
        missing = tt;
        damaged = λ folder files. tt;
        undamaged = λ w serves. tt;
        reads_only = λ none other. only_reads other;
        unread = unread;
        reads = λ w serves short. few_reads w.layout short;
        changes = makes.changes;
        held_stay = held_then makes.held;
        causes = record { disk = makes.causes.disk; out = makes.causes.out; ok = makes.causes.ok; failed = tt; others = tt };
      }

  -- **Where it fails, it reports what the folder shows.**
  pub compact_failed : (e : StepFault) → MakesTaskMoves (moves_asked asked) (tasks_asked asked) was.views a b old new was.tasks.items now.tasks.items (Err e) → StepPromises kinds piece a b old new was now reply (Err e)
  compact_failed e makes = record {
    answers = tt;
    everywhere = tt;
    ready = tt;
    cursors = tt;
    any_moment = λ w serves. subst (λ (ms : List Move). Changes (λ x y. Between w.layout ms y) a b) (sym (moves_then w serves)) (makes.any_moment w.layout w.tasks (with_tasks w serves));
    spent_is = by_spent _ _ (λ kind spent_there w serves. ap (spent w.layout) (moves_then w serves) ∙ spent_there w.layout w.tasks (with_tasks w serves)) e makes.spent_is;
    classes = tt;
    needed = tt;
    needed_first = where_spent _ e (needed_asked kinds (asks (known_in_memory (memory_of old)) piece) ask.NoChange is tt);
    missing = never_missing _ e makes.present;
    damaged = λ folder files. by_damage (FolderShows folder) (StepShows was.views folder) (λ damage shown. inl shown) e (makes.damaged folder files);
    undamaged = λ w serves. makes.undamaged w.layout w.tasks (with_tasks w serves);
    reads_only = λ none other. only_reads other;
    unread = unread;
    reads = λ w serves short. few_reads w.layout short;
    changes = makes.changes;
    held_stay = held_then makes.held;
    causes = record { disk = makes.causes.disk; out = makes.causes.out; ok = tt; failed = makes.causes.failed; others = makes.causes.others };
  }
