-- A step that answers a SELECT.
use Rattle.std.proofs.Common.{◌≡◌, ◌+◌, ◌≤◌, ◌++◌, Bool, cond, ℕ, List, [], length, map, Option, Ok, sym, ap, subst, ◌∙◌, inl}
use Rattle.std.specs.List.{AllByRecursion}
use Rattle.std.specs.Option.{option_map_or}
use Rattle.sasi_host.specs.Disk.{Changes, Same}
use Rattle.sasi_host.specs.Names.{Folder}
use Rattle.sasi_host.specs.View.{IsSound, View}
use Rattle.sasi_layout.proofs.StatementLaws.{definitions_are}
use Rattle.sasi_layout.specs.Layout.{Layout, state_of}
use Rattle.sasi_layout.specs.Moves.{Move, after_moves}
use Rattle.sasi_layout.specs.Serving.{Serves, known_in_memory}
use Rattle.sasi_layout.specs.Spent.{spent}
use Rattle.sasi_layout.specs.Statements.{definitions_of}
use Rattle.sasi_machine.specs.Outcome.{outcome_of}
use Rattle.sasi_machine.proofs.SessionTurns.{TurnsSession, selected_turns, tail_checked}
use Rattle.sasi_machine.specs.Prepares.{IsQuery, IsStateOf, SaysOne, SelectsRows, StepsTo, answer_rows}
use Rattle.sasi_machine.specs.declared.prepared.Selection.{Selection}
use Rattle.sasi_machine.specs.declared.outcome.Outcome.TheVariants.{Done}
use Rattle.sasi_types.specs.declared.class.Class.{Class}
use Rattle.sasi_types.specs.declared.statement.Select.{Select}
use Rattle.sasi_types.specs.declared.statement.Statement.{Statement}
use Rattle.sasi_types.specs.declared.statement.Statement.TheVariants.{Query}
use Rattle.sasi_model.specs.Abbreviations.{definitions}
use Rattle.sasi_model.specs.Asked as ask
use Rattle.sasi_model.specs.Asked.{asks}
use Rattle.sasi_model.specs.Pieces.{Piece}
use Rattle.sasi_model.specs.Refusals.{Says, read}
use Rattle.sasi_model.specs.Sessions.{CheckedTail, NoTail, Turn, tail_bytes}
use Rattle.sasi_model.specs.State.{State}
use Rattle.sasi_model.specs.Step.{step}
use Rattle.sasi_tables.specs.Faults.{StepCauses}
use Rattle.sasi_schema.specs.Numbers.{number_of_table}
use Rattle.sasi_store.specs.Selects.{HasShortFiles, HasShortRows, HasShortTable, select_reads, selection_reads}
use Rattle.sasi_store.specs.Steps.{StepPromises}
use Rattle.sasi_tables.specs.TablesView.{memory_of}
use Rattle.sasi_store.specs.Worlds.{PartsServe, World, piece_checks, rows_tail, selection_checks, steps, told_in}
use Rattle.sasi_tables.specs.declared.parts.Parts.{Parts}
use Rattle.sasi_store.specs.declared.session_state.SessionState.{SessionState as StoreSession}
use Rattle.sasi_recheck.specs.Rows.{KnowsWhere}
use Rattle.sasi_views.specs.Kept.{IsCounted}
use Rattle.sasi_store.specs.Cursors.{AreCursors, AreCursorsOf, HasNamesOf, IsKept, Opened, views_out, views_told}
use Rattle.sasi_store.specs.declared.session_state.OpenCursor.{OpenCursor}
use Rattle.sasi_store.proofs.KeptCursors.{cursors_kept, cursors_still, keeps_same}
use Rattle.sasi_store.proofs.PlainPieces.{plain_moves, plain_tasks, plain_views, query_plain}
use Rattle.sasi_store.proofs.SameFiles.{goes_on_same, same_held, serves_same, tasks_same}
use Rattle.sasi_store.proofs.KeptTasks.{goes_on_views, held_recounted}
use Rattle.sasi_tasks.specs.MakesTaskMoves.{CanGoOn}
use Rattle.sasi_tasks.specs.Running.{AreTasksOf, KnowsTasks}
use Rattle.sasi_tasks.specs.declared.running.RunningTask.{RunningTask}
use Rattle.sasi_tables.proofs.MoveCauses.{any_change}
use Rattle.sasi_store.proofs.Stepping.{moments_same, moves_are, needed_asked, state_is, turn_taken}

-- those of a SELECT are none
select_moves : (a : View) (old : Parts) (piece : Piece) → asks (known_in_memory (memory_of old)) piece ≡ ask.NoChange → IsQuery (read piece) → (w : World) → Serves a (memory_of old) w.layout → steps.moves w piece ≡ []
select_moves a old piece is query w serves = plain_moves w piece (query_plain (read piece) query) ∙ moves_are a (memory_of old) piece ask.NoChange is w.layout serves

-- what it may read, by the number of the table that it names
select_costs : (seen : Option Folder) (l : Layout) (s : State) (piece : Piece) (rows : Selection) → definitions s.tables ≡ definitions_of l → SaysOne piece (λ statement. SelectsRows s statement rows) → select_reads seen l (read piece) ≡ selection_reads seen l rows
select_costs seen l s piece rows are (statement, says, in_order, selects) = ap (select_reads seen l) says ∙ by statement selects
  where
    by : (statement : Statement) → SelectsRows s statement rows → select_reads seen l (Says statement) ≡ selection_reads seen l rows
    by (Query select) selects =
        ap (λ (o : Option ℕ). option_map_or (λ number. selection_reads seen l (record { table = number; select = select })) o 0)
        (ap (number_of_table select.table) (sym are) ∙ ap (λ (q : Select). number_of_table q.table (definitions s.tables)) (sym selects.select_is) ∙ selects.has.named)
        ∙ ap (λ (q : Select). selection_reads seen l (record { table = rows.table; select = q })) (sym selects.select_is)
    by statement selects = absurd selects

-- so what its bound supposes is what that of the table does
select_short : (seen : Option Folder) (l : Layout) (s : State) (piece : Piece) (rows : Selection) → definitions s.tables ≡ definitions_of l → SaysOne piece (λ statement. SelectsRows s statement rows) → HasShortRows seen l (read piece) → HasShortFiles seen l rows
select_short seen l s piece rows are (statement, says, in_order, selects) short = by statement selects (subst (HasShortRows seen l) says short)
  where
    by : (statement : Statement) → SelectsRows s statement rows → HasShortRows seen l (Says statement) → HasShortFiles seen l rows
    by (Query select) selects short =
        subst (λ (q : Select). HasShortFiles seen l (record { table = rows.table; select = q })) (sym selects.select_is)
        (subst (HasShortTable seen l select) (ap (number_of_table select.table) (sym are) ∙ ap (λ (q : Select). number_of_table q.table (definitions s.tables)) (sym selects.select_is) ∙ selects.has.named) short)
    by statement selects short = absurd selects

pub select_within : {was : StoreSession} (a b : View) (p : Parts) (s : State) (piece : Piece) (rows : Selection) → definitions s.tables ≡ p.schema.definitions → SaysOne piece (λ statement. SelectsRows s statement rows)
    → ((l : Layout) → Serves a (memory_of p) l → HasShortFiles a.files l rows → b.reads ≤ a.reads + selection_reads a.files l rows)
    → (w : World) → PartsServe a p was w → HasShortRows a.files w.layout (read piece) → b.reads ≤ a.reads + select_reads a.files w.layout (read piece)
select_within a b p s piece rows are says costs w serves short =
    subst (λ (n : ℕ). b.reads ≤ a.reads + n) (sym (select_costs a.files w.layout s piece rows (are ∙ serves.serves.definitions) says)) (costs w.layout serves.serves (select_short a.files w.layout s piece rows (are ∙ serves.serves.definitions) says short))

-- and how many candidates it checks
select_checks : (l : Layout) (s : State) (piece : Piece) (rows : Selection) → definitions s.tables ≡ definitions_of l → SaysOne piece (λ statement. SelectsRows s statement rows) → piece_checks l (read piece) ≡ selection_checks l rows
select_checks l s piece rows are (statement, says, in_order, selects) = ap (piece_checks l) says ∙ by statement selects
  where
    by : (statement : Statement) → SelectsRows s statement rows → piece_checks l (Says statement) ≡ selection_checks l rows
    by (Query select) selects =
        ap (λ (o : Option ℕ). option_map_or (λ number. selection_checks l (record { table = number; select = select })) o 0)
        (ap (number_of_table select.table) (sym are) ∙ ap (λ (q : Select). number_of_table q.table (definitions s.tables)) (sym selects.select_is) ∙ selects.has.named)
        ∙ ap (λ (q : Select). selection_checks l (record { table = rows.table; select = q })) (sym selects.select_is)
    by statement selects = absurd selects

-- **Its reply is that of the world's step, and it leaves the session.**
pub select_turns : (w : World) (piece : Piece) (rows : Selection) (was : Bool) (reply : List ℕ) → StepsTo (state_of w.layout) piece (state_of w.layout) (answer_rows (state_of w.layout) rows) Done
    → SaysOne piece (λ statement. SelectsRows (state_of w.layout) statement rows) → was ≡ w.session.trace → reply ≡ answer_rows (state_of w.layout) rows ++ rows_tail was (selection_checks w.layout rows)
    → (was ≡ (steps.after w piece).session.trace) × (steps.reply w piece ≡ reply)
select_turns w piece rows was reply to says on reply_is =
    let s = state_of w.layout in
    let turned = selected_turns s piece rows says in (
      on ∙ ap (λ (t : Turn). t.session.trace) (sym (turned.turn_is w.session)),
      ap (λ (t : Turn). t.reply ++ tail_bytes t.tail (told_in w (read piece))) (turned.turn_is w.session)
          ∙ ap (λ (end : List ℕ). (step s piece).reply ++ end) (tail_checked w.session.trace (told_in w (read piece)))
          ∙ ap (λ (b : Bool). (step s piece).reply ++ rows_tail b (piece_checks w.layout (read piece))) (sym on)
          ∙ ap (λ (n : ℕ). (step s piece).reply ++ rows_tail was n) (select_checks w.layout s piece rows (sym (definitions_are w.layout)) says)
          ∙ ap (λ (front : List ℕ). front ++ rows_tail was (selection_checks w.layout rows)) to.reply_is
          ∙ sym reply_is,
    )

module _ {was : StoreSession} (kinds : List Class) (a b : View) (sound : IsSound a) (old : Parts) (piece : Piece) (change : Changes Same a b) (is : asks (known_in_memory (memory_of old)) piece ≡ ask.NoChange) (query : IsQuery (read piece)) where
  pub select_answered : {T : Type 0} {now : StoreSession} (x : T) (reply : List ℕ) → now.trace ≡ was.trace → now.cursors ≡ was.cursors → now.tasks.items ≡ was.tasks.items → AreCursors a.files old was → IsCounted now.views (views_out was.cursors) → CanGoOn a was.views old was.tasks.items → ((w : World) → PartsServe a old was w → (was.trace ≡ (steps.after w piece).session.trace) × (steps.reply w piece ≡ reply))
      → ((s : State) → IsStateOf (known_in_memory (memory_of old)) s → ((step s piece).state ≡ s) × (Done ≡ outcome_of (step s piece).refused) × TurnsSession s piece (λ x. x) (λ x. cond x.trace CheckedTail NoTail))
      → ((w : World) → PartsServe a old was w → HasShortRows a.files w.layout (read piece) → b.reads ≤ a.reads + select_reads a.files w.layout (read piece))
      → StepCauses {T = T} a b (Ok x) → StepPromises kinds piece a b old old was now reply (Ok Done)
  select_answered {now = now} x reply left cursors_stay tasks_stay are counted ready replied steps_to costs causes =
      let keeps = keeps_same a b was.views old change in
      let kept = cursors_kept a.files b.files old old was are keeps in
      record {
        answers = λ w serves.
            let to = steps_to (state_of w.layout) (state_is a (memory_of old) w.layout serves.serves) in
            record {
              serves = record {
                serves = subst (λ (ms : List Move). Serves b (memory_of old) (after_moves ms w.layout)) (sym (select_moves a old piece is query w serves.serves)) (serves_same a b change (memory_of old) w.layout serves.serves);
                trace_is = left ∙ (replied w serves).0;
                cursors_are = subst (λ (t : Turn). AreCursorsOf b.files old.maps now.cursors t.session) (sym (to.2.turn_is w.session))
                    (subst (λ (es : Opened). AreCursorsOf b.files old.maps es w.session) (sym cursors_stay) (cursors_still a.files b.files old old was are keeps w.session serves.cursors_are));
                views_are = plain_views w piece (query_plain (read piece) query) ∙ serves.views_are ∙ ap views_told (sym cursors_stay);
                tasks_are = subst (λ (ms : List Move). AreTasksOf b (after_moves ms w.layout) now.tasks.items (steps.after w piece).tasks) (sym (select_moves a old piece is query w serves.serves))
                    (subst (λ (tasks : List RunningTask). AreTasksOf b w.layout tasks (steps.after w piece).tasks) (sym tasks_stay)
                    (subst (AreTasksOf b w.layout was.tasks.items) (sym (plain_tasks w piece (query_plain (read piece) query))) (tasks_same a b change old w.layout was.tasks.items w.tasks ready.ready.each serves.tasks_are)));
              };
              reply_is = sym (replied w serves).1;
              outcome_is = to.1 ∙ ap (λ (t : Turn). outcome_of t.refused) (sym (to.2.turn_is w.session));
              unspent = ap (spent w.layout) (select_moves a old piece is query w serves.serves);
            };
        everywhere = λ x s named of.
            let to = steps_to s of in
            record {
              state_is = subst (IsStateOf (known_in_memory (memory_of old))) (sym to.0) of;
              cursors_are = subst (λ (t : Turn). HasNamesOf now.cursors t.session) (sym (to.2.turn_is x)) (ap (λ (es : Opened). map (λ (e : List ℕ × OpenCursor). e.0) es) cursors_stay ∙ named);
              outcome_is = to.1 ∙ ap (λ (t : Turn). outcome_of t.refused) (sym (to.2.turn_is x));
              reply_is = λ other. absurd (other (inl query, turn_taken x s piece _ _ to.2 to.1));
            };
        ready = subst (λ (tasks : List RunningTask). CanGoOn b now.views old tasks) (sym tasks_stay)
            (goes_on_views b old was.tasks.items was.views now.views (held_recounted was.views now.views (views_out was.cursors) are.counted counted) (goes_on_same a b change old was.views was.tasks.items ready));
        cursors = record {
          counted = subst (λ (es : Opened). IsCounted now.views (views_out es)) (sym cursors_stay) counted;
          kept = subst (AllByRecursion (λ (e : List ℕ × OpenCursor). IsKept b.files old e.1)) (sym cursors_stay) kept.kept;
          few = subst (λ (es : Opened). length es ≤ 64) (sym cursors_stay) kept.few;
        };
        any_moment = moments_same a b sound old piece change;
        spent_is = tt;
        classes = λ known. record {
          tables = known.tables;
          cursors = subst (AllByRecursion (λ (e : List ℕ × OpenCursor). KnowsWhere kinds e.1.rows.reader.rows.filter)) (sym cursors_stay) known.cursors;
          tasks = subst (KnowsTasks kinds) (sym tasks_stay) known.tasks;
        };
        needed = needed_asked kinds (asks (known_in_memory (memory_of old)) piece) ask.NoChange is tt;
        needed_first = tt;
        missing = tt;
        damaged = λ folder files. tt;
        undamaged = λ w serves. tt;
        reads_only = λ none other. change;
        unread = λ other. absurd (other (inl query));
        reads = costs;
        changes = any_change Same a b change;
        held_stay = same_held a b change now.views;
        causes = record { disk = causes.disk; out = causes.out; ok = causes.ok; failed = tt; others = tt };
      }
