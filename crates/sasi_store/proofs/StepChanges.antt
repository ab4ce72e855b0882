-- A step that makes moves of the layout: a new table, a new index, a write or a flush.
use Rattle.std.proofs.Common.{◌≡◌, ℕ, List, Ok, Err, sym, ap, subst, ◌∙◌, arith}
use Rattle.sasi_host.specs.Disk.{Changes}
use Rattle.sasi_host.specs.View.{View}
use Rattle.sasi_layout.specs.Between.{Between}
use Rattle.sasi_layout.specs.Classes.{HasNeeded, KnowsClasses}
use Rattle.sasi_layout.specs.Layout.{state_of}
use Rattle.sasi_layout.specs.Moves.{Move, after_moves}
use Rattle.sasi_layout.specs.Serving.{Serves, known_in_memory}
use Rattle.sasi_layout.specs.Spent.{spent}
use Rattle.sasi_layout.specs.Statements.{moves_asked}
use Rattle.sasi_machine.specs.Outcome.{outcome_of}
use Rattle.sasi_machine.proofs.SessionTurns.{LeavesSession, plain_reply}
use Rattle.sasi_machine.specs.Prepares.{IsStateOf, StepsTo}
use Rattle.sasi_machine.specs.declared.outcome.Outcome.TheVariants.{Done}
use Rattle.sasi_types.specs.declared.class.Class.{Class}
use Rattle.sasi_model.specs.Asked as ask
use Rattle.sasi_model.specs.Asked.{Asked, asks, class_needed}
use Rattle.sasi_model.specs.Pieces.{Piece}
use Rattle.sasi_model.specs.Refusals.{read}
use Rattle.sasi_model.specs.Sessions.{Turn}
use Rattle.sasi_model.specs.State.{State}
use Rattle.sasi_tables.specs.MakesMoves.{MakesMoves}
use Rattle.sasi_store.specs.HeldDamage.{StepShows}
use Rattle.sasi_store.specs.Steps.{StepPromises}
use Rattle.sasi_tables.specs.TablesView.{IsOfParts, memory_of}
use Rattle.sasi_store.specs.Worlds.{World, steps, told_in}
use Rattle.sasi_tables.specs.declared.fault.StepFault.{StepFault}
use Rattle.sasi_tables.specs.declared.parts.Parts.{Parts}
use Rattle.sasi_store.specs.declared.session_state.SessionState.{SessionState as StoreSession}
use Rattle.sasi_tables.specs.Pinned.{KeepsPinned}
use Rattle.sasi_store.specs.Cursors.{AreCursors, AreCursorsOf}
use Rattle.sasi_store.proofs.KeptCursors.{KeepsTypes, cursors_kept, cursors_still, keeps_changed}
use Rattle.sasi_store.proofs.KeptSources.{asked_others, runs_still}
use Rattle.sasi_store.proofs.KeptTasks.{goes_on_made, places_kept, tasks_still, used_held}
use Rattle.sasi_store.proofs.PlainPieces.{changing_plain, plain_moves, plain_tasks, plain_views}
use Rattle.sasi_tasks.specs.MakesTaskMoves.{CanGoOn}
use Rattle.sasi_tasks.specs.Running.{AreTasksOf}
use Rattle.sasi_store.proofs.Stepping.{by_damage, by_spent, answered_as, moves_are, needed_asked, never_missing, state_is, turns_plainly, where_spent}

-- the moves of a world are those that are asked for
steps_moves : (a : View) (old : Parts) (piece : Piece) (asked : Asked) → asks (known_in_memory (memory_of old)) piece ≡ asked → (asked ≡ ask.NoChange → ⊥) → (w : World) → Serves a (memory_of old) w.layout → steps.moves w piece ≡ moves_asked w.layout asked
steps_moves a old piece asked is changing w serves =
    plain_moves w piece (changing_plain (known_in_memory (memory_of old)) piece (λ none. changing (sym is ∙ none))) ∙ moves_are a (memory_of old) piece asked is w.layout serves

module _ {T : Type 0} (kinds : List Class) (a b : View) (old new : Parts) {was : StoreSession} (piece : Piece) (reply : List ℕ) (asked : Asked) (is : asks (known_in_memory (memory_of old)) piece ≡ asked) (changing : asked ≡ ask.NoChange → ⊥) (on : CanGoOn a was.views old was.tasks.items) where
  -- its moves were made; `after` is the state after the piece
  pub step_made : (x : T) (after : State → State) → MakesMoves {T = T} (λ l. moves_asked l asked) a b (memory_of old) (memory_of new) (Ok x)
      → IsOfParts new → AreCursors a.files old was → KeepsTypes old.manifest.listing new.manifest.listing → KeepsPinned was.views old new
      → ((s : State) → IsStateOf (known_in_memory (memory_of old)) s → StepsTo s piece (after s) reply Done)
      → ((s : State) → IsStateOf (known_in_memory (memory_of old)) s → IsStateOf (known_in_memory (memory_of new)) (after s))
      → ((s : State) → IsStateOf (known_in_memory (memory_of old)) s → LeavesSession s piece)
      → (KnowsClasses kinds (memory_of old) → KnowsClasses kinds (memory_of new)) → HasNeeded kinds (class_needed asked) → StepPromises kinds piece a b old new was was reply (Ok Done)
  step_made x after makes parts are types pinned steps_to known leaves classes has =
      let held = used_held a b old.numbers.«data» was.views on.held_are makes.files_stay in
      let keeps = keeps_changed a b was.views old new held (places_kept a b old new makes.numbers_stay makes.listed_stay makes.files_stay was.views on.held_are) makes.numbers_stay types pinned in
      record {
        answers = λ w serves.
            let plain = changing_plain (known_in_memory (memory_of old)) piece (λ none. changing (sym is ∙ none)) in
            let of = state_is a (memory_of old) w.layout serves.serves in
            let to = steps_to (state_of w.layout) of in
            let turned = turns_plainly w.session (state_of w.layout) (after (state_of w.layout)) piece reply Done (λ x. x) (leaves (state_of w.layout) of) to in
            record {
              serves = record {
                serves = subst (λ (ms : List Move). Serves b (memory_of new) (after_moves ms w.layout)) (sym (steps_moves a old piece asked is changing w serves.serves)) (makes.serves w.layout serves.serves);
                trace_is = serves.trace_is ∙ ap (λ (t : Turn). t.session.trace) (sym turned.turn_is);
                cursors_are = subst (λ (t : Turn). AreCursorsOf b.files new.maps was.cursors t.session) (sym turned.turn_is) (cursors_still a.files b.files old new was are keeps w.session serves.cursors_are);
                views_are = plain_views w piece plain ∙ serves.views_are;
                tasks_are = subst (λ (ms : List Move). AreTasksOf b (after_moves ms w.layout) was.tasks.items (steps.after w piece).tasks) (sym (steps_moves a old piece asked is changing w serves.serves))
                    (subst (AreTasksOf b (after_moves (moves_asked w.layout asked) w.layout) was.tasks.items) (sym (plain_tasks w piece plain))
                    (tasks_still a b old new makes.numbers_stay makes.listed_stay makes.files_stay w.layout (after_moves (moves_asked w.layout asked) w.layout)
                    (λ c runs. runs_still (moves_asked w.layout asked) c w.layout (asked_others c w.layout asked) runs) was.tasks.items w.tasks on.ready.each serves.tasks_are));
              };
              reply_is = sym (plain_reply (state_of w.layout) piece (λ x. x) (leaves (state_of w.layout) of) w.session (told_in w (read piece)) ∙ to.reply_is);
              outcome_is = turned.outcome_is ∙ ap (λ (t : Turn). outcome_of t.refused) (sym turned.turn_is);
              unspent = ap (spent w.layout) (steps_moves a old piece asked is changing w serves.serves) ∙ makes.unspent w.layout serves.serves;
            };
        everywhere = λ x s named of.
            let to = steps_to s of in
            answered_as new was x x s piece reply Done (turns_plainly x s (after s) piece reply Done (λ y. y) (leaves s of) to) named (subst (IsStateOf (known_in_memory (memory_of new))) (sym to.state_is) (known s of));
        ready = goes_on_made a b old new makes.numbers_stay makes.listed_stay makes.files_stay was.views was.tasks.items on makes.ready parts makes.exactly;
        cursors = cursors_kept a.files b.files old new was are keeps;
        any_moment = λ w serves. subst (λ (ms : List Move). Changes (λ x y. Between w.layout ms y) a b) (sym (steps_moves a old piece asked is changing w serves.serves)) (makes.any_moment w.layout serves.serves);
        spent_is = tt;
        classes = λ known_all. record { tables = classes known_all.tables; cursors = known_all.cursors; tasks = known_all.tasks };
        needed = needed_asked kinds (asks (known_in_memory (memory_of old)) piece) asked is has;
        needed_first = tt;
        missing = tt;
        damaged = λ folder files. tt;
        undamaged = λ w serves. tt;
        reads_only = λ none. absurd (changing (sym is ∙ none));
        unread = λ other. makes.reads;
        reads = λ w serves short. omega (arith, makes.reads);
        changes = makes.changes;
        held_stay = held;
        causes = record { disk = makes.causes.disk; out = makes.causes.out; ok = makes.causes.ok; failed = tt; others = tt };
      }

  -- they weren't, or not all of them
  pub step_failed : (e : StepFault) → MakesMoves {T = T} (λ l. moves_asked l asked) a b (memory_of old) (memory_of new) (Err e) → HasNeeded kinds (class_needed asked) → StepPromises kinds piece a b old new was was reply (Err e)
  step_failed e makes has = record {
    answers = tt;
    everywhere = tt;
    ready = tt;
    cursors = tt;
    any_moment = λ w serves. subst (λ (ms : List Move). Changes (λ x y. Between w.layout ms y) a b) (sym (steps_moves a old piece asked is changing w serves.serves)) (makes.any_moment w.layout serves.serves);
    spent_is = by_spent _ _ (λ kind on w serves. ap (spent w.layout) (steps_moves a old piece asked is changing w serves.serves) ∙ on w.layout serves.serves) e makes.spent_is;
    classes = tt;
    needed = tt;
    needed_first = where_spent _ e (needed_asked kinds (asks (known_in_memory (memory_of old)) piece) asked is has);
    missing = never_missing _ e makes.present;
    damaged = λ folder files. by_damage (λ _. ⊥) (StepShows was.views folder) (λ damage none. absurd none) e makes.undamaged;
    undamaged = λ w serves. makes.undamaged;
    reads_only = λ none. absurd (changing (sym is ∙ none));
    unread = λ other. makes.reads;
    reads = λ w serves short. omega (arith, makes.reads);
    changes = makes.changes;
    held_stay = used_held a b old.numbers.«data» was.views on.held_are makes.files_stay;
    causes = record { disk = makes.causes.disk; out = makes.causes.out; ok = tt; failed = makes.causes.failed; others = makes.causes.others };
  }
