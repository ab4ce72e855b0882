-- A step that answers a CLOSE: files that its cursor alone holds and that no table has any more are deleted.
use Rattle.std.proofs.Common.{◌≡◌, ◌++◌, Bool, Some, true, false, not, filter, ℕ, List, [], Option, None, IfErr, IfOk, Result, Ok, Err, refl, inl, inr, sym, ap, subst, ◌∙◌, arith}
use Rattle.std.specs.List.{list_any}
use Rattle.sasi_cursors.specs.Cursors.{is_open}
use Rattle.sasi_host.specs.Disk.{Changes}
use Rattle.sasi_host.specs.declared.name.FileName.{FileName}
use Rattle.sasi_host.specs.View.{IsSound, View}
use Rattle.sasi_layout.specs.Between.{Between}
use Rattle.sasi_layout.specs.Layout.{state_of}
use Rattle.sasi_layout.specs.Moves.{Move, after_moves}
use Rattle.sasi_layout.specs.Serving.{StoreInMemory, known_in_memory}
use Rattle.sasi_layout.specs.Spent.{spent}
use Rattle.sasi_layout.specs.Statements.{moves_of}
use Rattle.sasi_machine.proofs.SessionTurns.{closed_turns}
use Rattle.sasi_machine.specs.Outcome.{outcome_of}
use Rattle.sasi_machine.specs.Prepares.{ClosesCursor, IsStateOf, SaysOne, StepsTo}
use Rattle.sasi_machine.specs.declared.outcome.Outcome.{Outcome}
use Rattle.sasi_machine.specs.declared.outcome.Outcome.TheVariants.{Done}
use Rattle.sasi_model.specs.Abbreviations.{NoCursor, ok_line}
use Rattle.sasi_model.specs.Asked as ask
use Rattle.sasi_model.specs.Asked.{asks}
use Rattle.sasi_model.specs.Lines.{refusal_line}
use Rattle.sasi_model.specs.Parsers.{grammar_parser}
use Rattle.sasi_model.specs.Pieces.{Piece}
use Rattle.sasi_model.specs.Refusals.{ParsedPiece, Refusal, Says, read}
use Rattle.sasi_model.specs.Sessions.{NoTail, SessionState, Turn, refused_by, turn_by, without_cursor}
use Rattle.sasi_model.specs.State.{State}
use Rattle.sasi_model.specs.Step.{step}
use Rattle.sasi_model.specs.Tokens.{same}
use Rattle.sasi_types.specs.declared.class.Class.{Class}
use Rattle.sasi_types.specs.declared.statement.Statement.{Statement}
use Rattle.sasi_types.specs.declared.statement.Statement.TheVariants.{CloseCursor}
use Rattle.sasi_recover.specs.OpenedFolder.{AnyFolderChange}
use Rattle.sasi_tables.specs.Faults.{OnMissing, OnSpent, OnStepDamage, StepCauses}
use Rattle.sasi_tables.specs.TablesView.{memory_of}
use Rattle.sasi_tables.specs.declared.fault.StepFault.{StepFault}
use Rattle.sasi_tables.specs.declared.fault.StepFault.TheVariants as fault
use Rattle.sasi_tasks.specs.MakesTaskMoves.{CanGoOn, KeepsHeld}
use Rattle.sasi_tables.specs.declared.parts.Parts.{Parts}
use Rattle.sasi_store.specs.CursorCalls.{IsClosed, IsOfCalls}
use Rattle.sasi_store.specs.Cursors.{AreCursors, HasNamesOf}
use Rattle.sasi_store.specs.Answers.{DeletesOrBuilds}
use Rattle.sasi_store.specs.HeldDamage.{StepShows}
use Rattle.sasi_store.specs.Steps.{StepPromises}
use Rattle.sasi_store.specs.Worlds.{PartsServe, World, closed_world, session_moves, steps, tasks_after, unless_refused, views_after}
use Rattle.sasi_store.specs.declared.session_state.SessionState.{SessionState as StoreSession}
use Rattle.sasi_store.proofs.PlainPieces.{unless_same}
use Rattle.sasi_store.proofs.StepCursors.{step_close_refused}
use Rattle.sasi_store.proofs.Stepping.{Turns, answered_as, moves_are, names_of_world, needed_asked, reply_turned, state_is}

-- the piece is this CLOSE
reads_close : (s : State) (piece : Piece) (name : List ℕ) → SaysOne piece (λ statement. ClosesCursor s statement name) → read piece ≡ Says (CloseCursor name)
reads_close s piece name (statement, says, well, is) = says ∙ by statement is
  where
    by : (statement : Statement) → ClosesCursor s statement name → Says statement ≡ Says (CloseCursor name)
    by (CloseCursor cursor) is = ap (λ (other : List ℕ). Says (CloseCursor other)) (sym is.1)
    by statement is = absurd is

-- so it deletes files
deletes : (s : State) (piece : Piece) (name : List ℕ) → SaysOne piece (λ statement. ClosesCursor s statement name) → DeletesOrBuilds (read piece)
deletes s piece name says = subst DeletesOrBuilds (sym (reads_close s piece name says)) tt

-- a call failed, or memory ran out
by_calls : (Q : StepFault → Type 0) (e : StepFault) → Q fault.Failed → Q fault.OutOfMemory → IsOfCalls e → Q e
by_calls Q e failed full (inl is) = subst Q (sym is) failed
by_calls Q e failed full (inr is) = subst Q (sym is) full

module _ (was now : StoreSession) (kinds : List Class) (a b : View) (sound : IsSound a) (old new : Parts) (piece : Piece) (name : List ℕ) (front reply : List ℕ) (is : asks (known_in_memory (memory_of old)) piece ≡ ask.NoChange) (empty : front ≡ [])
    (prepares : (s : State) → IsStateOf (known_in_memory (memory_of old)) s → StepsTo s piece s [] Done × (front ≡ []) × SaysOne piece (λ statement. ClosesCursor s statement name))
    (blank : State) (says : SaysOne piece (λ statement. ClosesCursor blank statement name)) (held : Changes (KeepsHeld now.views) a b) (changes : Changes AnyFolderChange a b)
    (moments : (w : World) → PartsServe a old was w → Changes (λ x y. Between w.layout [] y) a b) (reads_none : b.reads ≡ a.reads) where
  -- no move is made
  moves_then : (w : World) → PartsServe a old was w → steps.moves w piece ≡ []
  moves_then w serves =
      ap (λ (parsed : ParsedPiece). unless_refused (refused_by grammar_parser w.session (state_of w.layout) piece) (session_moves w parsed) [] ++ moves_of w.layout piece) (reads_close blank piece name says)
      ∙ ap (λ (ms : List Move). ms ++ moves_of w.layout piece) (unless_same (refused_by grammar_parser w.session (state_of w.layout) piece) [])
      ∙ moves_are a (memory_of old) piece ask.NoChange is w.layout serves.serves

  any_moment : (w : World) → PartsServe a old was w → Changes (λ x y. Between w.layout (steps.moves w piece) y) a b
  any_moment w serves = subst (λ (ms : List Move). Changes (λ x y. Between w.layout ms y) a b) (sym (moves_then w serves)) (moments w serves)

  module _ (outcome : Outcome) (there : is_open name was.cursors ≡ true) (outcome_is : outcome ≡ outcome_of None) (replied : reply ≡ front ++ ok_line) (closed : IsClosed a b name old new was now) where
    -- the session of the model then
    abbrev session_then : SessionState → SessionState
    session_then x = record x { cursors = without_cursor name x.cursors }

    turn : (x : SessionState) (s : State) → HasNamesOf was.cursors x → IsStateOf (known_in_memory (memory_of old)) s
        → turn_by grammar_parser x s piece ≡ record { session = session_then x; reply = reply; tail = NoTail; refused = None }
    turn x s named of =
        closed_turns s piece name (prepares s of).2 x (ap (list_any (same name)) (sym named) ∙ there)
        ∙ ap (λ (line : List ℕ). record { session = session_then x; reply = line; tail = NoTail; refused = None }) (sym (replied ∙ ap (λ (l : List ℕ). l ++ ok_line) empty))

    turns : (x : SessionState) (s : State) → HasNamesOf was.cursors x → IsStateOf (known_in_memory (memory_of old)) s → Turns x s piece (session_then x) reply outcome
    turns x s named of = record { refused = None; turn_is = turn x s named of; outcome_is = outcome_is }

    module _ (w : World) (serves : PartsServe a old was w) where
      here : IsStateOf (known_in_memory (memory_of old)) (state_of w.layout)
      here = state_is a (memory_of old) w.layout serves.serves

      turn_here : turn_by grammar_parser w.session (state_of w.layout) piece ≡ record { session = session_then w.session; reply = reply; tail = NoTail; refused = None }
      turn_here = turn w.session (state_of w.layout) (names_of_world a old was w serves) here

      taken : refused_by grammar_parser w.session (state_of w.layout) piece ≡ None
      taken = ap (λ (t : Turn). t.refused) turn_here

      -- the cursor holds no files any more
      views_then : (steps.after w piece).views ≡ filter (λ (view : List ℕ × List FileName). not (same name view.0)) w.views
      views_then =
          ap (λ (o : Option Refusal). unless_refused o (views_after w.layout (read piece) w.views) w.views) taken
          ∙ ap (λ (parsed : ParsedPiece). views_after w.layout parsed w.views) (reads_close blank piece name says)

      -- and the tasks stay,
      tasks_then : (steps.after w piece).tasks ≡ w.tasks
      tasks_then =
          ap (λ (o : Option Refusal). unless_refused o (tasks_after w.layout (read piece) w.tasks) w.tasks) taken
          ∙ ap (λ (parsed : ParsedPiece). tasks_after w.layout parsed w.tasks) (reads_close blank piece name says)

      -- so it is the world in which one was closed
      world_then : steps.after w piece ≡ closed_world name w
      world_then = λ i. record { layout = after_moves (moves_then w serves i) w.layout; session = (turn_here i).session; views = views_then i; tasks = tasks_then i }

    -- **A CLOSE is answered as the model does.**
    step_closed : StepCauses a b (Ok outcome) → StepPromises kinds piece a b old new was now reply (Ok outcome)
    step_closed causes = record {
      answers = λ w serves.
          let turned = turns w.session (state_of w.layout) (names_of_world a old was w serves) (here w serves) in
          record {
            serves = subst (PartsServe b new now) (sym (world_then w serves)) (closed.serves w serves);
            reply_is = sym (reply_turned w piece (session_then w.session) reply outcome turned);
            outcome_is = outcome_is ∙ ap (λ (t : Turn). outcome_of t.refused) (sym (turn_here w serves));
            unspent = ap (spent w.layout) (moves_then w serves);
          };
      everywhere = λ x s named of.
          answered_as new now x (session_then x) s piece reply outcome (turns x s named of) (closed.names x named)
          (subst (λ (m : StoreInMemory). IsStateOf (known_in_memory m) (step s piece).state) (sym closed.memory) (subst (IsStateOf (known_in_memory (memory_of old))) (sym (prepares s of).0.state_is) of));
      ready = closed.ready;
      cursors = closed.cursors;
      any_moment = any_moment;
      spent_is = tt;
      classes = closed.classes kinds;
      needed = needed_asked kinds (asks (known_in_memory (memory_of old)) piece) ask.NoChange is tt;
      needed_first = tt;
      missing = tt;
      damaged = λ folder files. tt;
      undamaged = λ w serves. tt;
      reads_only = λ none other. absurd (other (deletes blank piece name says));
      unread = λ other. reads_none;
      reads = λ w serves short. omega (arith, reads_none);
      changes = changes;
      held_stay = held;
      causes = causes;
    }

  -- **One that fails leaves what is held.**
  step_close_failed : (e : StepFault) → IsOfCalls e → StepCauses {T = Outcome} a b (Err e) → StepPromises kinds piece a b old new was now reply (Err e)
  step_close_failed e calls causes = record {
    answers = tt;
    everywhere = tt;
    ready = tt;
    cursors = tt;
    any_moment = any_moment;
    spent_is = by_calls (OnSpent _) e tt tt calls;
    classes = tt;
    needed = tt;
    needed_first = by_calls (OnSpent _) e tt tt calls;
    missing = by_calls (OnMissing _) e tt tt calls;
    damaged = λ folder files. by_calls (OnStepDamage (StepShows was.views folder)) e tt tt calls;
    undamaged = λ w serves. by_calls (OnStepDamage (λ _. ⊥)) e tt tt calls;
    reads_only = λ none other. absurd (other (deletes blank piece name says));
    unread = λ other. reads_none;
    reads = λ w serves short. omega (arith, reads_none);
    changes = changes;
    held_stay = held;
    causes = causes;
  }

  -- **CLOSE keeps its promises**, whatever the call answered.
  pub step_close : (result : Result Outcome StepFault) → CanGoOn a was.views old was.tasks.items → AreCursors a.files old was
      → IfOk result (λ outcome. is_open name was.cursors ≡ false → (outcome ≡ outcome_of (Some (NoCursor name))) × (reply ≡ front ++ refusal_line (NoCursor name)) × (new ≡ old) × (now ≡ was))
      → IfOk result (λ outcome. is_open name was.cursors ≡ true → (outcome ≡ outcome_of None) × (reply ≡ front ++ ok_line) × IsClosed a b name old new was now)
      → ((P : View → Type 0) → is_open name was.cursors ≡ false → P a → P b) → IfErr result (λ f. IsOfCalls f) → StepCauses a b result → StepPromises kinds piece a b old new was now reply result
  step_close (Err e) ready are refused opens left failed causes = step_close_failed e failed causes
  step_close (Ok outcome) ready are refused opens left failed causes = by (is_open name was.cursors) refl
    where
      by : (o : Bool) → is_open name was.cursors ≡ o → StepPromises kinds piece a b old new was now reply (Ok outcome)
      by true there = (let said = opens there in step_closed outcome there said.0 said.1 said.2 causes)
      by false free =
          let said = refused free in
          subst (λ (p : Parts). StepPromises kinds piece a b old p was now reply (Ok outcome)) (sym said.2)
          (subst (λ (n : StoreSession). StepPromises kinds piece a b old old was n reply (Ok outcome)) (sym said.3)
          (left (λ (y : View). StepPromises kinds piece a y old old was was reply (Ok outcome)) free
          (step_close_refused kinds a sound old piece front reply outcome ready is are empty name free prepares said.1 said.0)))
