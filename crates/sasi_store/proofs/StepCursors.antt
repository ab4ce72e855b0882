-- A step that answers a statement on a cursor that a rule of cursors refuses.
use Rattle.std.proofs.Common.{◌≡◌, ◌++◌, List, ℕ, [], false, Ok, Some, sym, ap, ◌∙◌}
use Rattle.std.specs.List.{list_any}
use Rattle.sasi_cursors.specs.Cursors.{is_open}
use Rattle.sasi_host.specs.View.{IsSound, View}
use Rattle.sasi_layout.specs.Serving.{known_in_memory}
use Rattle.sasi_machine.proofs.SessionTurns.{closed_refused, fetched_refused, opened_refused}
use Rattle.sasi_machine.specs.Outcome.{outcome_of}
use Rattle.sasi_machine.specs.Prepares.{ClosesCursor, FetchesRows, IsStateOf, OpensCursor, SaysOne, StepsTo}
use Rattle.sasi_machine.specs.declared.outcome.Outcome.{Outcome}
use Rattle.sasi_machine.specs.declared.outcome.Outcome.TheVariants.{Done}
use Rattle.sasi_machine.specs.declared.prepared.FetchAsked.{FetchAsked}
use Rattle.sasi_machine.specs.declared.prepared.OpenAsked.{OpenAsked}
use Rattle.sasi_model.specs.Abbreviations.{NoCursor, first_refusal}
use Rattle.sasi_model.specs.Asked as ask
use Rattle.sasi_model.specs.Asked.{asks}
use Rattle.sasi_model.specs.Lines.{refusal_line}
use Rattle.sasi_model.specs.Pieces.{Piece}
use Rattle.sasi_model.specs.Refusals.{Refusal, cursor_rules}
use Rattle.sasi_model.specs.State.{State}
use Rattle.sasi_types.specs.declared.class.Class.{Class}
use Rattle.sasi_types.specs.declared.statement.Statement.TheVariants.{OpenCursor}
use Rattle.sasi_model.specs.Tokens.{same}
use Rattle.sasi_store.specs.CursorCalls.{open_refusal}
use Rattle.sasi_store.specs.Cursors.{AreCursors}
use Rattle.sasi_store.specs.Steps.{StepPromises}
use Rattle.sasi_tables.specs.TablesView.{memory_of}
use Rattle.sasi_tables.specs.declared.parts.Parts.{Parts}
use Rattle.sasi_tasks.specs.MakesTaskMoves.{CanGoOn}
use Rattle.sasi_store.specs.declared.session_state.SessionState.{SessionState as StoreSession}
use Rattle.sasi_store.proofs.Stepping.{step_ruled}
use Rattle.sasi_tasks.specs.MakesTaskMoves.{CanGoOn}

module _ {was : StoreSession} (kinds : List Class) (v : View) (sound : IsSound v) (old : Parts) (piece : Piece) (front reply : List ℕ) (outcome : Outcome) (ready : CanGoOn v was.views old was.tasks.items) (is : asks (known_in_memory (memory_of old)) piece ≡ ask.NoChange)
    (are : AreCursors v.files old was) (empty : front ≡ []) where
  -- **An OPEN that a rule of cursors refuses leaves all.**
  pub step_open_refused : (asked : OpenAsked) (r : Refusal) → open_refusal was.cursors asked ≡ Some r
      → ((s : State) → IsStateOf (known_in_memory (memory_of old)) s → StepsTo s piece s [] Done × (front ≡ []) × SaysOne piece (λ statement. OpensCursor s statement asked))
      → reply ≡ front ++ refusal_line r → outcome ≡ outcome_of (Some r) → StepPromises kinds piece v v old old was was reply (Ok outcome)
  step_open_refused asked r first prepares replied refused =
      step_ruled kinds v sound old piece reply outcome r ready is are (replied ∙ ap (λ (l : List ℕ). l ++ refusal_line r) empty) refused (λ s of. (prepares s of).0.state_is)
      (λ x s named of. opened_refused s piece asked (prepares s of).2 x r (ap (λ (names : List (List ℕ)). first_refusal (cursor_rules names (OpenCursor asked.cursor asked.rows.select))) (sym named) ∙ first))

  -- **So does a FETCH of a name that isn't open,**
  pub step_fetch_refused : (asked : FetchAsked) → is_open asked.cursor was.cursors ≡ false
      → ((s : State) → IsStateOf (known_in_memory (memory_of old)) s → StepsTo s piece s [] Done × (front ≡ []) × SaysOne piece (λ statement. FetchesRows s statement asked))
      → reply ≡ front ++ refusal_line (NoCursor asked.cursor) → outcome ≡ outcome_of (Some (NoCursor asked.cursor)) → StepPromises kinds piece v v old old was was reply (Ok outcome)
  step_fetch_refused asked free prepares replied refused =
      step_ruled kinds v sound old piece reply outcome (NoCursor asked.cursor) ready is are (replied ∙ ap (λ (l : List ℕ). l ++ refusal_line (NoCursor asked.cursor)) empty) refused (λ s of. (prepares s of).0.state_is)
      (λ x s named of. fetched_refused s piece asked (prepares s of).2 x (ap (list_any (same asked.cursor)) (sym named) ∙ free))

  -- **and a CLOSE of one.**
  pub step_close_refused : (name : List ℕ) → is_open name was.cursors ≡ false
      → ((s : State) → IsStateOf (known_in_memory (memory_of old)) s → StepsTo s piece s [] Done × (front ≡ []) × SaysOne piece (λ statement. ClosesCursor s statement name))
      → reply ≡ front ++ refusal_line (NoCursor name) → outcome ≡ outcome_of (Some (NoCursor name)) → StepPromises kinds piece v v old old was was reply (Ok outcome)
  step_close_refused name free prepares replied refused =
      step_ruled kinds v sound old piece reply outcome (NoCursor name) ready is are (replied ∙ ap (λ (l : List ℕ). l ++ refusal_line (NoCursor name)) empty) refused (λ s of. (prepares s of).0.state_is)
      (λ x s named of. closed_refused s piece name (prepares s of).2 x (ap (list_any (same name)) (sym named) ∙ free))
