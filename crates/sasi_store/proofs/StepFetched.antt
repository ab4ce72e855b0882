-- A step that answers a FETCH from a cursor that is open.
use Rattle.std.proofs.Common.{◌≡◌, Some, IfErr, IfOk, Result, ◌++◌, Bool, true, false, if◌then◌else◌, ℕ, List, [], ◌∷◌, drop, map, take, Option, None, Ok, Err, refl, inl, inr, sym, ap, subst, ◌∙◌}
use Rattle.std.proofs.lemmas.List.{append-nil}
use Rattle.std.specs.List.{list_any}
use Rattle.sasi_cursors.specs.Cursors.{is_open}
use Rattle.sasi_host.specs.Disk.{Changes, Same}
use Rattle.sasi_host.specs.Names.{Folder}
use Rattle.sasi_host.specs.View.{IsSound, View}
use Rattle.sasi_layout.specs.Layout.{Layout, state_of}
use Rattle.sasi_layout.specs.Moves.{after_moves}
use Rattle.sasi_layout.specs.Serving.{known_in_memory}
use Rattle.sasi_layout.specs.Spent.{spent}
use Rattle.sasi_machine.proofs.SessionTurns.{fetched_turns}
use Rattle.sasi_machine.specs.Outcome.{outcome_of}
use Rattle.sasi_machine.specs.Prepares.{FetchesRows, IsStateOf, SaysOne, StepsTo}
use Rattle.sasi_machine.specs.declared.outcome.Outcome.{Outcome}
use Rattle.sasi_machine.specs.declared.outcome.Outcome.TheVariants.{Done}
use Rattle.sasi_machine.specs.declared.prepared.FetchAsked.{FetchAsked}
use Rattle.sasi_model.specs.Asked as ask
use Rattle.sasi_model.specs.Asked.{asks}
use Rattle.sasi_model.specs.Abbreviations.{NoCursor}
use Rattle.sasi_model.specs.Lines.{refusal_line, rows_lines}
use Rattle.sasi_model.specs.Parsers.{grammar_parser}
use Rattle.sasi_model.specs.Pieces.{Piece}
use Rattle.sasi_model.specs.Refusals.{ParsedPiece, Says, read}
use Rattle.sasi_model.specs.Sessions as model
use Rattle.sasi_model.specs.Sessions.{NoTail, SessionState, Turn, rows_given, rows_left, tail_bytes, turn_by}
use Rattle.sasi_model.specs.State.{State}
use Rattle.sasi_model.specs.Tokens.{same}
use Rattle.sasi_types.specs.declared.class.Class.{Class}
use Rattle.sasi_types.specs.declared.statement.Statement.{Statement}
use Rattle.sasi_types.specs.declared.statement.Statement.TheVariants.{Fetch}
use Rattle.sasi_tables.specs.Faults.{OnMissing, OnSpent, OnStepDamage, StepCauses}
use Rattle.sasi_tables.specs.TablesView.{memory_of}
use Rattle.sasi_tables.specs.declared.fault.StepFault.{StepFault}
use Rattle.sasi_tables.specs.declared.parts.Parts.{Parts}
use Rattle.sasi_store.specs.Answers.{IsFetch}
use Rattle.sasi_store.specs.CursorCalls.{IsFetched}
use Rattle.sasi_store.specs.Cursors.{AreCursors, HasNamesOf}
use Rattle.sasi_store.specs.Selects.{HasShortRows}
use Rattle.sasi_store.specs.Steps.{StepPromises}
use Rattle.sasi_store.specs.Worlds.{PartsServe, World, fetched_world, steps, told_in}
use Rattle.sasi_store.specs.declared.session_state.SessionState.{SessionState as StoreSession}
use Rattle.sasi_store.proofs.PlainPieces.{IsPlain, plain_moves, plain_tasks, plain_views}
use Rattle.sasi_store.specs.HeldDamage.{StepShows}
use Rattle.sasi_tasks.specs.MakesTaskMoves.{CanGoOn}
use Rattle.sasi_store.proofs.StepCursors.{step_fetch_refused}
use Rattle.sasi_store.proofs.Stepping.{moves_are, names_of_world, read_failed, state_is, step_taken}

-- the piece is a FETCH
pub reads_fetch : (s : State) (piece : Piece) (asked : FetchAsked) → SaysOne piece (λ statement. FetchesRows s statement asked) → IsFetch (read piece)
reads_fetch s piece asked (statement, says, well, is) = subst IsFetch (sym says) (by statement is)
  where
    by : (statement : Statement) → FetchesRows s statement asked → IsFetch (Says statement)
    by (Fetch cursor count) is = tt
    by statement is = absurd is

-- so it opens and closes no cursor,
fetch_plain : (parsed : ParsedPiece) → IsFetch parsed → IsPlain parsed
fetch_plain (Says (Fetch cursor count)) fetch = tt
fetch_plain parsed fetch = absurd fetch

-- and no bound is said of what it reads
no_bound : (seen : Option Folder) (l : Layout) (parsed : ParsedPiece) → IsFetch parsed → HasShortRows seen l parsed → ⊥
no_bound seen l (Says (Fetch cursor count)) fetch short = short
no_bound seen l parsed fetch short = fetch

-- it leaves the names
names_given : (name : List ℕ) (count : ℕ) (cursors : List model.Cursor) → map (λ (c : model.Cursor). c.name) (rows_given name count cursors) ≡ map (λ (c : model.Cursor). c.name) cursors
names_given name count [] = refl
names_given name count (c ∷ cs) = by (same name c.name) (names_given name count cs)
  where
    by : (b : Bool) → map (λ (d : model.Cursor). d.name) (rows_given name count cs) ≡ map (λ (d : model.Cursor). d.name) cs
        → map (λ (d : model.Cursor). d.name) ((if b then record c { rows = drop count c.rows } else c) ∷ rows_given name count cs) ≡ map (λ (d : model.Cursor). d.name) (c ∷ cs)
    by true rest = ap (λ (names : List (List ℕ)). c.name ∷ names) rest
    by false rest = ap (λ (names : List (List ℕ)). c.name ∷ names) rest

module _ {was now : StoreSession} (kinds : List Class) (a b : View) (sound : IsSound a) (p : Parts) (piece : Piece) (asked : FetchAsked) (front reply : List ℕ) (change : Changes Same a b) (is : asks (known_in_memory (memory_of p)) piece ≡ ask.NoChange) (fetch : IsFetch (read piece)) where
  module _ (outcome : Outcome) (empty : front ≡ [])
      (prepares : (s : State) → IsStateOf (known_in_memory (memory_of p)) s → StepsTo s piece s [] Done × (front ≡ []) × SaysOne piece (λ statement. FetchesRows s statement asked))
      (there : is_open asked.cursor was.cursors ≡ true) (outcome_is : outcome ≡ outcome_of None) (fetched : IsFetched kinds a b asked p was now front reply) (causes : StepCauses a b (Ok outcome)) where
    -- the session of the model then
    abbrev session_then : SessionState → SessionState
    session_then x = record x { cursors = rows_given asked.cursor asked.count x.cursors }

    abbrev lines : SessionState → List ℕ
    lines x = rows_lines (take asked.count (rows_left asked.cursor x.cursors))

    turn : (x : SessionState) (s : State) → HasNamesOf was.cursors x → IsStateOf (known_in_memory (memory_of p)) s
        → turn_by grammar_parser x s piece ≡ record { session = session_then x; reply = lines x; tail = NoTail; refused = None }
    turn x s named of = fetched_turns s piece asked (prepares s of).2 x (ap (list_any (same asked.cursor)) (sym named) ∙ there)

    -- ---- a world

    module _ (w : World) (serves : PartsServe a p was w) where
      here : IsStateOf (known_in_memory (memory_of p)) (state_of w.layout)
      here = state_is a (memory_of p) w.layout serves.serves

      turn_here : turn_by grammar_parser w.session (state_of w.layout) piece ≡ record { session = session_then w.session; reply = lines w.session; tail = NoTail; refused = None }
      turn_here = turn w.session (state_of w.layout) (names_of_world a p was w serves) here

      -- no move is made,
      moves_then : steps.moves w piece ≡ []
      moves_then = plain_moves w piece (fetch_plain (read piece) fetch) ∙ moves_are a (memory_of p) piece ask.NoChange is w.layout serves.serves

      -- and the cursors hold the same files
      views_then : (steps.after w piece).views ≡ w.views
      views_then = plain_views w piece (fetch_plain (read piece) fetch)

      tasks_then : (steps.after w piece).tasks ≡ w.tasks
      tasks_then = plain_tasks w piece (fetch_plain (read piece) fetch)

      -- so it is the world in which one has given rows,
      world_then : steps.after w piece ≡ fetched_world asked w
      world_then = λ i. record { layout = after_moves (moves_then i) w.layout; session = (turn_here i).session; views = views_then i; tasks = tasks_then i }

      -- and these are the reply
      reply_then : reply ≡ steps.reply w piece
      reply_then =
          fetched.reply_is w serves ∙ ap (λ (l : List ℕ). l ++ lines w.session) empty
          ∙ sym (ap (λ (t : Turn). t.reply ++ tail_bytes t.tail (told_in w (read piece))) turn_here ∙ append-nil (lines w.session))

    -- **A FETCH is answered as the model does.**
    step_fetched : StepPromises kinds piece a b p p was now reply (Ok outcome)
    step_fetched =
        step_taken kinds a b sound p p piece reply outcome change is
        (λ w serves. record {
          serves = subst (PartsServe b p now) (sym (world_then w serves)) (fetched.serves w serves);
          reply_is = reply_then w serves;
          outcome_is = outcome_is ∙ ap (λ (t : Turn). outcome_of t.refused) (sym (turn_here w serves));
          unspent = ap (spent w.layout) (moves_then w serves);
        })
        (λ x s named of. record {
          state_is = subst (IsStateOf (known_in_memory (memory_of p))) (sym (prepares s of).0.state_is) of;
          cursors_are = subst (λ (t : Turn). HasNamesOf now.cursors t.session) (sym (turn x s named of)) (fetched.names ∙ named ∙ sym (names_given asked.cursor asked.count x.cursors));
          outcome_is = outcome_is ∙ ap (λ (t : Turn). outcome_of t.refused) (sym (turn x s named of));
          reply_is = λ other. absurd (other (inr (inl fetch), ap (λ (t : Turn). t.refused) (turn x s named of)));
        })
        fetched.ready fetched.cursors fetched.classes
        (λ other. absurd (other (inr (inl fetch)))) (λ w serves short. absurd (no_bound a.files w.layout (read piece) fetch short)) causes

  -- **One that fails reports what the folder shows.**
  step_fetch_failed : {T : Type 0} (e : StepFault) → ((folder : Folder) → b.files ≡ Some folder → OnStepDamage (StepShows was.views folder) e) → ((w : World) → PartsServe a p was w → OnStepDamage (λ _. ⊥) e) → OnSpent (λ _. ⊥) e → OnMissing (λ _. ⊥) e
      → StepCauses {T = T} a b (Err e) → StepPromises kinds piece a b p p was now reply (Err e)
  step_fetch_failed e damaged undamaged unspent present causes =
      read_failed kinds a b sound p piece reply e change (inr (inl fetch)) damaged undamaged unspent present (λ w serves short. absurd (no_bound a.files w.layout (read piece) fetch short)) causes

  -- **FETCH keeps its promises**, whatever the call answered.
  pub step_fetch : (result : Result Outcome StepFault) (later : List Class) → later ≡ kinds → CanGoOn a was.views p was.tasks.items → AreCursors a.files p was → front ≡ []
      → ((s : State) → IsStateOf (known_in_memory (memory_of p)) s → StepsTo s piece s [] Done × (front ≡ []) × SaysOne piece (λ statement. FetchesRows s statement asked))
      → IfOk result (λ outcome. is_open asked.cursor was.cursors ≡ false → (outcome ≡ outcome_of (Some (NoCursor asked.cursor))) × (reply ≡ front ++ refusal_line (NoCursor asked.cursor)) × (now ≡ was))
      → IfOk result (λ outcome. is_open asked.cursor was.cursors ≡ true → (outcome ≡ outcome_of None) × IsFetched later a b asked p was now front reply)
      → ((P : View → Type 0) → is_open asked.cursor was.cursors ≡ false → P a → P b)
      → ((folder : Folder) → b.files ≡ Some folder → IfErr result (OnStepDamage (StepShows was.views folder))) → ((w : World) → PartsServe a p was w → IfErr result (OnStepDamage (λ _. ⊥))) → IfErr result (OnSpent (λ _. ⊥)) → IfErr result (OnMissing (λ _. ⊥))
      → StepCauses a b result → StepPromises kinds piece a b p p was now reply result
  step_fetch (Err e) later kinds_are ready are empty prepares refused taken left damaged undamaged unspent present causes = step_fetch_failed e damaged undamaged unspent present causes
  step_fetch (Ok outcome) later kinds_are ready are empty prepares refused taken left damaged undamaged unspent present causes = by (is_open asked.cursor was.cursors) refl
    where
      by : (o : Bool) → is_open asked.cursor was.cursors ≡ o → StepPromises kinds piece a b p p was now reply (Ok outcome)
      by true there = (let said = taken there in step_fetched outcome empty prepares there said.0 (subst (λ (there : List Class). IsFetched there a b asked p was now front reply) kinds_are said.1) causes)
      by false free =
          let said = refused free in
          subst (λ (n : StoreSession). StepPromises kinds piece a b p p was n reply (Ok outcome)) (sym said.2)
          (left (λ (y : View). StepPromises kinds piece a y p p was was reply (Ok outcome)) free
          (step_fetch_refused kinds a sound p piece front reply outcome ready is are empty asked free prepares said.1 said.0))
