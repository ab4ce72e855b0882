-- A step that answers an OPEN which no rule of cursors refuses: one cursor more is open, over what its table has. No call is made.
use Rattle.std.proofs.Common.{◌≡◌, Err, IfErr, IfOk, Result, ◌++◌, Bool, true, false, if◌then◌else◌, ℕ, List, [], ◌∷◌, map, Option, None, Some, Ok, refl, sym, ap, subst, ◌∙◌, arith}
use Rattle.std.proofs.lemmas.List.{append-nil, map-append}
use Rattle.std.specs.Option.{option_map_or}
use Rattle.sasi_host.proofs.ChangeLaws.{stays}
use Rattle.sasi_host.specs.View.{IsSound, View}
use Rattle.sasi_layout.proofs.StatementLaws.{definitions_are}
use Rattle.sasi_layout.specs.Layout.{Layout, state_of}
use Rattle.sasi_layout.specs.Moves.{Freeze, Move, after_moves}
use Rattle.sasi_layout.specs.Serving.{known_in_memory}
use Rattle.sasi_layout.specs.Spent.{spent}
use Rattle.sasi_layout.specs.Statements.{definitions_of, moves_of}
use Rattle.sasi_machine.proofs.CursorTurns.{opens_from}
use Rattle.sasi_machine.proofs.SessionTurns.{opened_turns}
use Rattle.sasi_machine.specs.Outcome.{outcome_of}
use Rattle.sasi_machine.specs.Prepares.{IsStateOf, OpensCursor, SaysOne, StepsTo, rows_asked}
use Rattle.sasi_machine.specs.declared.outcome.Outcome.{Outcome}
use Rattle.sasi_machine.specs.declared.outcome.Outcome.TheVariants.{Done}
use Rattle.sasi_machine.specs.declared.prepared.OpenAsked.{OpenAsked}
use Rattle.sasi_model.specs.Abbreviations.{first_refusal, ok_line}
use Rattle.sasi_model.specs.Asked as ask
use Rattle.sasi_model.specs.Asked.{asks}
use Rattle.sasi_model.specs.Lines.{refusal_line}
use Rattle.sasi_model.specs.Parsers.{grammar_parser}
use Rattle.sasi_model.specs.Pieces.{Piece}
use Rattle.sasi_model.specs.Refusals.{ParsedPiece, Refusal, Says, cursor_rules, read}
use Rattle.sasi_model.specs.Sessions as model
use Rattle.sasi_model.specs.Sessions.{NoTail, Rows, SessionState, Turn, ok_turn, refused_by, turn_by}
use Rattle.sasi_model.specs.State.{State}
use Rattle.sasi_schema.specs.Numbers.{number_of_table}
use Rattle.sasi_types.specs.declared.class.Class.{Class}
use Rattle.sasi_types.specs.declared.statement.Select.{Select}
use Rattle.sasi_types.specs.declared.statement.Statement.{Statement}
use Rattle.sasi_types.specs.declared.statement.Statement.TheVariants.{OpenCursor}
use Rattle.sasi_tables.proofs.MoveCauses.{none_made}
use Rattle.sasi_tables.specs.Freezing.{freeze_where, holds_any}
use Rattle.sasi_tables.specs.TablesView.{memory_of}
use Rattle.sasi_tables.specs.declared.fault.StepFault.{StepFault}
use Rattle.sasi_tables.specs.declared.fault.StepFault.TheVariants.{OutOfMemory}
use Rattle.sasi_tables.specs.declared.parts.Parts.{Parts}
use Rattle.sasi_store.specs.CursorCalls.{IsOpened, open_refusal}
use Rattle.sasi_store.specs.Cursors.{AreCursors, HasNamesOf}
use Rattle.sasi_store.specs.Steps.{StepPromises}
use Rattle.sasi_store.specs.Worlds.{PartsServe, World, opened_world, session_moves, steps, table_names, tasks_after, unless_refused, views_after}
use Rattle.sasi_tasks.specs.MakesTaskMoves.{CanGoOn}
use Rattle.sasi_store.specs.declared.session_state.SessionState.{SessionState as StoreSession}
use Rattle.sasi_store.proofs.Known.{known_as}
use Rattle.sasi_store.proofs.StepCursors.{step_open_refused}
use Rattle.sasi_store.proofs.Stepping.{step_full, Turns, answered_as, moves_are, names_of_world, reply_turned, state_is, step_taken}

-- the piece is this OPEN
reads_open : (s : State) (piece : Piece) (asked : OpenAsked) → SaysOne piece (λ statement. OpensCursor s statement asked) → read piece ≡ Says (OpenCursor asked.cursor asked.rows.select)
reads_open s piece asked (statement, says, well, is) = says ∙ by statement is
  where
    by : (statement : Statement) → OpensCursor s statement asked → Says statement ≡ Says (OpenCursor asked.cursor asked.rows.select)
    by (OpenCursor cursor select) is =
        ap (λ (name : List ℕ). Says (OpenCursor name select)) (sym is.cursor_is) ∙ ap (λ (rows : Select). Says (OpenCursor asked.cursor rows)) (sym is.select_is)
    by statement is = absurd is

-- a freeze draws no number
freeze_unspent : (table : ℕ) (l : Layout) → spent l (freeze_where table l) ≡ None
freeze_unspent table l = by (holds_any table l)
  where
    by : (b : Bool) → spent l (if b then Freeze table ∷ [] else []) ≡ None
    by true = refl
    by false = refl

module _ {was now : StoreSession} (kinds : List Class) (v : View) (sound : IsSound v) (old new : Parts) (piece : Piece) (asked : OpenAsked) (front reply : List ℕ) (outcome : Outcome) (is : asks (known_in_memory (memory_of old)) piece ≡ ask.NoChange) (empty : front ≡ [])
    (prepares : (s : State) → IsStateOf (known_in_memory (memory_of old)) s → StepsTo s piece s [] Done × (front ≡ []) × SaysOne piece (λ statement. OpensCursor s statement asked))
    (first : open_refusal was.cursors asked ≡ None) (outcome_is : outcome ≡ outcome_of None) (replied : reply ≡ front ++ ok_line) (opened : IsOpened kinds v asked old new was now) where
  -- the session of the model then
  abbrev session_then : SessionState → State → SessionState
  session_then x s = record x { cursors = x.cursors ++ record { name = asked.cursor; rows = rows_asked s asked.rows } ∷ [] }

  turn : (x : SessionState) (s : State) → HasNamesOf was.cursors x → IsStateOf (known_in_memory (memory_of old)) s
      → turn_by grammar_parser x s piece ≡ record { session = session_then x s; reply = reply; tail = NoTail; refused = None }
  turn x s named of =
      let says = (prepares s of).2 in
      opened_turns s piece asked says x (ap (λ (names : List (List ℕ)). first_refusal (cursor_rules names (OpenCursor asked.cursor asked.rows.select))) (sym named) ∙ first)
      ∙ ap (λ (rows : Rows). ok_turn (record x { cursors = x.cursors ++ record { name = asked.cursor; rows = rows } ∷ [] })) (opens_from s piece asked says).rows_are
      ∙ ap (λ (line : List ℕ). record { session = session_then x s; reply = line; tail = NoTail; refused = None }) (sym (replied ∙ ap (λ (l : List ℕ). l ++ ok_line) empty))

  turns : (x : SessionState) (s : State) → HasNamesOf was.cursors x → IsStateOf (known_in_memory (memory_of old)) s → Turns x s piece (session_then x s) reply outcome
  turns x s named of = record { refused = None; turn_is = turn x s named of; outcome_is = outcome_is }

  -- the names of the cursors are those of the session then
  named_then : (x : SessionState) (s : State) → HasNamesOf was.cursors x → HasNamesOf now.cursors (session_then x s)
  named_then x s named =
      opened.names ∙ ap (λ (names : List (List ℕ)). names ++ asked.cursor ∷ []) named
      ∙ sym (map-append (λ (c : model.Cursor). c.name) x.cursors (record { name = asked.cursor; rows = rows_asked s asked.rows } ∷ []))

  -- ---- a world

  module _ (w : World) (serves : PartsServe v old was w) where
    here : IsStateOf (known_in_memory (memory_of old)) (state_of w.layout)
    here = state_is v (memory_of old) w.layout serves.serves

    turn_here : turn_by grammar_parser w.session (state_of w.layout) piece ≡ record { session = session_then w.session (state_of w.layout); reply = reply; tail = NoTail; refused = None }
    turn_here = turn w.session (state_of w.layout) (names_of_world v old was w serves) here

    taken : refused_by grammar_parser w.session (state_of w.layout) piece ≡ None
    taken = ap (λ (t : Turn). t.refused) turn_here

    reads : read piece ≡ Says (OpenCursor asked.cursor asked.rows.select)
    reads = reads_open (state_of w.layout) piece asked (prepares (state_of w.layout) here).2

    number_is : number_of_table asked.rows.select.table (definitions_of w.layout) ≡ Some asked.rows.table
    number_is = ap (number_of_table asked.rows.select.table) (definitions_are w.layout) ∙ (opens_from (state_of w.layout) piece asked (prepares (state_of w.layout) here).2).named

    -- its table is frozen where its memtable holds anything,
    moves_then : steps.moves w piece ≡ freeze_where asked.rows.table w.layout
    moves_then =
        ap (λ (o : Option Refusal). unless_refused o (session_moves w (read piece)) [] ++ moves_of w.layout piece) taken
        ∙ ap (λ (parsed : ParsedPiece). session_moves w parsed ++ moves_of w.layout piece) reads
        ∙ ap (λ (o : Option ℕ). (option_map_or (λ number. freeze_where number w.layout) o [] ++ []) ++ moves_of w.layout piece) number_is
        ∙ ap (λ (ms : List Move). ms ++ moves_of w.layout piece) (append-nil (freeze_where asked.rows.table w.layout))
        ∙ ap (λ (ms : List Move). freeze_where asked.rows.table w.layout ++ ms) (moves_are v (memory_of old) piece ask.NoChange is w.layout serves.serves)
        ∙ append-nil (freeze_where asked.rows.table w.layout)

    -- and the cursor holds its files
    views_then : (steps.after w piece).views ≡ w.views ++ (asked.cursor, table_names w.layout asked.rows.table) ∷ []
    views_then =
        ap (λ (o : Option Refusal). unless_refused o (views_after w.layout (read piece) w.views) w.views) taken
        ∙ ap (λ (parsed : ParsedPiece). views_after w.layout parsed w.views) reads
        ∙ ap (λ (o : Option ℕ). w.views ++ (asked.cursor, option_map_or (table_names w.layout) o []) ∷ []) number_is

    -- it leaves the tasks,
    tasks_then : (steps.after w piece).tasks ≡ w.tasks
    tasks_then = ap (λ (o : Option Refusal). unless_refused o (tasks_after w.layout (read piece) w.tasks) w.tasks) taken ∙ ap (λ (parsed : ParsedPiece). tasks_after w.layout parsed w.tasks) reads

    -- so it is the world in which one was opened
    world_then : steps.after w piece ≡ opened_world asked w
    world_then = λ i. record { layout = after_moves (moves_then i) w.layout; session = (turn_here i).session; views = views_then i; tasks = tasks_then i }

  -- **An OPEN is answered as the model does.**
  step_opened : StepPromises kinds piece v v old new was now reply (Ok outcome)
  step_opened =
      step_taken kinds v v sound old new piece reply outcome (stays v) is
      (λ w serves.
      let turned = turns w.session (state_of w.layout) (names_of_world v old was w serves) (here w serves) in
      record {
        serves = subst (PartsServe v new now) (sym (world_then w serves)) (opened.serves w serves);
        reply_is = sym (reply_turned w piece (session_then w.session (state_of w.layout)) reply outcome turned);
        outcome_is = outcome_is ∙ ap (λ (t : Turn). outcome_of t.refused) (sym (turn_here w serves));
        unspent = ap (spent w.layout) (moves_then w serves) ∙ freeze_unspent asked.rows.table w.layout;
      })
      (λ x s named of.
      answered_as new now x (session_then x s) s piece reply outcome (turns x s named of) (named_then x s named)
      (subst (IsStateOf (known_in_memory (memory_of new))) (sym (prepares s of).0.state_is) (known_as (memory_of new) old.schema.definitions old.max_timestamp s opened.knows of)))
      opened.ready opened.cursors (λ known. opened.classes)
      (λ other. refl) (λ w serves short. omega arith) (none_made v (Ok outcome) (λ e same. cc))

-- ---- whatever the call answered

module _ (was now : StoreSession) (kinds : List Class) (v : View) (sound : IsSound v) (old new : Parts) (piece : Piece) (asked : OpenAsked) (front reply : List ℕ) where
  -- what it promises where a rule refuses, and where none does
  abbrev pub Refuses : Outcome → Type 0
  Refuses outcome = (r : Refusal) → open_refusal was.cursors asked ≡ Some r → (outcome ≡ outcome_of (Some r)) × (reply ≡ front ++ refusal_line r) × (new ≡ old) × (now ≡ was)

  abbrev pub Opens : List Class → Outcome → Type 0
  Opens there outcome = open_refusal was.cursors asked ≡ None → (outcome ≡ outcome_of None) × (reply ≡ front ++ ok_line) × IsOpened there v asked old new was now

  -- **OPEN keeps its promises.**
  pub step_open : (result : Result Outcome StepFault) (later : List Class) → later ≡ kinds → CanGoOn v was.views old was.tasks.items → asks (known_in_memory (memory_of old)) piece ≡ ask.NoChange → AreCursors v.files old was → front ≡ []
      → ((s : State) → IsStateOf (known_in_memory (memory_of old)) s → StepsTo s piece s [] Done × (front ≡ []) × SaysOne piece (λ statement. OpensCursor s statement asked))
      → IfOk result Refuses → IfOk result (Opens later) → IfErr result (λ fault. fault ≡ OutOfMemory) → StepPromises kinds piece v v old new was now reply result
  step_open (Err e) later same ready is are empty prepares refused opens memory =
      subst (λ (f : StepFault). StepPromises kinds piece v v old new was now reply (Err f)) (sym memory) (step_full kinds v sound old piece reply)
  step_open (Ok outcome) later same ready is are empty prepares refused opens memory = by (open_refusal was.cursors asked) refl
    where
      by : (o : Option Refusal) → open_refusal was.cursors asked ≡ o → StepPromises kinds piece v v old new was now reply (Ok outcome)
      by None first = (let said = opens first in step_opened kinds v sound old new piece asked front reply outcome is empty prepares first said.0 said.1 (subst (λ (there : List Class). IsOpened there v asked old new was now) same said.2))
      by (Some r) first =
          let said = refused r first in
          subst (λ (p : Parts). StepPromises kinds piece v v old p was now reply (Ok outcome)) (sym said.2)
          (subst (λ (n : StoreSession). StepPromises kinds piece v v old old was n reply (Ok outcome)) (sym said.3)
          (step_open_refused kinds v sound old piece front reply outcome ready is are empty asked r first prepares said.1 said.0))
