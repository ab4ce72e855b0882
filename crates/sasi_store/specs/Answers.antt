-- What a step answers, for each world that the store serves.
use Rattle.std.specs.Prelude.{◌≡◌, ◌⊎◌, ⊤, ℕ, List, None, Some, IsSome}
use Rattle.sasi_host.specs.View.{View}
use Rattle.sasi_layout.specs.Layout.{state_of}
use Rattle.sasi_layout.specs.Serving.{known_in_memory}
use Rattle.sasi_layout.specs.Spent.{spent}
use Rattle.sasi_machine.specs.Outcome.{outcome_of}
use Rattle.sasi_machine.specs.Prepares.{IsQuery, IsShowFiles, IsStateOf}
use Rattle.sasi_machine.specs.declared.outcome.Outcome.{Outcome}
use Rattle.sasi_model.specs.Parsers.{Parser, grammar_parser}
use Rattle.sasi_model.specs.Pieces.{Piece}
use Rattle.sasi_model.specs.Refusals.{Nothing, ParsedPiece, Says, read, read_by}
use Rattle.sasi_model.specs.Sessions.{SessionState, refused_by, session_by, turn_by}
use Rattle.sasi_model.specs.State.{State}
use Rattle.sasi_model.specs.Step.{step}
use Rattle.sasi_types.specs.declared.statement.Statement.TheVariants.{BeginCompact, CloseCursor, Compact, Fetch, OpenCursor, ShowFiles, StepCompact, Trace}
use Rattle.sasi_tables.specs.TablesView.{memory_of}
use Rattle.sasi_cursors.specs.Cursors.{cursor_of}
use Rattle.sasi_store.specs.CursorCalls.{HasAllListed}
use Rattle.sasi_store.specs.Cursors.{HasNamesOf}
use Rattle.sasi_store.specs.declared.session_state.OpenCursor.{OpenCursor as AnOpenCursor}
use Rattle.sasi_store.specs.Worlds.{PartsServe, World, steps}
use Rattle.sasi_tables.specs.declared.parts.Parts.{Parts}
use Rattle.sasi_store.specs.declared.session_state.SessionState.{SessionState as StoreSession}

-- The parts and the session serve the world after the piece, the reply is that of the world's step, the outcome that of the model's turn, and no number that the piece needs is spent.
pub record Answered (v : View) (p : Parts) (session : StoreSession) (w : World) (piece : Piece) (reply : List ℕ) (outcome : Outcome) : Type 0 where
  pub serves : PartsServe v p session (steps.after w piece)
  pub reply_is : reply ≡ steps.reply w piece
  pub outcome_is : outcome ≡ outcome_of (refused_by grammar_parser w.session (state_of w.layout) piece)
  pub unspent : spent w.layout (steps.moves w piece) ≡ None

-- the piece is a FETCH
abbrev pub IsFetch : ParsedPiece → Type 0
IsFetch (Says (Fetch cursor count)) = ⊤
IsFetch parsed = ⊥

-- COMPACT or STEP COMPACT, which does units
abbrev pub DoesUnits : ParsedPiece → Type 0
DoesUnits (Says (Compact table)) = ⊤
DoesUnits (Says (StepCompact table units)) = ⊤
DoesUnits parsed = ⊥

-- a SELECT, a FETCH, or one that does units, which reads files
abbrev pub ReadsFiles : ParsedPiece → Type 0
ReadsFiles parsed = IsQuery parsed ⊎ IsFetch parsed ⊎ DoesUnits parsed

-- a CLOSE, which deletes files that its cursor alone holds and that no table has any more, or one that does units
abbrev pub DeletesOrBuilds : ParsedPiece → Type 0
DeletesOrBuilds (Says (CloseCursor cursor)) = ⊤
DeletesOrBuilds parsed = DoesUnits parsed

-- A SELECT, a FETCH or SHOW FILES that isn't refused: what it prints comes from the files, or tells of them.
abbrev pub PrintsStored : Parser → SessionState → State → Piece → Type 0
PrintsStored parser session s piece = (IsQuery (read_by parser piece) ⊎ IsFetch (read_by parser piece) ⊎ IsShowFiles (read_by parser piece)) × (refused_by parser session s piece ≡ None)

-- Whatever the files are, from a session of the model and a state: the outcome is that of the model's turn, and so is the reply, but where it comes from the files or tells of them. The store's parts have the definitions and the largest timestamp of the state after the piece, and the store's cursors have the names of those of the model's session after it.
pub record AnsweredButRows (p : Parts) (session : StoreSession) (x : SessionState) (s : State) (piece : Piece) (reply : List ℕ) (outcome : Outcome) : Type 0 where
  pub state_is : IsStateOf (known_in_memory (memory_of p)) (step s piece).state
  pub cursors_are : HasNamesOf session.cursors (session_by grammar_parser x s piece)
  pub outcome_is : outcome ≡ outcome_of (refused_by grammar_parser x s piece)
  pub reply_is : ¬ (PrintsStored grammar_parser x s piece) → reply ≡ (turn_by grammar_parser x s piece).reply

-- SHOW FILES, which tells what is in memory, TRACE, OPEN or BEGIN COMPACT
abbrev pub AsksNoFile : ParsedPiece → Type 0
AsksNoFile (Says ShowFiles) = ⊤
AsksNoFile (Says (Trace on)) = ⊤
AsksNoFile (Says (OpenCursor cursor select)) = ⊤
AsksNoFile (Says (BeginCompact table)) = ⊤
AsksNoFile parsed = ⊥

-- the piece is refused, has no reply, or is one of those
abbrev pub NeedsNoFile : SessionState → State → Piece → Type 0
NeedsNoFile session s piece = IsSome (refused_by grammar_parser session s piece) ⊎ (read piece ≡ Nothing) ⊎ AsksNoFile (read piece)

-- a CLOSE of a cursor whose files its table has still
abbrev pub ClosesListed : Parts → StoreSession → ParsedPiece → Type 0
ClosesListed p session (Says (CloseCursor cursor)) = (c : AnOpenCursor) × (Some c ≡ cursor_of cursor session.cursors) × HasAllListed p c
ClosesListed p session parsed = ⊥

-- **What makes no call on the host**, in a store with these parts and this session
abbrev pub MakesNoCall : Parts → StoreSession → SessionState → State → Piece → Type 0
MakesNoCall p session x s piece = NeedsNoFile x s piece ⊎ ClosesListed p session (read piece)
