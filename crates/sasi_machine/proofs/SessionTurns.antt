-- What pieces make of a session, and what it answers to them.
use Rattle.std.proofs.Common.{◌≡◌, ◌⊎◌, Bool, true, false, ℕ, List, [], ◌∷◌, take, Option, None, Some, IsSome, inl, inr, refl, ap, sym, ◌∙◌}
use Rattle.std.proofs.lemmas.List.{append-nil}
use Rattle.std.specs.List.{list_any}
use Rattle.std.specs.Option.{option_map_or}
use Rattle.std.specs.Prelude.{◌++◌, cond}
use Rattle.sasi_cells.specs.declared.mutation.Mutation.{Mutation}
use Rattle.sasi_model.specs.Abbreviations.{NoCursor, first_refusal}
use Rattle.sasi_model.specs.Parsers.{grammar_parser}
use Rattle.sasi_model.specs.Pieces.{Piece}
use Rattle.sasi_model.specs.Refusals.{Bad, Nothing, ParsedPiece, Refusal, Says, cursor_rules, read, refusal}
use Rattle.sasi_model.specs.Lines.{rows_lines}
use Rattle.sasi_model.specs.Sessions.{CheckedTail, FilesTail, NoTail, SessionState, Tail, Told, Turn, cursor_names, cursor_refusal, count_asked, ok_turn, refused_turn, reply_by, rows_given, rows_left, tail_bytes, taken_turn, turn_as, turn_by, without_cursor}
use Rattle.sasi_model.specs.State.{State}
use Rattle.sasi_model.specs.Step.{StepResult, answer_of, execute, refused_step, rows_selected, step, step_as, step_by}
use Rattle.sasi_model.specs.Tokens.{same}
use Rattle.sasi_schema.specs.declared.index.NewIndex.{NewIndex}
use Rattle.sasi_schema.specs.declared.table.Table.{Table}
use Rattle.sasi_types.specs.declared.statement.Select.{Select}
use Rattle.sasi_types.specs.declared.statement.Statement.{Statement}
use Rattle.sasi_types.specs.declared.statement.Statement.TheVariants.{BeginCompact, CloseCursor, Compact, CreateTable, CreateIndex, Fetch, Insert, OpenCursor, StepCompact, Update, Delete, Query, Flush, ShowFiles, Trace}
use Rattle.sasi_machine.specs.Prepares.{AsksFiles, ClosesCursor, CompactsTable, CreatesTable, DefinesIndex, FetchesRows, FlushesTable, IsRefusedOrEmpty, OpensCursor, SaysOne, SelectsRows, TurnsTrace, WritesTo, compact_asked}
use Rattle.sasi_machine.specs.Writes.{IsWriting}
use Rattle.sasi_machine.specs.declared.prepared.CompactAsked.{CompactAsked}
use Rattle.sasi_machine.specs.declared.prepared.FetchAsked.{FetchAsked}
use Rattle.sasi_machine.specs.declared.prepared.OpenAsked.{OpenAsked}
use Rattle.sasi_machine.specs.declared.prepared.Selection.{Selection}

-- ---- pieces

-- the piece makes this of each session, and answers as the state's step does, with this tail
pub record TurnsSession (s : State) (piece : Piece) (after : SessionState → SessionState) (tail : SessionState → Tail) : Type 0 where
  pub turn_is : (x : SessionState) → turn_by grammar_parser x s piece ≡ record { session = after x; reply = (step s piece).reply; tail = tail x; refused = (step s piece).refused }

-- it leaves each session, and its reply has no tail
abbrev pub LeavesSession : State → Piece → Type 0
LeavesSession s piece = TurnsSession s piece (λ x. x) (λ x. NoTail)

-- so the reply is that of the model
pub plain_reply : (s : State) (piece : Piece) (after : SessionState → SessionState) → TurnsSession s piece after (λ x. NoTail) → (x : SessionState) (told : Told) → reply_by grammar_parser x s piece told ≡ (step s piece).reply
plain_reply s piece after turns x told = ap (λ (t : Turn). t.reply ++ tail_bytes t.tail told) (turns.turn_is x) ∙ append-nil (step s piece).reply

-- what a step answers, with this tail
abbrev turned : SessionState → StepResult → Tail → Turn
turned session stepped tail = record { session = session; reply = stepped.reply; tail = tail; refused = stepped.refused }

parsed_turns : (s : State) (piece : Piece) (parsed : ParsedPiece) (after : SessionState → SessionState) (tail : SessionState → Tail) → read piece ≡ parsed
    → ((x : SessionState) → turn_as x s parsed ≡ turned (after x) (step_as s parsed) (tail x)) → TurnsSession s piece after tail
unfolding turn_by step_by
parsed_turns s piece parsed after tail reads turns = record {
  turn_is = λ x. ap (turn_as x s) reads ∙ turns x ∙ ap (λ (p : ParsedPiece). turned (after x) (step_as s p) (tail x)) (sym reads);
}

-- ---- refused pieces

refused_turns : (s : State) (parsed : ParsedPiece) → IsSome (step_as s parsed).refused ⊎ (parsed ≡ Nothing) → (x : SessionState) → turn_as x s parsed ≡ turned x (step_as s parsed) NoTail
refused_turns s Nothing is x = refl
refused_turns s (Bad r) is x = refl
refused_turns s (Says statement) (inl some) x = by (refusal s statement) some
  where
    by : (o : Option Refusal) → IsSome (option_map_or (refused_step s) o (execute s statement)).refused
        → option_map_or (refused_turn x) o (option_map_or (refused_turn x) (cursor_refusal x statement) (taken_turn x s statement)) ≡ turned x (option_map_or (refused_step s) o (execute s statement)) NoTail
    by None some = cc
    by (Some r) some = refl
refused_turns s (Says statement) (inr nothing) x = cc

pub refused_leaves : (s : State) (piece : Piece) → IsRefusedOrEmpty s piece → LeavesSession s piece
unfolding step_by
refused_leaves s piece is = parsed_turns s piece (read piece) (λ x. x) (λ x. NoTail) refl (refused_turns s (read piece) is)

-- ---- statements on no cursor

-- one that does so wherever it isn't refused
said_turns : (s : State) (piece : Piece) (P : Statement → Type 0) (after : SessionState → SessionState) (tail : SessionState → Tail) → SaysOne piece P
    → ((statement : Statement) → P statement → refusal s statement ≡ None)
    → ((statement : Statement) → P statement → (x : SessionState)
    → option_map_or (refused_turn x) (cursor_refusal x statement) (taken_turn x s statement) ≡ record { session = after x; reply = answer_of s statement; tail = tail x; refused = None })
    → TurnsSession s piece after tail
said_turns s piece P after tail (statement, says, well, is) taken turns =
    parsed_turns s piece (Says statement) after tail says (λ x. rw (taken statement is) (turns statement is x))

pub created_leaves : (s : State) (piece : Piece) (t : Table) → SaysOne piece (λ statement. CreatesTable s statement t) → LeavesSession s piece
created_leaves s piece t says = said_turns s piece (λ statement. CreatesTable s statement t) (λ x. x) (λ x. NoTail) says taken turns
  where
    taken : (statement : Statement) → CreatesTable s statement t → refusal s statement ≡ None
    taken (CreateTable table columns keys) is = is.0
    taken statement is = absurd is

    turns : (statement : Statement) → CreatesTable s statement t → (x : SessionState)
        → option_map_or (refused_turn x) (cursor_refusal x statement) (taken_turn x s statement) ≡ record { session = x; reply = answer_of s statement; tail = NoTail; refused = None }
    turns (CreateTable table columns keys) is x = refl
    turns statement is x = absurd is

pub defined_leaves : (s : State) (piece : Piece) (new : NewIndex) → SaysOne piece (λ statement. DefinesIndex s statement new) → LeavesSession s piece
defined_leaves s piece new says = said_turns s piece (λ statement. DefinesIndex s statement new) (λ x. x) (λ x. NoTail) says taken turns
  where
    taken : (statement : Statement) → DefinesIndex s statement new → refusal s statement ≡ None
    taken (CreateIndex name table column class options stepped) is = is.0
    taken statement is = absurd is

    turns : (statement : Statement) → DefinesIndex s statement new → (x : SessionState)
        → option_map_or (refused_turn x) (cursor_refusal x statement) (taken_turn x s statement) ≡ record { session = x; reply = answer_of s statement; tail = NoTail; refused = None }
    turns (CreateIndex name table column class options stepped) is x = refl
    turns statement is x = absurd is

pub written_leaves : (s : State) (piece : Piece) (w : Mutation) → SaysOne piece (λ statement. WritesTo s statement w) → LeavesSession s piece
written_leaves s piece w says = said_turns s piece (λ statement. WritesTo s statement w) (λ x. x) (λ x. NoTail) says (λ statement is. is.taken) (λ statement is. turns statement is.writing)
  where
    turns : (statement : Statement) → IsWriting statement → (x : SessionState)
        → option_map_or (refused_turn x) (cursor_refusal x statement) (taken_turn x s statement) ≡ record { session = x; reply = answer_of s statement; tail = NoTail; refused = None }
    turns (Insert table columns values time) is x = refl
    turns (Update table time sets key value) is x = refl
    turns (Delete table columns time key value) is x = refl
    turns statement is x = absurd is

pub flushed_leaves : (s : State) (piece : Piece) (table : ℕ) → SaysOne piece (λ statement. FlushesTable s statement table) → LeavesSession s piece
flushed_leaves s piece table says = said_turns s piece (λ statement. FlushesTable s statement table) (λ x. x) (λ x. NoTail) says taken turns
  where
    taken : (statement : Statement) → FlushesTable s statement table → refusal s statement ≡ None
    taken (Flush name) is = is.0
    taken statement is = absurd is

    turns : (statement : Statement) → FlushesTable s statement table → (x : SessionState)
        → option_map_or (refused_turn x) (cursor_refusal x statement) (taken_turn x s statement) ≡ record { session = x; reply = answer_of s statement; tail = NoTail; refused = None }
    turns (Flush name) is x = refl
    turns statement is x = absurd is

pub compacted_leaves : (s : State) (piece : Piece) (asked : CompactAsked) → SaysOne piece (λ statement. CompactsTable s statement asked) → LeavesSession s piece
compacted_leaves s piece asked says = said_turns s piece (λ statement. CompactsTable s statement asked) (λ x. x) (λ x. NoTail) says (λ statement is. is.taken) (λ statement is. turns statement is.table is.asked_is)
  where
    turns : (statement : Statement) (table : List ℕ) → compact_asked statement ≡ Some (table, Some asked.steps) → (x : SessionState)
        → option_map_or (refused_turn x) (cursor_refusal x statement) (taken_turn x s statement) ≡ record { session = x; reply = answer_of s statement; tail = NoTail; refused = None }
    turns (Compact name) table is x = refl
    turns (BeginCompact name) table is x = refl
    turns (StepCompact name units) table is x = refl
    turns statement table is x = cc

-- TRACE turns it on or off
pub traced_turns : (s : State) (piece : Piece) (on : Bool) → SaysOne piece (λ statement. TurnsTrace s statement on) → TurnsSession s piece (λ x. record x { trace = on }) (λ x. NoTail)
traced_turns s piece on says = said_turns s piece (λ statement. TurnsTrace s statement on) (λ x. record x { trace = on }) (λ x. NoTail) says taken turns
  where
    taken : (statement : Statement) → TurnsTrace s statement on → refusal s statement ≡ None
    taken (Trace was) is = is.0
    taken statement is = absurd is

    turns : (statement : Statement) → TurnsTrace s statement on → (x : SessionState)
        → option_map_or (refused_turn x) (cursor_refusal x statement) (taken_turn x s statement) ≡ record { session = record x { trace = on }; reply = answer_of s statement; tail = NoTail; refused = None }
    turns (Trace was) is x = ap (λ (b : Bool). turned (record x { trace = b }) (execute s (Trace was)) NoTail) is.1
    turns statement is x = absurd is

-- and where it is on the reply of a SELECT has a tail
pub selected_turns : (s : State) (piece : Piece) (rows : Selection) → SaysOne piece (λ statement. SelectsRows s statement rows) → TurnsSession s piece (λ x. x) (λ x. cond x.trace CheckedTail NoTail)
selected_turns s piece rows says = said_turns s piece (λ statement. SelectsRows s statement rows) (λ x. x) (λ x. cond x.trace CheckedTail NoTail) says taken turns
  where
    taken : (statement : Statement) → SelectsRows s statement rows → refusal s statement ≡ None
    taken (Query select) is = is.taken
    taken statement is = absurd is

    turns : (statement : Statement) → SelectsRows s statement rows → (x : SessionState)
        → option_map_or (refused_turn x) (cursor_refusal x statement) (taken_turn x s statement) ≡ record { session = x; reply = answer_of s statement; tail = cond x.trace CheckedTail NoTail; refused = None }
    turns (Query select) is x = refl
    turns statement is x = absurd is

-- and that of SHOW FILES has the lines of files
pub listed_turns : (s : State) (piece : Piece) → SaysOne piece (AsksFiles s) → TurnsSession s piece (λ x. x) (λ x. FilesTail)
listed_turns s piece says = said_turns s piece (AsksFiles s) (λ x. x) (λ x. FilesTail) says taken turns
  where
    taken : (statement : Statement) → AsksFiles s statement → refusal s statement ≡ None
    taken ShowFiles is = is
    taken statement is = absurd is

    turns : (statement : Statement) → AsksFiles s statement → (x : SessionState)
        → option_map_or (refused_turn x) (cursor_refusal x statement) (taken_turn x s statement) ≡ record { session = x; reply = answer_of s statement; tail = FilesTail; refused = None }
    turns ShowFiles is x = refl
    turns statement is x = absurd is

-- a number alone is told, or the files as well: the tail of a SELECT is the same
pub tail_checked : (trace : Bool) (told : Told) → tail_bytes (cond trace CheckedTail NoTail) told ≡ tail_bytes (cond trace CheckedTail NoTail) (record { checked = told.checked; files = [] })
tail_checked true told = refl
tail_checked false told = refl

-- ---- statements on cursors

-- one that a rule of cursors refuses
ruled_turn : (s : State) (piece : Piece) (statement : Statement) (x : SessionState) (r : Refusal) → read piece ≡ Says statement → refusal s statement ≡ None
    → first_refusal (cursor_rules (cursor_names x) statement) ≡ Some r → turn_by grammar_parser x s piece ≡ refused_turn x r
unfolding turn_by
ruled_turn s piece statement x r says taken first = ap (turn_as x s) says ∙ rw (taken, first) refl

-- OPEN
pub opened_refused : (s : State) (piece : Piece) (asked : OpenAsked) → SaysOne piece (λ statement. OpensCursor s statement asked) → (x : SessionState) (r : Refusal)
    → first_refusal (cursor_rules (cursor_names x) (OpenCursor asked.cursor asked.rows.select)) ≡ Some r → turn_by grammar_parser x s piece ≡ refused_turn x r
opened_refused s piece asked (statement, says, well, is) x r first = by statement says is
  where
    by : (statement : Statement) → read piece ≡ Says statement → OpensCursor s statement asked → turn_by grammar_parser x s piece ≡ refused_turn x r
    by (OpenCursor cursor select) says is = ruled_turn s piece (OpenCursor cursor select) x r says is.taken
        (ap (λ name. first_refusal (cursor_rules (cursor_names x) (OpenCursor name select))) (sym is.cursor_is)
        ∙ ap (λ rows. first_refusal (cursor_rules (cursor_names x) (OpenCursor asked.cursor rows))) (sym is.select_is) ∙ first)
    by statement says is = absurd is

-- where no cursor is open, none has the name
pub none_named : (x : SessionState) (name : List ℕ) → x.cursors ≡ [] → list_any (same name) (cursor_names x) ≡ false
none_named x name empty = rw empty refl

-- FETCH, where no cursor has the name
pub fetched_refused : (s : State) (piece : Piece) (asked : FetchAsked) → SaysOne piece (λ statement. FetchesRows s statement asked) → (x : SessionState)
    → list_any (same asked.cursor) (cursor_names x) ≡ false → turn_by grammar_parser x s piece ≡ refused_turn x (NoCursor asked.cursor)
fetched_refused s piece asked (statement, says, well, is) x none = by statement says is
  where
    by : (statement : Statement) → read piece ≡ Says statement → FetchesRows s statement asked → turn_by grammar_parser x s piece ≡ refused_turn x (NoCursor asked.cursor)
    by (Fetch cursor count) says is = ruled_turn s piece (Fetch cursor count) x (NoCursor asked.cursor) says is.0
        (ap (λ name. first_refusal (cursor_rules (cursor_names x) (Fetch name count))) (sym is.1) ∙ rw none refl)
    by statement says is = absurd is

-- CLOSE, where no cursor has the name
pub closed_refused : (s : State) (piece : Piece) (name : List ℕ) → SaysOne piece (λ statement. ClosesCursor s statement name) → (x : SessionState)
    → list_any (same name) (cursor_names x) ≡ false → turn_by grammar_parser x s piece ≡ refused_turn x (NoCursor name)
closed_refused s piece name (statement, says, well, is) x none = by statement says is
  where
    by : (statement : Statement) → read piece ≡ Says statement → ClosesCursor s statement name → turn_by grammar_parser x s piece ≡ refused_turn x (NoCursor name)
    by (CloseCursor cursor) says is = ruled_turn s piece (CloseCursor cursor) x (NoCursor name) says is.0
        (ap (λ name. first_refusal (cursor_rules (cursor_names x) (CloseCursor name))) (sym is.1) ∙ rw none refl)
    by statement says is = absurd is

-- ---- what no rule of cursors refuses

-- a statement on cursors that is taken
taken_turns : (s : State) (piece : Piece) (statement : Statement) (x : SessionState) → read piece ≡ Says statement → refusal s statement ≡ None
    → first_refusal (cursor_rules (cursor_names x) statement) ≡ None → turn_by grammar_parser x s piece ≡ taken_turn x s statement
unfolding turn_by
taken_turns s piece statement x says taken first = ap (turn_as x s) says ∙ rw (taken, first) refl

-- OPEN: one cursor more, with the rows that the SELECT has now
pub opened_turns : (s : State) (piece : Piece) (asked : OpenAsked) → SaysOne piece (λ statement. OpensCursor s statement asked) → (x : SessionState)
    → first_refusal (cursor_rules (cursor_names x) (OpenCursor asked.cursor asked.rows.select)) ≡ None
    → turn_by grammar_parser x s piece ≡ ok_turn (record x { cursors = x.cursors ++ record { name = asked.cursor; rows = rows_selected s asked.rows.select } ∷ [] })
opened_turns s piece asked (statement, says, well, is) x first = by statement says is
  where
    taken : List ℕ → Select → Turn
    taken cursor select = ok_turn (record x { cursors = x.cursors ++ record { name = cursor; rows = rows_selected s select } ∷ [] })

    by : (statement : Statement) → read piece ≡ Says statement → OpensCursor s statement asked → turn_by grammar_parser x s piece ≡ taken asked.cursor asked.rows.select
    by (OpenCursor cursor select) says is =
        taken_turns s piece (OpenCursor cursor select) x says is.taken
        (ap (λ name. first_refusal (cursor_rules (cursor_names x) (OpenCursor name select))) (sym is.cursor_is)
        ∙ ap (λ rows. first_refusal (cursor_rules (cursor_names x) (OpenCursor asked.cursor rows))) (sym is.select_is) ∙ first)
        ∙ ap (λ name. taken name select) (sym is.cursor_is) ∙ ap (taken asked.cursor) (sym is.select_is)
    by statement says is = absurd is

-- FETCH: the next rows of the cursor, which it no longer has
pub fetched_turns : (s : State) (piece : Piece) (asked : FetchAsked) → SaysOne piece (λ statement. FetchesRows s statement asked) → (x : SessionState)
    → list_any (same asked.cursor) (cursor_names x) ≡ true
    → turn_by grammar_parser x s piece ≡ record {
      session = record x { cursors = rows_given asked.cursor asked.count x.cursors };
      reply = rows_lines (take asked.count (rows_left asked.cursor x.cursors));
      tail = NoTail;
      refused = None;
    }
fetched_turns s piece asked (statement, says, well, is) x there = by statement says is
  where
    taken : List ℕ → ℕ → Turn
    taken cursor count = record {
      session = record x { cursors = rows_given cursor count x.cursors };
      reply = rows_lines (take count (rows_left cursor x.cursors));
      tail = NoTail;
      refused = None;
    }

    by : (statement : Statement) → read piece ≡ Says statement → FetchesRows s statement asked → turn_by grammar_parser x s piece ≡ taken asked.cursor asked.count
    by (Fetch cursor count) says is =
        taken_turns s piece (Fetch cursor count) x says is.0
        (ap (λ name. first_refusal (cursor_rules (cursor_names x) (Fetch name count))) (sym is.1) ∙ rw there refl)
        ∙ ap (λ name. taken name (count_asked count)) (sym is.1) ∙ ap (taken asked.cursor) (sym is.2)
    by statement says is = absurd is

-- CLOSE: the cursor is open no longer
pub closed_turns : (s : State) (piece : Piece) (name : List ℕ) → SaysOne piece (λ statement. ClosesCursor s statement name) → (x : SessionState)
    → list_any (same name) (cursor_names x) ≡ true → turn_by grammar_parser x s piece ≡ ok_turn (record x { cursors = without_cursor name x.cursors })
closed_turns s piece name (statement, says, well, is) x there = by statement says is
  where
    by : (statement : Statement) → read piece ≡ Says statement → ClosesCursor s statement name
        → turn_by grammar_parser x s piece ≡ ok_turn (record x { cursors = without_cursor name x.cursors })
    by (CloseCursor cursor) says is =
        taken_turns s piece (CloseCursor cursor) x says is.0
        (ap (λ other. first_refusal (cursor_rules (cursor_names x) (CloseCursor other))) (sym is.1) ∙ rw there refl)
        ∙ ap (λ other. ok_turn (record x { cursors = without_cursor other x.cursors })) (sym is.1)
    by statement says is = absurd is
