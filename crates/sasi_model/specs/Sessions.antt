-- What a session adds to the step of a piece: whether TRACE is on, the open cursors, and the tail of a reply.
use Rattle.std.specs.Prelude.{ℕ, pos, Bool, false, codes, if◌then◌else◌, ◌+◌, drop, take, is_some, List, [], ◌∷◌, ◌++◌, map, Option, None, Some}
use Rattle.std.specs.Fmt.{decimal}
use Rattle.std.specs.List.{find}
use Rattle.std.specs.Map.{lookup}
use Rattle.std.specs.Option.{option_map_or}
use Rattle.sasi_types.specs.declared.literal.Number.{Number}
use Rattle.sasi_types.specs.declared.literal.Number.TheVariants.{Fits}
use Rattle.sasi_types.specs.declared.statement.Statement.{Statement}
use Rattle.sasi_types.specs.declared.statement.Statement.TheVariants.{OpenCursor, Fetch, CloseCursor, Query, ShowFiles, Trace}
use Rattle.sasi_types.specs.declared.value.Value.{Value}
use Rattle.sasi_model.specs.Pieces.{Piece}
use Rattle.sasi_model.specs.State.{State}
use Rattle.sasi_model.specs.Parsers.{Parser}
use Rattle.sasi_model.specs.Refusals.{ParsedPiece, Refusal, Says, cursor_rules, read_by, refusal}
use Rattle.sasi_model.specs.Lines.{files_lines, line, refusal_line, rows_lines}
use Rattle.sasi_model.specs.Step.{answer_of, rows_selected, step_as, step_by}
use Rattle.sasi_model.specs.Tokens.{same}

-- ---- the session

-- the rows of a table, as they are printed
abbrev pub Rows : Type 0
Rows = List (List (Option Value))

-- an open cursor: its name, and the rows that it still has to give
pub record Cursor : Type 0 where
  pub name : List ℕ
  pub rows : Rows

-- what a session has beside the state
pub record SessionState : Type 0 where
  pub trace : Bool
  -- the open cursors, the one opened first in front
  pub cursors : List Cursor

-- at the start of a run TRACE is off, and no cursor is open
abbrev pub new_session : SessionState
new_session = record { trace = false; cursors = [] }

abbrev pub cursor_names : SessionState → List (List ℕ)
cursor_names session = map (λ c. c.name) session.cursors

-- ---- cursors

-- the rows that a cursor has left, none where no cursor has the name
abbrev pub rows_left : List ℕ → List Cursor → Rows
rows_left name cursors = option_map_or (λ (c : Cursor). c.rows) (find (λ (c : Cursor). same name c.name) cursors) []

-- each cursor of the name has given its first rows
abbrev pub rows_given : List ℕ → ℕ → List Cursor → List Cursor
rows_given name count cursors = map (λ (c : Cursor). if same name c.name then record c { rows = drop count c.rows } else c) cursors

-- without those of the name
abbrev pub without_cursor : List ℕ → List Cursor → List Cursor
without_cursor name [] = []
without_cursor name (c ∷ cs) = if same name c.name then without_cursor name cs else c ∷ without_cursor name cs

-- how many rows a FETCH asks for, or units a STEP; 0 for a negative number and a wide one, which are refused
abbrev pub count_asked : Number → ℕ
count_asked (Fits (pos n)) = n
count_asked number = 0

-- ---- the tail of a reply

-- What ends a reply beside the model's bytes: nothing, the line with the number of candidates that a SELECT checked, or the lines of files. They
-- depend on how the rows are stored.
pub data Tail : Type 0 where
  NoTail : Tail
  CheckedTail : Tail
  FilesTail : Tail

-- what is told of a store, of which the model knows nothing
pub record Told : Type 0 where
  -- how many candidates were checked
  pub checked : ℕ
  -- a text for each file
  pub files : List (List ℕ)

-- its bytes, where this is told
abbrev pub tail_bytes : Tail → Told → List ℕ
tail_bytes NoTail told = []
tail_bytes CheckedTail told = line (codes "checked " ++ decimal told.checked)
tail_bytes FilesTail told = files_lines told.files

-- ---- one piece

-- What a piece makes of a session, and what it answers. The state is that after its step.
pub record Turn : Type 0 where
  pub session : SessionState
  -- the reply but for its tail
  pub reply : List ℕ
  pub tail : Tail
  pub refused : Option Refusal

-- a refused piece leaves the session
abbrev pub refused_turn : SessionState → Refusal → Turn
refused_turn session r = record { session = session; reply = refusal_line r; tail = NoTail; refused = Some r }

-- the answer of the state's step, with this tail
abbrev pub plain_turn : SessionState → State → Statement → Tail → Turn
plain_turn session s statement tail = record { session = session; reply = answer_of s statement; tail = tail; refused = None }

-- `ok`, and this session
abbrev pub ok_turn : SessionState → Turn
ok_turn session = record { session = session; reply = line (codes "ok"); tail = NoTail; refused = None }

-- A statement that isn't refused. OPEN makes a cursor of the rows that the SELECT has now; FETCH gives the first of those that are left; CLOSE ends the cursor.
-- A SELECT tells what it checked while TRACE is on, and SHOW FILES tells of the files. The others leave the session, in which no task stands.
abbrev pub taken_turn : SessionState → State → Statement → Turn
taken_turn session s (OpenCursor cursor select) = ok_turn (record session { cursors = session.cursors ++ record { name = cursor; rows = rows_selected s select } ∷ [] })
taken_turn session s (Fetch cursor count) = record {
  session = record session { cursors = rows_given cursor (count_asked count) session.cursors };
  reply = rows_lines (take (count_asked count) (rows_left cursor session.cursors));
  tail = NoTail;
  refused = None;
}
taken_turn session s (CloseCursor cursor) = ok_turn (record session { cursors = without_cursor cursor session.cursors })
taken_turn session s (Trace on) = ok_turn (record session { trace = on })
taken_turn session s (Query select) = plain_turn session s (Query select) (if session.trace then CheckedTail else NoTail)
taken_turn session s ShowFiles = plain_turn session s ShowFiles FilesTail
taken_turn session s statement = plain_turn session s statement NoTail

-- the refusal by the names of the open cursors
abbrev pub cursor_refusal : SessionState → Statement → Option Refusal
cursor_refusal session statement = lookup (λ applies. applies) (cursor_rules (cursor_names session) statement)

-- the rules of cursors come after the others
abbrev pub turn_as : SessionState → State → ParsedPiece → Turn
turn_as session s (Says statement) =
    option_map_or (refused_turn session) (refusal s statement) (option_map_or (refused_turn session) (cursor_refusal session statement) (taken_turn session s statement))
turn_as session s parsed = record { session = session; reply = (step_as s parsed).reply; tail = NoTail; refused = (step_as s parsed).refused }

unfoldable pub turn_by : Parser → SessionState → State → Piece → Turn
turn_by parser session s piece = turn_as session s (read_by parser piece)

-- the session after a piece
abbrev pub session_by : Parser → SessionState → State → Piece → SessionState
session_by parser session s piece = (turn_by parser session s piece).session

-- the refusal, if it is refused
abbrev pub refused_by : Parser → SessionState → State → Piece → Option Refusal
refused_by parser session s piece = (turn_by parser session s piece).refused

-- the whole reply to a piece, where this is told
abbrev pub reply_by : Parser → SessionState → State → Piece → Told → List ℕ
reply_by parser session s piece told = (turn_by parser session s piece).reply ++ tail_bytes (turn_by parser session s piece).tail told

-- ---- pieces, one after another

-- the session after them
abbrev pub sessions_by : Parser → SessionState → State → List Piece → SessionState
sessions_by parser session s [] = session
sessions_by parser session s (p ∷ ps) = sessions_by parser (session_by parser session s p) (step_by parser s p).state ps

-- how many of them are refused
abbrev pub refusals_by : Parser → SessionState → State → List Piece → ℕ
refusals_by parser session s [] = 0
refusals_by parser session s (p ∷ ps) = (if is_some (refused_by parser session s p) then 1 else 0) + refusals_by parser (session_by parser session s p) (step_by parser s p).state ps
