-- What a machine is seen as, and what it answers to a session.
use Rattle.std.specs.Prelude.{◌≡◌, ℕ, List, ◌++◌, length, map, refl}
use Rattle.std.specs.Coded.{Coded, code_by, coded×, coded_list}
use Rattle.std.specs.List.{flat_map}
use Rattle.sasi_cursors.specs.Agreement.{Agrees}
use Rattle.sasi_model.specs.Abbreviations.{count_line, row_line}
use Rattle.sasi_model.specs.Codes.{coded_bytes, coded_state}
use Rattle.sasi_model.specs.Parsers.{grammar_parser}
use Rattle.sasi_model.specs.Pieces.{Piece}
use Rattle.sasi_model.specs.Sessions.{Cursor, SessionState, Turn, turn_by}
use Rattle.sasi_model.specs.State.{State}
use Rattle.sasi_machine.specs.Outcome.{outcome_of}
use Rattle.sasi_machine.specs.declared.outcome.Outcome.{Outcome}

-- the open cursors by name, the one opened first in front, each with the lines of the rows that it still has to give
abbrev pub PrintedCursors : Type 0
PrintedCursors = List (List ℕ × List (List ℕ))

pub record MachineView : Type 0 where
  pub state : State
  pub cursors : PrintedCursors

abbrev pub coded_machine : Coded MachineView
coded_machine = code_by (State × PrintedCursors) (coded× coded_state (coded_list (coded× coded_bytes (coded_list coded_bytes)))) (λ m. (m.state, m.cursors)) (λ p. record { state = p.0; cursors = p.1 }) (λ _. refl)

-- the lines of rows, one behind another, and a line with their number
abbrev pub printed_rows : List (List ℕ) → List ℕ
printed_rows lines = flat_map (λ line. line) lines ++ count_line (length lines)

-- a session has these cursors: the names are the same in the same order, and the lines are those of its rows
abbrev pub Prints : PrintedCursors → SessionState → Type 0
Prints cursors session = Agrees (λ (cursor : Cursor). cursor.name) (λ lines (cursor : Cursor). lines ≡ map row_line cursor.rows) cursors session.cursors

-- the answer of a turn: the session after it has these cursors, the reply is its reply but for the tail, and the outcome that of its refusal
pub record AnswersTurn (turn : Turn) (cursors : PrintedCursors) (reply : List ℕ) (outcome : Outcome) : Type 0 where
  pub prints : Prints cursors turn.session
  pub reply_is : reply ≡ turn.reply
  pub outcome_is : outcome ≡ outcome_of turn.refused

-- to each session that had the first cursors, the piece is answered so
abbrev pub AnswersSessions : State → Piece → PrintedCursors → PrintedCursors → List ℕ → Outcome → Type 0
AnswersSessions s piece cursors_old cursors_new reply outcome =
    (session : SessionState) → Prints cursors_old session → AnswersTurn (turn_by grammar_parser session s piece) cursors_new reply outcome
