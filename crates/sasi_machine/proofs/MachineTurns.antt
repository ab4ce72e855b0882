-- What a machine answers to a session whose cursors it has.
use Rattle.std.proofs.Common.{◌≡◌, ◌⊎◌, ◌-◌, ◌++◌, Bool, true, false, ℕ, List, [], ◌∷◌, drop, length, map, take, Option, None, Some, Result, Ok, Err, IfOk, OnErr, inl, inr, refl, sym, ap, subst, ◌∙◌}
use Rattle.std.proofs.lemmas.List.{drop-map, length-map, take-map}
use Rattle.std.specs.FinMap as map_
use Rattle.std.specs.List.{flat_map}
use Rattle.std.specs.Map.{keys_of}
use Rattle.std.specs.Option.{option_map_or}
use Rattle.sasi_cells.specs.declared.mutation.Mutation.{Mutation}
use Rattle.sasi_cursors.specs.Cursors.{cursor_of, is_open, with_cursor, without, IsOnce}
use Rattle.sasi_model.specs.Abbreviations.{NoCursor, count_line, first_refusal, ok_line, row_line}
use Rattle.sasi_model.specs.Lines.{refusal_line, rows_lines}
use Rattle.sasi_model.specs.Parsers.{grammar_parser}
use Rattle.sasi_model.specs.Pieces.{Piece}
use Rattle.sasi_model.specs.Refusals.{Refusal, cursor_rules}
use Rattle.sasi_model.specs.Sessions.{Cursor, NoTail, Rows, SessionState, Tail, Turn, refused_turn, turn_by, without_cursor}
use Rattle.sasi_model.specs.State.{State, Table as Stored}
use Rattle.sasi_model.specs.Step.{rows_selected, select_lines, select_rows}
use Rattle.sasi_schema.specs.declared.index.NewIndex.{NewIndex}
use Rattle.sasi_schema.specs.declared.table.Table.{Table}
use Rattle.sasi_types.specs.declared.statement.Statement.TheVariants.{OpenCursor}
use Rattle.sasi_machine.specs.MachineView.{AnswersSessions, AnswersTurn, PrintedCursors, Prints, printed_rows}
use Rattle.sasi_machine.specs.Outcome.{outcome_of}
use Rattle.sasi_machine.specs.Prepares.{HasRows, OpensFrom, Prepares, StepsTo, answer_rows, rows_asked}
use Rattle.sasi_machine.specs.declared.outcome.Outcome.{Outcome}
use Rattle.sasi_machine.specs.declared.outcome.Outcome.TheVariants.{Done}
use Rattle.sasi_machine.specs.declared.prepared.CompactAsked.{CompactAsked}
use Rattle.sasi_machine.specs.declared.prepared.FetchAsked.{FetchAsked}
use Rattle.sasi_machine.specs.declared.prepared.OpenAsked.{OpenAsked}
use Rattle.sasi_machine.specs.declared.prepared.Prepared.{Prepared}
use Rattle.sasi_machine.specs.declared.prepared.Prepared.TheVariants.{Answered, Create, Define, Write as Writes, Flush as Flushes, Compact as Compacts, Select as Selects, Trace as Traces, Files as ListsFiles, Open as Opens, Fetch as Fetches, Close as Closes}
use Rattle.sasi_machine.specs.declared.prepared.Selection.{Selection}
use Rattle.sasi_machine.proofs.CursorTurns.{close_refused, close_taken, closed_agrees, fetch_refused, fetch_taken, fetched_agrees, open_refused, open_taken, opened_agrees}
use Rattle.sasi_machine.proofs.SessionTurns.{TurnsSession, compacted_leaves, created_leaves, defined_leaves, flushed_leaves, listed_turns, refused_leaves, selected_turns, traced_turns, written_leaves}

-- what two clauses say of a value together
pub both_ok : {T E : Type 0} (P Q R : T → Type 0) (r : Result T E) → ((x : T) → P x → Q x → R x) → IfOk r P → IfOk r Q → IfOk r R
both_ok P Q R (Ok x) join p q = join x p q
both_ok P Q R (Err e) join p q = tt

-- what holds in any case
pub err_any : {T E : Type 0} (P : Type 0) (r : Result T E) → P → OnErr r P
err_any P (Ok x) p = tt
err_any P (Err e) p = p

-- ---- lines of rows

lines_of : (rows : Rows) → flat_map (λ line. line) (map row_line rows) ≡ flat_map row_line rows
lines_of [] = refl
lines_of (values ∷ rows) = ap (λ l. row_line values ++ l) (lines_of rows)

-- with their number they are what is answered
rows_printed : (rows : Rows) → printed_rows (map row_line rows) ≡ rows_lines rows
rows_printed rows = ap (λ l. l ++ count_line (length (map row_line rows))) (lines_of rows) ∙ ap (λ n. flat_map row_line rows ++ count_line n) (length-map rows row_line)

-- ---- the cursors of a machine

-- the lines are those of the session's cursor of the name
abbrev PrintsRows : List (List ℕ) → Cursor → Type 0
PrintsRows lines cursor = lines ≡ map row_line cursor.rows

-- a turn that is known
as_turn : (turn known : Turn) (cursors : PrintedCursors) (reply : List ℕ) (outcome : Outcome) → turn ≡ known → Prints cursors known.session → reply ≡ known.reply → outcome ≡ outcome_of known.refused
    → AnswersTurn turn cursors reply outcome
as_turn turn known cursors reply outcome is prints reply_is outcome_is =
    subst (λ (t : Turn). AnswersTurn t cursors reply outcome) (sym is) (record { prints = prints; reply_is = reply_is; outcome_is = outcome_is })

-- one that answers as the state's step does, and leaves the cursors
as_stepped : (s : State) (piece : Piece) (after : SessionState → SessionState) (tail : SessionState → Tail) (state : State) (cursors : PrintedCursors) (reply : List ℕ) (outcome : Outcome)
    → ((x : SessionState) → Prints cursors x → Prints cursors (after x)) → TurnsSession s piece after tail → StepsTo s piece state reply outcome → AnswersSessions s piece cursors cursors reply outcome
as_stepped s piece after tail state cursors reply outcome kept turns steps x prints =
    as_turn _ _ cursors reply outcome (turns.turn_is x) (kept x prints) (sym steps.reply_is) steps.outcome_is

-- one that refuses by a rule of cursors
as_refused : (s : State) (piece : Piece) (x : SessionState) (r : Refusal) (cursors : PrintedCursors) (cleared reply : List ℕ) (outcome : Outcome) → turn_by grammar_parser x s piece ≡ refused_turn x r
    → Prints cursors x → cleared ≡ [] → reply ≡ cleared ++ refusal_line r → outcome ≡ outcome_of (Some r) → AnswersTurn (turn_by grammar_parser x s piece) cursors reply outcome
as_refused s piece x r cursors cleared reply outcome refused prints clear reply_is outcome_is =
    as_turn _ _ cursors reply outcome refused prints (reply_is ∙ ap (λ (front : List ℕ). front ++ refusal_line r) clear) outcome_is

-- ---- by what the piece prepared

pub answered_turn : (s : State) (piece : Piece) (cursors : PrintedCursors) (reply : List ℕ) (outcome : Outcome) → Prepares s piece reply (Answered outcome) → AnswersSessions s piece cursors cursors reply outcome
answered_turn s piece cursors reply outcome prepares = as_stepped s piece (λ x. x) _ s cursors reply outcome (λ x prints. prints) (refused_leaves s piece prepares.1) prepares.0

pub created_turn : (s : State) (piece : Piece) (cursors : PrintedCursors) (reply : List ℕ) (t : Table) → Prepares s piece reply (Create t) → AnswersSessions s piece cursors cursors reply Done
created_turn s piece cursors reply t prepares = as_stepped s piece (λ x. x) _ _ cursors reply Done (λ x prints. prints) (created_leaves s piece t prepares.1) prepares.0

pub defined_turn : (s : State) (piece : Piece) (cursors : PrintedCursors) (reply : List ℕ) (new : NewIndex) → Prepares s piece reply (Define new) → AnswersSessions s piece cursors cursors reply Done
defined_turn s piece cursors reply new prepares = as_stepped s piece (λ x. x) _ _ cursors reply Done (λ x prints. prints) (defined_leaves s piece new prepares.1) prepares.0

pub written_turn : (s : State) (piece : Piece) (cursors : PrintedCursors) (reply : List ℕ) (w : Mutation) → Prepares s piece reply (Writes w) → AnswersSessions s piece cursors cursors reply Done
written_turn s piece cursors reply w prepares = as_stepped s piece (λ x. x) _ _ cursors reply Done (λ x prints. prints) (written_leaves s piece w prepares.1) prepares.0

-- what is on the files of a table needs nothing to be done in memory
pub files_turn : (s : State) (piece : Piece) (cursors : PrintedCursors) (reply : List ℕ) (prepared : Prepared) → ((n : ℕ) × (prepared ≡ Flushes n)) ⊎ ((asked : CompactAsked) × (prepared ≡ Compacts asked))
    → Prepares s piece reply prepared → AnswersSessions s piece cursors cursors reply Done
files_turn s piece cursors reply prepared (inl (n, is)) prepares =
    let all = subst (Prepares s piece reply) is prepares in
    as_stepped s piece (λ x. x) _ _ cursors reply Done (λ x prints. prints) (flushed_leaves s piece n all.1) all.0
files_turn s piece cursors reply prepared (inr (asked, is)) prepares =
    let all = subst (Prepares s piece reply) is prepares in
    as_stepped s piece (λ x. x) _ _ cursors reply Done (λ x prints. prints) (compacted_leaves s piece asked all.1) all.0

-- nor does what is told of a session or of the files
pub told_turn : (s : State) (piece : Piece) (cursors : PrintedCursors) (reply : List ℕ) (prepared : Prepared) → ((on : Bool) × (prepared ≡ Traces on)) ⊎ (prepared ≡ ListsFiles)
    → Prepares s piece reply prepared → AnswersSessions s piece cursors cursors reply Done
told_turn s piece cursors reply prepared (inl (on, is)) prepares =
    let all = subst (Prepares s piece reply) is prepares in
    as_stepped s piece (λ x. record x { trace = on }) (λ x. NoTail) s cursors reply Done (λ x prints. prints) (traced_turns s piece on all.1) all.0
told_turn s piece cursors reply prepared (inr is) prepares =
    let all = subst (Prepares s piece reply) is prepares in
    as_stepped s piece (λ x. x) _ _ cursors reply Done (λ x prints. prints) (listed_turns s piece all.2) all.0

-- the lines of the rows of a SELECT are its answer
rows_answered : (s : State) (rows : Selection) → HasRows s rows → printed_rows (map row_line (rows_asked s rows)) ≡ answer_rows s rows
rows_answered s rows has =
    rows_printed (rows_asked s rows)
    ∙ ap (λ (o : Option Stored). rows_lines (option_map_or (λ t. select_rows t.definition rows.select (map_.entries t.partitions)) o [])) has.there
    ∙ ap (λ (o : Option Stored). option_map_or (λ t. select_lines t.definition rows.select (map_.entries t.partitions)) o []) (sym has.there)

-- SELECT
pub selected_turn : (s : State) (piece : Piece) (cursors : PrintedCursors) (cleared reply : List ℕ) (rows : Selection) (lines : List (List ℕ)) → Prepares s piece cleared (Selects rows)
    → lines ≡ map row_line (rows_asked s rows) → reply ≡ cleared ++ printed_rows lines → AnswersSessions s piece cursors cursors reply Done
selected_turn s piece cursors cleared reply rows lines prepares lines_are reply_is =
    as_stepped s piece (λ x. x) _ s cursors reply Done (λ x prints. prints) (selected_turns s piece rows prepares.3)
    (record {
      state_is = prepares.0.state_is;
      reply_is = prepares.0.reply_is ∙ sym (reply_is ∙ ap (λ (front : List ℕ). front ++ printed_rows lines) prepares.1 ∙ ap printed_rows lines_are ∙ rows_answered s rows prepares.2);
      outcome_is = prepares.0.outcome_is;
    })

-- OPEN that is refused
pub opened_none : (s : State) (piece : Piece) (cursors : PrintedCursors) (cleared reply : List ℕ) (outcome : Outcome) (asked : OpenAsked) (r : Refusal) → Prepares s piece cleared (Opens asked)
    → first_refusal (cursor_rules (keys_of cursors) (OpenCursor asked.cursor asked.rows.select)) ≡ Some r → reply ≡ cleared ++ refusal_line r → outcome ≡ outcome_of (Some r)
    → AnswersSessions s piece cursors cursors reply outcome
opened_none s piece cursors cleared reply outcome asked r prepares first reply_is outcome_is x prints =
    as_refused s piece x r cursors cleared reply outcome (open_refused PrintsRows cursors x prints s piece asked prepares.2 r first) prints prepares.1 reply_is outcome_is

-- and one that is taken
pub opened_turn : (s : State) (piece : Piece) (old new : PrintedCursors) (cleared reply : List ℕ) (outcome : Outcome) (asked : OpenAsked) → Prepares s piece cleared (Opens asked) → OpensFrom s asked.cursor asked.rows.select asked
    → first_refusal (cursor_rules (keys_of old) (OpenCursor asked.cursor asked.rows.select)) ≡ None → new ≡ old ++ (asked.cursor, map row_line (rows_asked s asked.rows)) ∷ []
    → reply ≡ cleared ++ ok_line → outcome ≡ Done → AnswersSessions s piece old new reply outcome
opened_turn s piece old new cleared reply outcome asked prepares opens first opened reply_is outcome_is x prints =
    as_turn _ _ new reply outcome (open_taken PrintsRows old x prints s piece asked prepares.2 first)
    (subst (λ cursors. Prints cursors (record x { cursors = x.cursors ++ record { name = asked.cursor; rows = rows_selected s asked.rows.select } ∷ [] })) (sym opened)
    (opened_agrees PrintsRows old x prints asked.cursor (rows_selected s asked.rows.select) (map row_line (rows_asked s asked.rows)) (ap (map row_line) (sym opens.rows_are))))
    (reply_is ∙ ap (λ (front : List ℕ). front ++ ok_line) prepares.1) outcome_is

-- FETCH where none has the name
pub fetched_none : (s : State) (piece : Piece) (cursors : PrintedCursors) (cleared reply : List ℕ) (outcome : Outcome) (asked : FetchAsked) → Prepares s piece cleared (Fetches asked)
    → None ≡ cursor_of asked.cursor cursors → reply ≡ cleared ++ refusal_line (NoCursor asked.cursor) → outcome ≡ outcome_of (Some (NoCursor asked.cursor)) → AnswersSessions s piece cursors cursors reply outcome
fetched_none s piece cursors cleared reply outcome asked prepares none reply_is outcome_is x prints =
    as_refused s piece x (NoCursor asked.cursor) cursors cleared reply outcome (fetch_refused PrintsRows cursors x prints s piece asked prepares.2 none) prints prepares.1 reply_is outcome_is

-- and where one has
pub fetched_turn : (s : State) (piece : Piece) (cursors : PrintedCursors) (cleared reply : List ℕ) (asked : FetchAsked) (lines left : List (List ℕ)) → Prepares s piece cleared (Fetches asked) → IsOnce cursors
    → Some lines ≡ cursor_of asked.cursor cursors → left ≡ drop asked.count lines → reply ≡ cleared ++ printed_rows (take asked.count lines)
    → AnswersSessions s piece cursors (with_cursor asked.cursor cursors left) reply Done
fetched_turn s piece cursors cleared reply asked lines left prepares once is left_are reply_is x prints =
    let taken = fetch_taken PrintsRows cursors x prints s piece asked prepares.2 lines is in
    as_turn _ _ (with_cursor asked.cursor cursors left) reply Done taken.2
    (fetched_agrees PrintsRows cursors x prints asked.cursor asked.count lines left once is
    (λ d met. left_are ∙ ap (drop asked.count) met ∙ drop-map row_line asked.count d.rows))
    (reply_is ∙ ap (λ (front : List ℕ). front ++ printed_rows (take asked.count lines)) prepares.1
    ∙ ap (λ l. printed_rows (take asked.count l)) taken.1 ∙ ap printed_rows (take-map row_line asked.count taken.0.rows) ∙ rows_printed (take asked.count taken.0.rows)) refl

-- CLOSE where none has the name
pub closed_none : (s : State) (piece : Piece) (cursors : PrintedCursors) (cleared reply : List ℕ) (outcome : Outcome) (name : List ℕ) → Prepares s piece cleared (Closes name)
    → is_open name cursors ≡ false → reply ≡ cleared ++ refusal_line (NoCursor name) → outcome ≡ outcome_of (Some (NoCursor name)) → AnswersSessions s piece cursors cursors reply outcome
closed_none s piece cursors cleared reply outcome name prepares free reply_is outcome_is x prints =
    as_refused s piece x (NoCursor name) cursors cleared reply outcome (close_refused PrintsRows cursors x prints s piece name prepares.2 free) prints prepares.1 reply_is outcome_is

-- and where one has
pub closed_turn : (s : State) (piece : Piece) (old new : PrintedCursors) (cleared reply : List ℕ) (name : List ℕ) → Prepares s piece cleared (Closes name) → IsOnce old
    → is_open name old ≡ true → new ≡ without name old → reply ≡ cleared ++ ok_line → AnswersSessions s piece old new reply Done
closed_turn s piece old new cleared reply name prepares once there rest reply_is x prints =
    as_turn _ _ new reply Done (close_taken PrintsRows old x prints s piece name prepares.2 there)
    (subst (λ cursors. Prints cursors (record x { cursors = without_cursor name x.cursors })) (sym rest) (closed_agrees PrintsRows old x prints name once))
    (reply_is ∙ ap (λ (front : List ℕ). front ++ ok_line) prepares.1) refl
