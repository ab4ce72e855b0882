-- The moves of a piece in a world: those of its layout, or moves of its session, for a cursor or its tasks, which leave the state.
use Rattle.std.proofs.Common.{◌≡◌, ◌⊎◌, ◌++◌, ℕ, Bool, true, false, cond, List, [], ◌∷◌, map, Option, None, Some, refl, sym, ◌∙◌, ap, subst, inl, inr, ⊎_elim}
use Rattle.std.specs.List.{AllByRecursion}
use Rattle.std.specs.Map.{lookup}
use Rattle.std.specs.Option.{option_map_or}
use Rattle.sasi_model.specs.Asked.{NoChange, parsed_asks}
use Rattle.sasi_model.specs.Parsers.{grammar_parser}
use Rattle.sasi_model.specs.Pieces.{Piece}
use Rattle.sasi_model.specs.Refusals.{Known, ParsedPiece, Refusal, Says, read, rules}
use Rattle.sasi_model.specs.Sessions.{count_asked, refused_by}
use Rattle.sasi_model.specs.State.{State}
use Rattle.sasi_model.specs.Step.{step}
use Rattle.sasi_schema.specs.Numbers.{number_of_table}
use Rattle.sasi_types.specs.declared.statement.Statement.TheVariants.{BeginCompact, OpenCursor, StepCompact}
use Rattle.sasi_types.specs.declared.statement.Statement.TheVariants as statement
use Rattle.sasi_layout.specs.Layout.{Layout, state_of}
use Rattle.sasi_layout.specs.Moves.{AreLegal, Compact, Create, Define, Draw, Flush, Freeze, Move, Put, after_moves, moved_state, states}
use Rattle.sasi_layout.specs.Statements.{definitions_of, known_in, moves_asked, moves_of}
use Rattle.sasi_layout.proofs.LayoutLaws.{moves_state}
use Rattle.sasi_layout.proofs.MovesInOrder.{legal_front}
use Rattle.sasi_layout.proofs.StatementLaws.{step_state_by}
use Rattle.sasi_tables.specs.Freezing.{freeze_where, holds_any}
use Rattle.sasi_tasks.specs.Tasks.{Task, begin_moves, begins, compact_moves, end_moves, ends_in, running, step_moves, whole_moves}
use Rattle.sasi_store.specs.Worlds.{World, moves_in, session_moves, steps, unless_refused}
use Rattle.sasi_run.proofs.ValidWorlds.{IsValidWorld, after_valid, moves_legal}

-- ---- moves that leave the state

-- the move leaves the state
abbrev pub leaves : Move → Bool
leaves (Put m) = false
leaves (Freeze table) = true
leaves (Flush table) = true
leaves (Create d) = false
leaves (Define table index) = false
leaves Draw = true
leaves (Compact c) = true

leaves_state : (m : Move) (s : State) → leaves m ≡ true → moved_state m s ≡ s
leaves_state (Freeze table) s keep = refl
leaves_state (Flush table) s keep = refl
leaves_state Draw s keep = refl
leaves_state (Compact c) s keep = refl
leaves_state (Put m) s keep = cc
leaves_state (Create d) s keep = cc
leaves_state (Define table index) s keep = cc

-- moves that leave it
abbrev pub KeepState : List Move → Type 0
KeepState ms = AllByRecursion (λ m. leaves m ≡ true) ms

pub states_kept : (ms : List Move) (s : State) → KeepState ms → states ms s ≡ s
states_kept [] s keep = refl
states_kept (m ∷ ms) s keep = ap (states ms) (leaves_state m s keep.0) ∙ states_kept ms s keep.1

-- ---- the moves of a session

unchanged : (o : Option Refusal) → option_map_or (λ (r : Refusal). NoChange) o NoChange ≡ NoChange
unchanged None = refl
unchanged (Some r) = refl

both_keep : (xs ys : List Move) → KeepState xs → KeepState ys → KeepState (xs ++ ys)
both_keep [] ys first second = second
both_keep (x ∷ xs) ys first second = (first.0, both_keep xs ys first.1 second)

draws_keep : (ks : List Task) → KeepState (map (λ (k : Task). Draw) ks)
draws_keep [] = tt
draws_keep (k ∷ ks) = (refl, draws_keep ks)

compact_keep : (table : ℕ) (l : Layout) (ks : List Task) → KeepState (compact_moves table l ks)
compact_keep table l ks = both_keep (end_moves table ks) (whole_moves table (after_moves (end_moves table ks) l)) (ends (running table ks)) (wholes _)
  where
    ends : (o : Option Task) → KeepState (option_map_or (λ (k : Task). Compact k.compaction ∷ []) o [])
    ends None = tt
    ends (Some k) = (refl, tt)

    wholes : (o : Option Task) → KeepState (option_map_or (λ (k : Task). Draw ∷ Compact k.compaction ∷ []) o [])
    wholes None = tt
    wholes (Some k) = (refl, (refl, tt))

step_keep : (table units : ℕ) (l : Layout) (ks : List Task) → KeepState (step_moves table units l ks)
step_keep table units l ks = by (running table ks)
  where
    ends : (b : Bool) (k : Task) → KeepState (cond b (Compact k.compaction ∷ []) [])
    ends true k = (refl, tt)
    ends false k = tt

    by : (o : Option Task) → KeepState (option_map_or (λ (k : Task). cond (ends_in units l k) (Compact k.compaction ∷ []) []) o [])
    by None = tt
    by (Some k) = ends (ends_in units l k) k

freeze_keeps : (table : ℕ) (b : Bool) → KeepState (cond b (Freeze table ∷ []) [] ++ [])
freeze_keeps table true = (refl, tt)
freeze_keeps table false = tt

-- **A piece adds moves that leave the state, and asks for no change of tables, or it adds nothing.**
abbrev AddsQuiet : World → ParsedPiece → Type 0
AddsQuiet w parsed = KeepState (session_moves w parsed) × ((known : Known) → parsed_asks known parsed ≡ NoChange)

adds : (w : World) (parsed : ParsedPiece) → (session_moves w parsed ≡ []) ⊎ AddsQuiet w parsed
adds w (Says (OpenCursor cursor select)) = inr (by (number_of_table select.table (definitions_of w.layout)), λ known. unchanged (lookup (λ applies. applies) (rules known (OpenCursor cursor select))))
  where
    by : (o : Option ℕ) → KeepState (option_map_or (λ number. freeze_where number w.layout) o [] ++ [])
    by None = tt
    by (Some n) = freeze_keeps n (holds_any n w.layout)
adds w (Says (statement.Compact table)) = inr (by (number_of_table table (definitions_of w.layout)), λ known. unchanged (lookup (λ applies. applies) (rules known (statement.Compact table))))
  where
    by : (o : Option ℕ) → KeepState (option_map_or (λ n. compact_moves n w.layout w.tasks) o [])
    by None = tt
    by (Some n) = compact_keep n w.layout w.tasks
adds w (Says (BeginCompact table)) = inr (by (number_of_table table (definitions_of w.layout)), λ known. unchanged (lookup (λ applies. applies) (rules known (BeginCompact table))))
  where
    by : (o : Option ℕ) → KeepState (option_map_or (λ n. begin_moves n w.layout w.tasks) o [])
    by None = tt
    by (Some n) = draws_keep (begins n w.layout w.tasks)
adds w (Says (StepCompact table units)) = inr (by (number_of_table table (definitions_of w.layout)), λ known. unchanged (lookup (λ applies. applies) (rules known (StepCompact table units))))
  where
    by : (o : Option ℕ) → KeepState (option_map_or (λ n. step_moves n (count_asked units) w.layout w.tasks) o [])
    by None = tt
    by (Some n) = step_keep n (count_asked units) w.layout w.tasks
adds w parsed = inl refl

-- ---- the moves of a piece

-- they leave the state, and the layout has none for the piece
pub record AreOfSession (l : Layout) (piece : Piece) (ms : List Move) : Type 0 where
  pub keep : KeepState ms
  pub others : moves_of l piece ≡ []

module _ (w : World) (piece : Piece) where
  abbrev refused : Option Refusal
  refused = refused_by grammar_parser w.session (state_of w.layout) piece

  -- **The moves of a piece are those of the layout, or those of its session.**
  pub moves_are : (moves_in grammar_parser w piece ≡ moves_of w.layout piece) ⊎ AreOfSession w.layout piece (moves_in grammar_parser w piece)
  moves_are = ⊎_elim (λ none. inl (ap (λ (ms : List Move). unless_refused refused ms [] ++ moves_of w.layout piece) none ∙ plain refused)) (λ quiet. by quiet refused) (adds w (read piece))
    where
      plain : (o : Option Refusal) → unless_refused o [] [] ++ moves_of w.layout piece ≡ moves_of w.layout piece
      plain None = refl
      plain (Some r) = refl

      by : AddsQuiet w (read piece) → (o : Option Refusal) → (unless_refused o (session_moves w (read piece)) [] ++ moves_of w.layout piece ≡ moves_of w.layout piece)
          ⊎ AreOfSession w.layout piece (unless_refused o (session_moves w (read piece)) [] ++ moves_of w.layout piece)
      by quiet (Some r) = inl refl
      by (keep, asks) None =
          let others : moves_of w.layout piece ≡ [] = ap (moves_asked w.layout) (asks (known_in w.layout)) in
          inr (record { keep = both_keep (session_moves w (read piece)) (moves_of w.layout piece) keep (subst KeepState (sym others) tt); others = others })

  -- there are moves of the one kind alone
  either : (session_moves w (read piece) ≡ []) ⊎ (moves_of w.layout piece ≡ [])
  either = ⊎_elim (λ none. inl none) (λ quiet. inr (ap (moves_asked w.layout) (quiet.1 (known_in w.layout)))) (adds w (read piece))

  module _ (valid : IsValidWorld w) where
    legal : AreLegal (moves_in grammar_parser w piece) w.layout
    legal = moves_legal w valid piece either

    -- **The state after them is that of the model's step,**
    pub world_state : state_of (steps.after w piece).layout ≡ (step (state_of w.layout) piece).state
    world_state =
        ⊎_elim (λ same. ap (λ (ms : List Move). state_of (after_moves ms w.layout)) same ∙ step_state_by grammar_parser w.layout piece valid.in_order)
        (λ quiet.
        moves_state (moves_in grammar_parser w piece) w.layout legal valid.in_order ∙ states_kept (moves_in grammar_parser w piece) (state_of w.layout) quiet.keep
        ∙ ap (λ (ms : List Move). state_of (after_moves ms w.layout)) (sym quiet.others) ∙ step_state_by grammar_parser w.layout piece valid.in_order)
        moves_are

    -- after the first of them it is that of these,
    pub front_state : (done rest : List Move) → moves_in grammar_parser w piece ≡ done ++ rest → state_of (after_moves done w.layout) ≡ states done (state_of w.layout)
    front_state done rest parts = moves_state done w.layout (legal_front done rest w.layout (subst (λ (ms : List Move). AreLegal ms w.layout) parts legal)) valid.in_order

    -- and the world after them is valid.
    pub world_valid : IsValidWorld (steps.after w piece)
    world_valid = after_valid w valid piece either
