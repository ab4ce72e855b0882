-- A piece with an empty reply leaves the state.
use Rattle.std.proofs.Common.{◌≡◌, ℕ, List, [], ◌∷◌, ◌++◌, ◌∙◌, Option, Some, None, refl}
use Rattle.std.specs.Option.{option_map_or}
use Rattle.sasi_types.specs.declared.statement.Statement.{Statement}
use Rattle.sasi_types.specs.declared.statement.Statement.TheVariants.{CreateTable, CreateIndex, Insert, Update, Delete}
use Rattle.sasi_model.specs.Abbreviations.{execute_or}
use Rattle.sasi_model.specs.Pieces.{Piece}
use Rattle.sasi_model.specs.Parsers.{grammar_parser}
use Rattle.sasi_model.specs.Refusals.{ParsedPiece, Nothing, Says, Bad, Refusal, read, refusal}
use Rattle.sasi_model.specs.Sessions.{SessionState, cursor_refusal, refused_turn, taken_turn, turn_as, turn_by}
use Rattle.sasi_model.specs.State.{State}
use Rattle.sasi_model.specs.Step.{step, step_as, step_by}
use Rattle.sasi_layout.specs.Layout.{state_of}
use Rattle.sasi_store.specs.Worlds.{World, steps}
use Rattle.sasi_run.proofs.OpeningMoves.{world_state}
use Rattle.sasi_run.proofs.ValidWorlds.{IsValidWorld}

silent_or : (x : SessionState) (s : State) (statement : Statement) (r : Option Refusal)
    → (option_map_or (refused_turn x) r (option_map_or (refused_turn x) (cursor_refusal x statement) (taken_turn x s statement))).reply ≡ [] → (execute_or s statement r).state ≡ s
silent_or x s statement (Some r) none = refl
silent_or x s (CreateTable table columns keys) None none = cc
silent_or x s (CreateIndex name table column class options stepped) None none = cc
silent_or x s (Insert table columns values time) None none = cc
silent_or x s (Update table time sets key value) None none = cc
silent_or x s (Delete table columns time key value) None none = cc
silent_or x s statement None none = refl

silent_as : (x : SessionState) (s : State) (r : ParsedPiece) → (turn_as x s r).reply ≡ [] → (step_as s r).state ≡ s
silent_as x s Nothing none = refl
silent_as x s (Bad r) none = refl
silent_as x s (Says statement) none = silent_or x s statement (refusal s statement) none

silent_turn : (x : SessionState) (s : State) (piece : Piece) → (turn_by grammar_parser x s piece).reply ≡ [] → (step s piece).state ≡ s
unfolding turn_by step_by
silent_turn x s piece none = silent_as x s (read piece) none

empty_front : (xs ys : List ℕ) → xs ++ ys ≡ [] → xs ≡ []
empty_front [] ys empty = refl
empty_front (x ∷ xs) ys empty = cc

pub silent_piece : (w : World) (piece : Piece) → IsValidWorld w → steps.reply w piece ≡ [] → state_of (steps.after w piece).layout ≡ state_of w.layout
silent_piece w piece valid none = world_state w piece valid ∙ silent_turn w.session (state_of w.layout) piece (empty_front (turn_by grammar_parser w.session (state_of w.layout) piece).reply _ none)
