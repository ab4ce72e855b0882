-- What a crash leaves of layouts, told by the states for which their shapes stand: a first part of the moves of a piece leaves the
-- state before the piece, or the state after it.
use Rattle.std.proofs.Common.{◌≡◌, ◌⊎◌, ℕ, Bool, true, false, cond, List, [], ◌∷◌, ◌++◌, refl, sym, ◌∙◌, ap, subst, inl, inr, ⊎_elim, append_assoc}
use Rattle.std.proofs.lemmas.List.{append-nil}
use Rattle.sasi_host.specs.Names.{Folder}
use Rattle.sasi_model.specs.Asked.{Asked, NoChange, Creates, Defines, Writes, Flushes, asks}
use Rattle.sasi_model.specs.Parsers.{grammar_parser}
use Rattle.sasi_model.specs.Pieces.{Piece}
use Rattle.sasi_model.specs.State.{State}
use Rattle.sasi_layout.specs.Layout.{Layout, bare, state_of}
use Rattle.sasi_layout.specs.Moves.{Create, Define, Flush, Move, Put, after_moves, moved_state, states}
use Rattle.sasi_layout.specs.Running as running
use Rattle.sasi_layout.specs.Running.{IsBusy, IsMoving, IsQuiet, after_pieces, replies_of}
use Rattle.sasi_layout.specs.Shape.{IsOfShape, StandsSealed}
use Rattle.sasi_layout.specs.Statements.{known_in, moves_asked, moves_of}
use Rattle.sasi_layout.specs.NumbersInOrder.{HasNumbersInOrder}
use Rattle.sasi_layout.specs.Transitions.{Transitions}
use Rattle.sasi_store.specs.Worlds.{World, moves_in, steps}
use Rattle.sasi_layout.proofs.LayoutLaws.{bare_state}
use Rattle.sasi_layout.proofs.StatementLaws.{front_state_by}
use Rattle.sasi_run.proofs.OpeningMoves.{KeepState, front_state, moves_are, states_kept, world_valid}
use Rattle.sasi_run.proofs.ValidWorlds.{IsValidWorld}
use Rattle.sasi_run.proofs.SilentPieces.{silent_piece}

-- ---- moments by states, of worlds of any kind

-- the state of a world
abbrev pub state_in : {W : Type 0} → Transitions W → W → State
state_in t w = state_of (t.layout w)

-- these pieces were answered, and the folder stands for the state after them
pub record IsBetweenPieces {W : Type 0} (t : Transitions W) (w : W) (before : List ℕ) (done : List Piece) (folder : Folder) (out : List ℕ) : Type 0 where
  pub went : out ≡ before ++ replies_of t w done
  pub stands : StandsSealed folder (state_in t (after_pieces t w done))

-- the next piece is being answered, and the folder stands for the state after it: a first part of its reply was emitted
pub record IsAnswering {W : Type 0} (t : Transitions W) (w : W) (before : List ℕ) (done rest : List Piece) (folder : Folder) (out : List ℕ) : Type 0 where
  pub piece : Piece
  pub others : List Piece
  pub next : rest ≡ piece ∷ others
  pub front : List ℕ
  pub back : List ℕ
  pub parts : t.reply (after_pieces t w done) piece ≡ front ++ back
  pub went : out ≡ before ++ (replies_of t w done ++ front)
  pub stands : StandsSealed folder (state_in t (t.after (after_pieces t w done) piece))

-- what a crash leaves while these pieces are run, where this was emitted before
pub record Crashed {W : Type 0} (t : Transitions W) (w : W) (before : List ℕ) (pieces : List Piece) (folder : Folder) (out : List ℕ) : Type 0 where
  pub done : List Piece
  pub rest : List Piece
  pub parts : pieces ≡ done ++ rest
  pub stands : IsBetweenPieces t w before done folder out ⊎ IsAnswering t w before done rest folder out

-- ---- the moves of a piece

front_kept : (ms more : List Move) → KeepState (ms ++ more) → KeepState ms
front_kept [] more keep = tt
front_kept (m ∷ ms) more keep = (keep.0, front_kept ms more keep.1)

flush_keeps : (table : ℕ) (test : Bool) → KeepState (cond test (Flush table ∷ []) [])
flush_keeps table true = (refl, tt)
flush_keeps table false = tt

-- after a first part of the moves the state is that before them, or that after all
abbrev IsEither : Layout → List Move → List Move → Type 0
IsEither l ms done = (state_of (after_moves done l) ≡ state_of l) ⊎ (state_of (after_moves done l) ≡ state_of (after_moves ms l))

kept_either : (l : Layout) (ms done rest : List Move) → ms ≡ done ++ rest → KeepState ms → state_of (after_moves done l) ≡ states done (state_of l) → IsEither l ms done
kept_either l ms done rest parts keep front =
    inl (front ∙ states_kept done (state_of l) (front_kept done rest (subst (λ (k : List Move). KeepState k) parts keep)))

-- one move, and then such as leave the state
first_either : (l : Layout) (m : Move) (ms done rest : List Move) → m ∷ ms ≡ done ++ rest → KeepState ms → state_of (after_moves done l) ≡ states done (state_of l)
    → state_of (after_moves (m ∷ ms) l) ≡ states (m ∷ ms) (state_of l) → IsEither l (m ∷ ms) done
first_either l m ms [] rest parts keep front whole = inl refl
first_either l m ms (d ∷ done) rest parts keep front whole =
    let same : m ≡ d = cc in
    let behind : ms ≡ done ++ rest = cc in
    inr (
    front ∙ states_kept done (moved_state d (state_of l)) (front_kept done rest (subst (λ (k : List Move). KeepState k) behind keep))
    ∙ ap (λ (k : Move). moved_state k (state_of l)) (sym same) ∙ sym (states_kept ms (moved_state m (state_of l)) keep) ∙ sym whole)

either : (l : Layout) (asked : Asked) (done rest : List Move) → moves_asked l asked ≡ done ++ rest → state_of (after_moves done l) ≡ states done (state_of l)
    → state_of (after_moves (moves_asked l asked) l) ≡ states (moves_asked l asked) (state_of l) → IsEither l (moves_asked l asked) done
either l NoChange done rest parts front whole = kept_either l [] done rest parts tt front
either l (Creates d) done rest parts front whole = first_either l (Create d) [] done rest parts tt front whole
either l (Defines table index) done rest parts front whole = first_either l (Define table index) [] done rest parts tt front whole
either l (Writes table key change) done rest parts front whole = first_either l (Put _) _ done rest parts (flush_keeps table _) front whole
either l (Flushes table) done rest parts front whole = kept_either l _ done rest parts (flush_keeps table _) front

-- so it is with the moves of a piece in a layout
piece_either : (l : Layout) (piece : Piece) (done rest : List Move) → moves_of l piece ≡ done ++ rest → HasNumbersInOrder l → IsEither l (moves_of l piece) done
piece_either l piece done rest parts in_order =
    either l (asks (known_in l) piece) done rest parts (front_state_by grammar_parser l piece done rest parts in_order)
    (front_state_by grammar_parser l piece (moves_of l piece) [] (sym (append-nil (moves_of l piece))) in_order)

-- and in a world
pub world_either : (w : World) (piece : Piece) (done rest : List Move) → IsValidWorld w → moves_in grammar_parser w piece ≡ done ++ rest → IsEither w.layout (moves_in grammar_parser w piece) done
world_either w piece done rest valid parts =
    ⊎_elim (λ same. subst (λ (ms : List Move). IsEither w.layout ms done) (sym same) (piece_either w.layout piece done rest (sym same ∙ parts) valid.in_order))
    (λ quiet. kept_either w.layout (moves_in grammar_parser w piece) done rest parts quiet.keep (front_state w piece valid done rest parts)) (moves_are w piece)

-- ---- what moments rest on

-- After a first part of the moves of a piece the state is that before the piece, or that after it; and a piece with an empty reply leaves the state.
pub record StepsByState {W : Type 0} (t : Transitions W) : Type 1 where
  pub IsValid : W → Type 0
  pub valid : (w : W) (piece : Piece) → IsValid w → IsValid (t.after w piece)
  pub either : (w : W) (piece : Piece) (done rest : List Move) → IsValid w → t.moves w piece ≡ done ++ rest → IsEither (t.layout w) (t.moves w piece) done
  pub silent : (w : W) (piece : Piece) → IsValid w → t.reply w piece ≡ [] → state_in t (t.after w piece) ≡ state_in t w

-- so it is in the worlds of a run
abbrev pub by_state : StepsByState steps
by_state = record {
  IsValid = IsValidWorld;
  valid = λ w piece valid. world_valid w piece valid;
  either = world_either;
  silent = silent_piece;
}

-- ---- from layouts to states

of_shape : (l : Layout) (folder : Folder) (s : State) → IsOfShape (bare l) folder → state_of l ≡ s → StandsSealed folder s
of_shape l folder s shape is = record { shape = bare l; has = shape; state_is = sym (bare_state l ∙ is) }

module _ {W : Type 0} (t : Transitions W) (laws : StepsByState t) where
  pub valid_after : (ps : List Piece) (w : W) → laws.IsValid w → laws.IsValid (after_pieces t w ps)
  valid_after [] w valid = valid
  valid_after (p ∷ ps) w valid = valid_after ps (t.after w p) (laws.valid w p valid)

  module _ (w : W) (valid : laws.IsValid w) (before : List ℕ) (folder : Folder) (out : List ℕ) where
    quiet : (done : List Piece) → IsQuiet (t.layout (after_pieces t w done)) (before ++ replies_of t w done) folder out
        → IsBetweenPieces t w before done folder out
    quiet done is = record { went = is.went; stands = of_shape (t.layout (after_pieces t w done)) folder _ is.shape refl }

    module _ (done : List Piece) (piece : Piece) (others rest : List Piece) (next : rest ≡ piece ∷ others) where
      answering : (front back : List ℕ) → t.reply (after_pieces t w done) piece ≡ front ++ back → out ≡ (before ++ replies_of t w done) ++ front
          → IsOfShape (bare (t.layout (t.after (after_pieces t w done) piece))) folder → IsAnswering t w before done rest folder out
      answering front back parts went shape = record {
        piece = piece;
        others = others;
        next = next;
        front = front;
        back = back;
        parts = parts;
        went = went ∙ append_assoc before (replies_of t w done) front;
        stands = of_shape (t.layout (t.after (after_pieces t w done) piece)) folder _ shape refl;
      }

      moving : IsMoving (t.moves (after_pieces t w done) piece) (t.layout (after_pieces t w done)) (before ++ replies_of t w done) folder out
          → IsBetweenPieces t w before done folder out ⊎ IsAnswering t w before done rest folder out
      moving is =
          let m = after_pieces t w done in
          let l : Layout = t.layout m in
          let b = is.between in
          ⊎_elim
          (λ early. inl (record { went = is.went; stands = of_shape (after_moves b.done l) folder _ b.shape early }))
          (λ late. inr (record {
            piece = piece;
            others = others;
            next = next;
            front = [];
            back = t.reply m piece;
            parts = refl;
            went = is.went ∙ ap (λ (r : List ℕ). before ++ r) (sym (append-nil (replies_of t w done)));
            stands = of_shape (after_moves b.done l) folder _ b.shape (late ∙ ap state_of (sym (t.layout_is m piece)));
          }))
          (laws.either m piece b.done b.rest (valid_after done w valid) b.parts)

    busy : (done rest : List Piece) → IsBusy t (after_pieces t w done) (before ++ replies_of t w done) rest folder out
        → IsBetweenPieces t w before done folder out ⊎ IsAnswering t w before done rest folder out
    busy done rest is =
        ⊎_elim (λ m. moving done is.piece is.others rest is.next m)
        (λ answered. inr (answering done is.piece is.others rest is.next answered.front answered.back answered.parts answered.went answered.shape)) is.stands

    -- **what a crash leaves, by states**
    pub by_states : (pieces : List Piece) → running.Crashed t w before pieces folder out → Crashed t w before pieces folder out
    by_states pieces c = record {
      done = c.done;
      rest = c.rest;
      parts = c.parts;
      stands = ⊎_elim (λ q. inl (quiet c.done q)) (λ b. busy c.done c.rest b) c.stands;
    }
