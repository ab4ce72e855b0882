-- What a crash leaves of a run of pieces. What a run goes through is a parameter, a world; a store in memory is another, and what it
-- serves is a world.
use Rattle.std.specs.Prelude.{◌≡◌, ◌⊎◌, ℕ, List, [], ◌∷◌, ◌++◌}
use Rattle.sasi_host.specs.Names.{Folder}
use Rattle.sasi_host.specs.View.{CrashLeaves, View}
use Rattle.sasi_model.specs.Pieces.{Piece}
use Rattle.sasi_layout.specs.Between.{Between}
use Rattle.sasi_layout.specs.Layout.{Layout, bare}
use Rattle.sasi_layout.specs.Moves.{Move}
use Rattle.sasi_layout.specs.Shape.{IsOfShape}
use Rattle.sasi_layout.specs.Transitions.{Transitions}

-- the world after pieces
abbrev pub after_pieces : {W : Type 0} → Transitions W → W → List Piece → W
after_pieces s w [] = w
after_pieces s w (p ∷ ps) = after_pieces s (s.after w p) ps

-- their replies, joined
abbrev pub replies_of : {W : Type 0} → Transitions W → W → List Piece → List ℕ
replies_of s w [] = []
replies_of s w (p ∷ ps) = s.reply w p ++ replies_of s (s.after w p) ps

-- ---- moments

-- the folder has the layout's shape, and this was emitted
pub record IsQuiet (l : Layout) (shown : List ℕ) (folder : Folder) (out : List ℕ) : Type 0 where
  pub went : out ≡ shown
  pub shape : IsOfShape (bare l) folder

-- some first moves of the piece were made, and nothing of its reply was emitted
pub record IsMoving (moves : List Move) (l : Layout) (shown : List ℕ) (folder : Folder) (out : List ℕ) : Type 0 where
  pub went : out ≡ shown
  pub between : Between l moves folder

-- all its moves were made, and a first part of its reply was emitted
pub record IsAnswering (after : Layout) (reply shown : List ℕ) (folder : Folder) (out : List ℕ) : Type 0 where
  pub front : List ℕ
  pub back : List ℕ
  pub parts : reply ≡ front ++ back
  pub went : out ≡ shown ++ front
  pub shape : IsOfShape (bare after) folder

-- the next piece is being run
pub record IsBusy {W : Type 0} (s : Transitions W) (w : W) (shown : List ℕ) (rest : List Piece) (folder : Folder) (out : List ℕ) : Type 0 where
  pub piece : Piece
  pub others : List Piece
  pub next : rest ≡ piece ∷ others
  pub stands : IsMoving (s.moves w piece) (s.layout w) shown folder out ⊎ IsAnswering (s.layout (s.after w piece)) (s.reply w piece) shown folder out

-- What a crash leaves while these pieces are run from a world, where this was emitted before.
pub record Crashed {W : Type 0} (s : Transitions W) (w : W) (before : List ℕ) (pieces : List Piece) (folder : Folder) (out : List ℕ) : Type 0 where
  pub done : List Piece
  pub rest : List Piece
  pub parts : pieces ≡ done ++ rest
  pub stands : IsQuiet (s.layout (after_pieces s w done)) (before ++ replies_of s w done) folder out ⊎ IsBusy s (after_pieces s w done) (before ++ replies_of s w done) rest folder out

-- ---- parts of a run

-- a store of a type serves a world, and this was emitted
abbrev pub Serving : Type 0 → Type 0 → Type 1
Serving W S = View → S → W → List ℕ → Type 0

-- whichever world it serves before, it serves the world after the pieces, with their replies emitted
pub record ServesOn {W S : Type 0} (s : Transitions W) (IsServing : Serving W S) (a b : View) (old new : S) (pieces : List Piece) : Type 0 where
  pub on : (w : W) (out : List ℕ) → IsServing a old w out → IsServing b new (after_pieces s w pieces) (out ++ replies_of s w pieces)

-- and a crash meanwhile leaves no more than the pieces do
pub record LeavesPieces {W S : Type 0} (s : Transitions W) (IsServing : Serving W S) (a b : View) (store : S) (pieces : List Piece) : Type 0 where
  pub leaves : (w : W) (out : List ℕ) → IsServing a store w out → CrashLeaves a b (Crashed s w out pieces)
