-- What a piece makes of a world, whatever the world is beside a layout.
use Rattle.std.specs.Prelude.{◌≡◌, ℕ, List}
use Rattle.sasi_model.specs.Pieces.{Piece}
use Rattle.sasi_layout.specs.Layout.{Layout}
use Rattle.sasi_layout.specs.Moves.{Move, after_moves}

pub record Transitions (W : Type 0) : Type 0 where
  pub layout : W → Layout
  -- the moves of the layout
  pub moves : W → Piece → List Move
  pub after : W → Piece → W
  pub reply : W → Piece → List ℕ
  -- the layout afterwards is that after the moves
  pub layout_is : (w : W) (piece : Piece) → layout (after w piece) ≡ after_moves (moves w piece) (layout w)
