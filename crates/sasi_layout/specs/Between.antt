-- What a crash leaves of moves that are made one after another.
use Rattle.std.specs.Prelude.{◌≡◌, List, ◌++◌}
use Rattle.sasi_cells.specs.declared.mutation.Mutation.{Mutation}
use Rattle.sasi_host.specs.Disk.{Changes, Each}
use Rattle.sasi_host.specs.Names.{Folder}
use Rattle.sasi_host.specs.View.{View}
use Rattle.sasi_layout.specs.Layout.{Layout, bare}
use Rattle.sasi_layout.specs.Moves.{Move, after_moves}
use Rattle.sasi_layout.specs.Shape.{HasShape, IsOfShape}

-- The folder has the shape of the layout after some first part of the moves.
pub record Between (l : Layout) (moves : List Move) (folder : Folder) : Type 0 where
  pub done : List Move
  pub rest : List Move
  pub parts : moves ≡ done ++ rest
  pub shape : IsOfShape (bare (after_moves done l)) folder

-- The moves were made from one moment to a later one: a crash meanwhile leaves what is between them, and afterwards each image has the shape after them, where the live segments have these mutations.
pub record Makes (l : Layout) (moves : List Move) (logs : List (List Mutation)) (a b : View) : Type 0 where
  pub between : Changes (λ x y. Between l moves y) a b
  pub shape : Each b (λ x. HasShape x (bare (after_moves moves l)) logs)
