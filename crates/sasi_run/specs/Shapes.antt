-- The headline, said of files: a run goes through layouts, of which the folder always has the shape of one; their states are
-- those of the model.
use Rattle.std.specs.Prelude.{◌≡◌, ◌⊎◌, ℕ, List, [], ◌∷◌, Option, Some}
use Rattle.sasi_types.specs.declared.partitioner.Partitioner.{Partitioner}
use Rattle.sasi_host.specs.View.{SourceView, View}
use Rattle.sasi_host.specs.Names.{Folder}
use Rattle.sasi_model.specs.Pieces.{Piece, all_pieces}
use Rattle.sasi_model.specs.State.{State}
use Rattle.sasi_model.specs.Parsers.{Parser, IsParser}
use Rattle.sasi_model.specs.Step.{state_by}
use Rattle.sasi_layout.specs.Kept.{HasExactly}
use Rattle.sasi_layout.specs.Layout.{Layout, bare, state_of}
use Rattle.sasi_layout.specs.Running.{Crashed, after_pieces}
use Rattle.sasi_layout.specs.Serving.{closed}
use Rattle.sasi_layout.specs.Shape.{IsOfShape, ShapeOf}
use Rattle.sasi_layout.specs.Transitions.{Transitions}
use Rattle.sasi_store.specs.Worlds.{new_world, steps_by}
use Rattle.sasi_run.specs.declared.status.Status.{Status}
use Rattle.sasi_run.specs.Headline.{RanToEnd, Runs, first_of, script_of}

-- A run on this host begins with this layout: its folder, as it reads, has that shape, and each image of it has some shape.
pub record StartsFromLayout (asked : Option Partitioner) (host : View) (l : Layout) : Type 0 where
  pub folder : Folder
  pub reads : host.files ≡ Some folder
  pub shape : ShapeOf asked folder l
  pub images : (image : Folder) → host.image image → (m : Layout) × ShapeOf asked image m

-- nothing was emitted, and the folder has the shape of an image of the start
pub record HasShapeOfImage (asked : Option Partitioner) (start : View) (before : List ℕ) (folder : Folder) (out : List ℕ) : Type 0 where
  pub nothing : out ≡ before
  pub image : Folder
  pub was : start.image image
  pub shape : Layout
  pub had : ShapeOf asked image shape
  pub has : ShapeOf asked folder shape

-- The folder that a crash leaves has the shape of the layout after some pieces and some first part of the moves of the next one, or that of an image of the start.
abbrev pub LeavesShape : Parser → Option Partitioner → View → Layout → List Piece → List ℕ → Folder → List ℕ → Type 0
LeavesShape parser asked start l pieces before folder out = HasShapeOfImage asked start before folder out ⊎ Crashed (steps_by parser) (new_world l) before pieces folder out

-- The folder as it reads has exactly the files of the layout, and each image of it has its shape, which stands for the state.
pub record StandsForEnd (v : View) (l : Layout) (s : State) : Type 0 where
  pub folder : Folder
  pub reads : v.files ≡ Some folder
  pub exactly : HasExactly l folder
  pub shape : IsOfShape (bare l) folder
  pub images : (image : Folder) → v.image image → IsOfShape (bare l) image
  pub state_is : state_of (bare l) ≡ s

-- the replies to pieces, run from a world, one to each
abbrev pub answers_of : {W : Type 0} → Transitions W → W → List Piece → List (List ℕ)
answers_of steps w [] = []
answers_of steps w (p ∷ ps) = steps.reply w p ∷ answers_of steps (steps.after w p) ps

-- **What is left, file by file.** At each moment since the start the folder that a crash leaves has the shape of the layout after the pieces whose replies were emitted and a first part of the moves of the next one. A run to the script's end leaves the layout after all of them, and no other file. What was emitted are the first of the replies that these layouts give, to the byte, as many as the status says.
pub record GoesThroughLayouts (parser : Parser) (asked : Option Partitioner) (status : Status) (l : Layout) (left_old left_new : Option (List ℕ)) (host_old host_new : View) : Type 0 where
  pub answers : List (List ℕ)
  pub runs : Runs parser (first_of answers) status (state_of l) left_old left_new host_old.emitted host_new.emitted
  pub replied : answers ≡ answers_of (steps_by parser) (new_world l) (all_pieces (script_of left_old runs.read))
  pub shapes : (before : List ℕ) → host_old.emitted ≡ Some before → (folder : Folder) (out : List ℕ) → host_new.left host_old.moment folder out
      → LeavesShape parser asked host_old l (all_pieces (script_of left_old runs.read)) before folder out
  pub ends : RanToEnd status → StandsForEnd host_new (closed (after_pieces (steps_by parser) (new_world l) (all_pieces (script_of left_old runs.read))).layout)
      (state_by parser (state_of l) (all_pieces (script_of left_old runs.read)))

-- the same run as in the headline, by the same parser of the grammar
pub record Shapes (asked : Option Partitioner) (status : Status) (script_old script_new : SourceView) (host_old host_new : View) : Type 0 where
  pub parser : Parser
  pub parses : IsParser parser
  pub shows : (l : Layout) → StartsFromLayout asked host_old l → GoesThroughLayouts parser asked status l script_old.left script_new.left host_old host_new
