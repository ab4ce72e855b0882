-- A script that ends: nothing that is left ends a piece.
use Rattle.std.specs.Prelude.{◌≡◌, ℕ, List, [], refl}
use Rattle.sasi_cql.specs.declared.mode.ScanMode.{ScanMode}
use Rattle.sasi_cql.specs.declared.mode.ScanMode.TheVariants.{Plain, Dash, Slash, Quote, QuotedName, Line, Block, Star}
use Rattle.sasi_cql.specs.declared.stage.PieceStage.{PieceStage}
use Rattle.sasi_cql.specs.declared.stage.PieceStage.TheVariants.{Front, Begun, Ended}
use Rattle.sasi_cql.specs.SplitterState.{SplitterState, front_pieces, pieces_at, resume}

-- nothing that is left ends a piece
pub resume_nothing : (s : SplitterState) → (resume s []).whole ≡ []
unfolding resume
resume_nothing s = nothing s.stage s.text s.size s.mode where
  front : (size : ℕ) (mode : ScanMode) → (front_pieces size mode []).whole ≡ []
  front size Plain = refl
  front size Dash = refl
  front size Slash = refl
  front size Quote = refl
  front size QuotedName = refl
  front size Line = refl
  front size Block = refl
  front size Star = refl

  nothing : (stage : PieceStage) (text : List ℕ) (size : ℕ) (mode : ScanMode) → (pieces_at stage text size mode []).whole ≡ []
  nothing Front text size mode = front size mode
  nothing Begun text size mode = refl
  nothing Ended text size mode = refl
