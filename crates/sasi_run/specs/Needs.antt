-- What pieces need of the store and of the analyzers: a number of each kind that they draw, and an analyzer of the class that they
-- ask for.
use Rattle.std.specs.Prelude.{◌≡◌, ℕ, List, [], ◌∷◌, Option, None, Some, ⊤}
use Rattle.sasi_types.specs.declared.class.Class.{Class}
use Rattle.sasi_model.specs.Asked.{asks, class_needed}
use Rattle.sasi_model.specs.Pieces.{Piece, all_pieces}
use Rattle.sasi_layout.specs.Classes.{HasNeeded, LacksNeeded}
use Rattle.sasi_layout.specs.declared.number_kind.NumberKind.{NumberKind}
use Rattle.sasi_layout.specs.Running.{after_pieces, replies_of}
use Rattle.sasi_layout.specs.Spent.{spent}
use Rattle.sasi_layout.specs.Statements.{known_in}
use Rattle.sasi_store.specs.Worlds.{World, steps}
use Rattle.sasi_run.specs.Headline.{IsFirstPart}
use Rattle.sasi_run.specs.declared.status.Status.{Status}
use Rattle.sasi_run.specs.declared.status.Status.TheVariants.{Done, Refused, AnalyzerMissing, NumbersSpent}

-- the class of analyzer that a piece needs in a world, if it needs one
abbrev pub class_asked : World → Piece → Option Class
class_asked w piece = class_needed (asks (known_in w.layout) piece)

-- an analyzer of the class that the piece needs is among these, and a number of each kind is left
pub record IsSupplied (kinds : List Class) (w : World) (piece : Piece) : Type 0 where
  pub analyzer : HasNeeded kinds (class_asked w piece)
  pub numbers : spent w.layout (steps.moves w piece) ≡ None

-- each of the pieces, run from the world, has what it needs
abbrev pub AreSupplied : List Class → World → List Piece → Type 0
AreSupplied kinds w [] = ⊤
AreSupplied kinds w (p ∷ ps) = IsSupplied kinds w p × AreSupplied kinds (steps.after w p) ps

-- the replies of these pieces were emitted, and the next one needs a number of this kind where the last one is used; no earlier piece does
pub record SpendsNumber (kinds : List Class) (kind : NumberKind) (w : World) (script read shown : List ℕ) : Type 0 where
  pub done : List Piece
  pub piece : Piece
  pub first : IsFirstPart script read done (piece ∷ [])
  pub replied : shown ≡ replies_of steps w done
  pub analyzer : HasNeeded kinds (class_asked (after_pieces steps w done) piece)
  pub spends : spent (after_pieces steps w done).layout (steps.moves (after_pieces steps w done) piece) ≡ Some kind
  pub earlier : AreSupplied kinds w done

-- the replies of these pieces were emitted, and the next one asks for an index that needs an analyzer of this class, which isn't there; no earlier piece does
pub record LacksAnalyzer (kinds : List Class) (class : Class) (w : World) (script read shown : List ℕ) : Type 0 where
  pub done : List Piece
  pub piece : Piece
  pub first : IsFirstPart script read done (piece ∷ [])
  pub replied : shown ≡ replies_of steps w done
  pub lacks : LacksNeeded kinds (asks (known_in (after_pieces steps w done).layout) piece) class
  pub earlier : AreSupplied kinds w done

-- which numbers and analyzers were there, by the status of the run
abbrev pub NeedsByStatus : List Class → Status → World → List ℕ → List ℕ → List ℕ → Type 0
NeedsByStatus kinds Done w script read shown = AreSupplied kinds w (all_pieces script)
NeedsByStatus kinds (Refused n) w script read shown = AreSupplied kinds w (all_pieces script)
NeedsByStatus kinds (NumbersSpent kind) w script read shown = SpendsNumber kinds kind w script read shown
NeedsByStatus kinds (AnalyzerMissing class) w script read shown = LacksAnalyzer kinds class w script read shown
NeedsByStatus kinds status w script read shown = Unit {0}
