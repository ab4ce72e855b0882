-- Parsed pieces, as the model's.
use Rattle.std.specs.Prelude.{◌≡◌, true}
use Rattle.sasi_model.specs.Refusals as model
use Rattle.sasi_model.specs.Refusals.{is_built}
use Rattle.sasi_model.specs.WellFormed.{IsWellFormed}
use Rattle.sasi_machine.specs.Refusal.{refusal_of}
use Rattle.sasi_machine.specs.declared.read.ParsedPiece.{ParsedPiece}
use Rattle.sasi_machine.specs.declared.read.ParsedPiece.TheVariants.{Nothing, Says, Bad}

-- the model's value of that name
abbrev pub model_piece : ParsedPiece → model.ParsedPiece
model_piece Nothing = model.Nothing
model_piece (Says statement) = model.Says statement
model_piece (Bad refusal) = model.Bad (refusal_of refusal)

-- a statement is well-formed and built
abbrev pub IsReadFrom : ParsedPiece → Type 0
IsReadFrom (Says statement) = IsWellFormed statement × (is_built statement ≡ true)
IsReadFrom _ = Unit {0}
