-- Refusals by their numbers.
use Rattle.std.specs.Prelude.{ℕ, ◌==◌, List, [], ◌∷◌, ◌++◌, codes, Option, unwrap_or}
use Rattle.std.specs.Fmt.{decimal}
use Rattle.std.specs.Map.{lookup}
use Rattle.sasi_model.specs.Refusals.{Refusal, detail}

-- the numbers of the refusals that are built, each with its name
abbrev pub refusal_names : List (ℕ × List ℕ)
refusal_names =
    (1, codes "Syntax") ∷ (2, codes "StatementTooLong") ∷ (3, codes "NotUtf8") ∷ (4, codes "NoTable") ∷ (5, codes "TableExists") ∷ (6, codes "NoColumn")
    ∷ (7, codes "ColumnRepeated") ∷ (8, codes "WrongType") ∷ (9, codes "NumberRange") ∷ (10, codes "KeyMissing") ∷ (11, codes "KeyEmpty")
    ∷ (12, codes "ValueTooLong") ∷ (13, codes "IndexExists") ∷ (15, codes "BadOption") ∷ (16, codes "ModeType") ∷ (17, codes "OperatorUnsupported")
    ∷ (18, codes "LikeEmpty") ∷ (19, codes "NeedsFiltering") ∷ (20, codes "TimestampRange") ∷ (21, codes "ClockSpent") ∷ (22, codes "CursorExists") ∷ (23, codes "NoCursor") ∷ (24, codes "TooMany")
    ∷ (25, codes "Unfinished") ∷ (90, codes "NotBuilt") ∷ []

-- the name of the refusal with that number, where one is built
abbrev pub refusal_name : ℕ → Option (List ℕ)
refusal_name number = lookup (λ built. built == number) refusal_names

-- the refusal with a number and what stands after its name
abbrev pub refusal_followed : ℕ → List ℕ → Refusal
refusal_followed number rest = (number, unwrap_or (refusal_name number) [] ++ rest)

-- a space and the detail stand after the name, and nothing for an empty detail
abbrev pub refusal_with : ℕ → List ℕ → Refusal
refusal_with number text = refusal_followed number (detail text)

-- a space and a name, whatever it is
abbrev pub refusal_about : ℕ → List ℕ → Refusal
refusal_about number name = refusal_followed number (32 ∷ name)

-- an offset in the piece
abbrev pub refusal_at : ℕ → ℕ → Refusal
refusal_at number offset = refusal_followed number (codes " at " ++ decimal offset)
