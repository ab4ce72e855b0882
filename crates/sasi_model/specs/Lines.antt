-- The lines of replies. A text is printed in single quotes with its quotes doubled, a number in decimal, a uuid with hyphens
-- in lower case, and a missing value as null.
use Rattle.std.specs.Prelude.{ℕ, ◌==◌, if◌then◌else◌, codes, List, [], ◌∷◌, ◌++◌, length, Option}
use Rattle.std.specs.List.{flat_map, join_by}
use Rattle.std.specs.Option.{option_map_or}
use Rattle.std.specs.Fmt.{decimal, signed_decimal}
use Rattle.uuid.specs.Text.{hyphenated_text, lower}
use Rattle.sasi_types.specs.declared.value.Value.{Value}
use Rattle.sasi_types.specs.declared.value.Value.TheVariants.{Text, Int, BigInt, Uuid}
use Rattle.sasi_model.specs.Refusals.{Refusal}

abbrev pub line : List ℕ → List ℕ
line text = text ++ 10 ∷ []

-- ---- rows

-- a text in quotes, with each quote in it printed twice
abbrev pub value_printed : Value → List ℕ
value_printed (Text text) = 39 ∷ flat_map (λ b. if b == 39 then 39 ∷ 39 ∷ [] else b ∷ []) text ++ 39 ∷ []
value_printed (Int number) = signed_decimal number
value_printed (BigInt number) = signed_decimal number
value_printed (Uuid bytes) = hyphenated_text lower bytes

abbrev pub printed : Option Value → List ℕ
printed value = option_map_or value_printed value (codes "null")

-- a line for each row, its values with ` | ` between them, and a line with the number of rows
abbrev pub rows_lines : List (List (Option Value)) → List ℕ
rows_lines rows = flat_map (λ values. line (join_by printed (codes " | ") values)) rows ++ line (codes "(" ++ decimal (length rows) ++ codes " rows)")

-- ---- files

-- a line for each of these texts, and a line with their number
abbrev pub files_lines : List (List ℕ) → List ℕ
files_lines texts = flat_map line texts ++ line (codes "(" ++ decimal (length texts) ++ codes " files)")

-- ---- refusals

abbrev pub refusal_line : Refusal → List ℕ
refusal_line r = line (codes "error " ++ decimal r.0 ++ codes " " ++ r.1)
