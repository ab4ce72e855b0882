-- The terms of a text.
use Rattle.std.specs.Prelude.{◌+◌, ℕ, Bool, true, false, ◌&&◌, nat_le, if◌then◌else◌, List, [], ◌∷◌, map}
use Rattle.unicode_segmentation.specs.Word.{words}
use Rattle.sasi_types.specs.declared.rule.Rule.{Rule}
use Rattle.sasi_types.specs.declared.rule.Rule.TheVariants.{Whole, Words}

-- A to Z become a to z
abbrev pub fold_byte : ℕ → ℕ
fold_byte b = if nat_le 65 b && nat_le b 90 then b + 32 else b

abbrev pub folded : Bool → List ℕ → List ℕ
folded false text = text
folded true text = map fold_byte text

-- the text alone, or its words: the pieces between the word boundaries of Unicode that have a letter or a number
abbrev pub terms : Rule → List ℕ → List (List ℕ)
terms (Whole fold) text = folded fold text ∷ []
terms (Words fold) text = map (folded fold) (words text)
