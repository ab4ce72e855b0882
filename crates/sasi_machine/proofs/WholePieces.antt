-- What a whole piece says.
use Rattle.std.proofs.Common.{◌≡◌, ℕ, Bool, true, false, List, [], ◌∷◌, refl}
use Rattle.std.specs.Str.{IsUtf8, is_utf8}
use Rattle.std.specs.Str.Lossy.{utf8_valid_len}
use Rattle.std.proofs.lemmas.Str.{IsUtf8-from_is_utf8, is_utf8-from_IsUtf8}
use Rattle.sasi_model.specs.Pieces.{Whole}
use Rattle.sasi_model.specs.Tokens.{same}
use Rattle.sasi_model.specs.Parsers.{Parsed, grammar_parser}
use Rattle.sasi_model.specs.Refusals.{Bad, piece_parsed, read, read_by}
use Rattle.sasi_model.specs.Abbreviations.{NotUtf8}

not_utf8 : (text : List ℕ) → ¬ (IsUtf8 text) → is_utf8 text ≡ false
not_utf8 text bad = by (is_utf8 text) refl
  where
    by : (b : Bool) → is_utf8 text ≡ b → b ≡ false
    by false is = refl
    by true is = absurd (bad (IsUtf8-from_is_utf8 text is))

-- a piece that is no text
pub read_bytes : (text : List ℕ) → same text (59 ∷ []) ≡ false → ¬ (IsUtf8 text) → Bad (NotUtf8 (utf8_valid_len text)) ≡ read (Whole text)
unfolding read_by
read_bytes text more bad = rw (more, not_utf8 text bad) refl

-- a piece that is a text, by what the parser gives for it
pub read_text : (text : List ℕ) (parsed : Parsed) → same text (59 ∷ []) ≡ false → IsUtf8 text → grammar_parser text ≡ parsed → piece_parsed parsed ≡ read (Whole text)
unfolding read_by
read_text text parsed more utf8 is = rw (more, is_utf8-from_IsUtf8 text utf8, is) refl
