-- An item of a list of literals, and the literal that it packs.
use Rattle.std.specs.Prelude.{◌≡◌, [], ◌∷◌, length}
use Rattle.sasi_types.specs.declared.literal.Literal.{Literal}
use Rattle.sasi_types.specs.declared.packed_literal.PackedLiteral.{PackedLiteral}
use Rattle.sasi_types.specs.PackedLiterals.{text_bytes, others_in, unpacked, text_of, other_of}

-- the item packs the literal
pub record Packs (item : PackedLiteral) (l : Literal) : Type 0 where
  pub gives : unpacked (item ∷ []) (text_of l) (other_of item l) ≡ l ∷ []
  pub bytes : text_bytes (item ∷ []) ≡ length (text_of l)
  pub others : others_in (item ∷ []) ≡ length (other_of item l)
