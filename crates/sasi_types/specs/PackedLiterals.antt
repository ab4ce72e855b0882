-- Literals in a list of small items, beside which the bytes of their texts and the other literals stand in two lists of their own.
use Rattle.std.specs.Prelude.{ℕ, suc, ◌+◌, List, [], ◌∷◌, take, drop}
use Rattle.sasi_types.specs.declared.literal.Literal.{Literal}
use Rattle.sasi_types.specs.declared.literal.Literal.TheVariants as literal
use Rattle.sasi_types.specs.declared.literal.Number.TheVariants as number
use Rattle.sasi_types.specs.declared.packed_literal.PackedLiteral.{PackedLiteral}
use Rattle.sasi_types.specs.declared.packed_literal.PackedLiteral.TheVariants as packed

-- the bytes of the texts
abbrev pub text_bytes : List PackedLiteral → ℕ
text_bytes [] = 0
text_bytes (packed.Null ∷ items) = text_bytes items
text_bytes (packed.Int n ∷ items) = text_bytes items
text_bytes (packed.Text size ∷ items) = size + text_bytes items
text_bytes (packed.Other ∷ items) = text_bytes items

-- the number of literals that are kept in the other list
abbrev pub others_in : List PackedLiteral → ℕ
others_in [] = 0
others_in (packed.Null ∷ items) = others_in items
others_in (packed.Int n ∷ items) = others_in items
others_in (packed.Text size ∷ items) = others_in items
others_in (packed.Other ∷ items) = suc (others_in items)

-- the literals
abbrev pub unpacked : List PackedLiteral → List ℕ → List Literal → List Literal
unpacked [] bytes others = []
unpacked (packed.Null ∷ items) bytes others = literal.Null ∷ unpacked items bytes others
unpacked (packed.Int n ∷ items) bytes others = literal.Number (number.Fits n) ∷ unpacked items bytes others
unpacked (packed.Text size ∷ items) bytes others = literal.Text (take size bytes) ∷ unpacked items (drop size bytes) others
unpacked (packed.Other ∷ items) bytes [] = []
unpacked (packed.Other ∷ items) bytes (other ∷ others) = other ∷ unpacked items bytes others

-- what a literal adds to the bytes
abbrev pub text_of : Literal → List ℕ
text_of literal.Null = []
text_of (literal.Number n) = []
text_of (literal.Text text) = text
text_of (literal.Uuid bytes) = []

-- what it adds to the others
abbrev pub other_of : PackedLiteral → Literal → List Literal
other_of packed.Null l = []
other_of (packed.Int n) l = []
other_of (packed.Text size) l = []
other_of packed.Other l = l ∷ []
