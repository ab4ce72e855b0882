-- Byte strings that stand one after another, by their sizes.
use Rattle.std.specs.Prelude.{ℕ, ◌+◌, List, [], ◌∷◌, take, drop}

-- the bytes of strings of these sizes
abbrev pub total : List ℕ → ℕ
total [] = 0
total (size ∷ sizes) = size + total sizes

-- the strings of these sizes
abbrev pub cut : List ℕ → List ℕ → List (List ℕ)
cut [] bytes = []
cut (size ∷ sizes) bytes = take size bytes ∷ cut sizes (drop size bytes)
