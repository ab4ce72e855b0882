-- The maps in memory of a view, by their numbers.
use Rattle.std.specs.Prelude.{◌≡◌, ◌⊎◌, ℕ, List, [], ◌∷◌}

-- it is one of these numbers
abbrev pub IsOneOf : List ℕ → ℕ → Type 0
IsOneOf [] number = ⊥
IsOneOf (n ∷ ns) number = (number ≡ n) ⊎ IsOneOf ns number
