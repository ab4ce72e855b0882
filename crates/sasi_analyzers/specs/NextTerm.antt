-- How an analyzer gives the terms of a text one after another.
use Rattle.std.specs.Prelude.{◌≡◌, ℕ, Bool, true, false, List, [], ◌∷◌}

-- the first of the terms was given and the others are left, or there was none
abbrev pub GivesTerm : List (List ℕ) → List (List ℕ) → List ℕ → Bool → Type 0
GivesTerm old new out true = old ≡ out ∷ new
GivesTerm old new out false = (old ≡ []) × (new ≡ []) × (out ≡ [])
