-- A `%` at an end of a text, as the parts of the reader find it.
use Rattle.std.specs.Prelude.{◌≡◌, ℕ, false, List, [], ◌∷◌, ◌++◌, Option, None, Some}
use Rattle.std.specs.Borrow.{Bor}
use Rattle.sasi_terms.specs.Patterns.{begins_with_percent, ends_with_percent}

-- what follows the `%` at the beginning, or there is none
abbrev pub IsAfterPercent : List ℕ → Option (Bor (List ℕ)) → Type 0
IsAfterPercent text (Some rest) = text ≡ 37 ∷ rest.now
IsAfterPercent text None = begins_with_percent text ≡ false

-- what precedes the `%` at the end, or there is none
abbrev pub IsBeforePercent : List ℕ → Option (Bor (List ℕ)) → Type 0
IsBeforePercent text (Some body) = text ≡ body.now ++ 37 ∷ []
IsBeforePercent text None = ends_with_percent text ≡ false
