-- How many emits a reply takes.
use Rattle.std.specs.Prelude.{ℕ, List, [], ◌∷◌}
use Rattle.sasi_host.specs.View.{counted}

-- the count of emits after a reply: one more, or the same where the reply is empty
abbrev pub emits_after : ℕ → List ℕ → ℕ
emits_after emits [] = emits
emits_after emits (byte ∷ reply) = counted emits
