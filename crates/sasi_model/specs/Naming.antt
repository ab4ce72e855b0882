-- Names of tables and columns.
use Rattle.std.specs.Prelude.{◌≡◌, ℕ, ◌≤◌, true, List, length}
use Rattle.std.specs.List.{list_all}
use Rattle.sasi_model.specs.Tokens.{is_word_byte}

-- letters, digits and `_`
abbrev pub IsWord : List ℕ → Type 0
IsWord name = list_all is_word_byte name ≡ true

-- 1 to 48 of them
pub record IsName (name : List ℕ) : Type 0 where
  pub some : 1 ≤ length name
  pub short : length name ≤ 48
  pub word : IsWord name
