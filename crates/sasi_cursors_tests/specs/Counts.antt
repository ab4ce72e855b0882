-- A session as a model has it, and beside it, by name, how many rows each cursor has left.
use Rattle.std.specs.Prelude.{◌≡◌, ℕ, List, [], drop, find, length}
use Rattle.std.specs.Option.{option_map_or}
use Rattle.sasi_cursors.specs.Agreement.{Agrees, changed, dropped, has_name}

-- the open cursors in their order, each a name and the rows that are left
abbrev pub Session : Type 0
Session = List (List ℕ × List ℕ)

-- each number is how many rows the session's cursor has left
abbrev pub Counts : List (List ℕ × ℕ) → Session → Type 0
Counts counts session = Agrees (λ cursor. cursor.0) (λ left cursor. left ≡ length cursor.1) counts session

-- the rows that the cursor of the name has left
abbrev pub rows_left : List ℕ → Session → List ℕ
rows_left name session = option_map_or (λ cursor. cursor.1) (find (has_name (λ cursor. cursor.0) name) session) []

-- the session once the cursor of the name has given so many rows
abbrev pub given_on : List ℕ → ℕ → Session → Session
given_on name count session = changed (λ cursor. cursor.0) name (λ cursor. (cursor.0, drop count cursor.1)) session

-- the session once the cursor of the name is closed
abbrev pub closed : List ℕ → Session → Session
closed name session = dropped (λ cursor. cursor.0) name session
