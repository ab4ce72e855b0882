-- A reader of fields, and what a read does to it.
use Rattle.std.specs.Prelude.{◌≡◌, ◌<◌, ℕ, List, ◌++◌}

pub record Reading : Type 0 where
  -- the bytes that were read
  pub done : List ℕ
  -- the bytes that are left
  pub left : List ℕ

-- the reader has read these bytes, which stood next, and no others
pub record ReadsField (field : List ℕ) (old new : Reading) : Type 0 where
  pub next : old.left ≡ field ++ new.left
  pub done : new.done ≡ old.done ++ field

-- a number below this limit that was put next is read back, and what was put behind it is left
abbrev pub RoundTrips : ℕ → (ℕ → List ℕ) → ℕ → Reading → Reading → Type 0
RoundTrips limit put number old new = (n : ℕ) (rest : List ℕ) → n < limit → old.left ≡ put n ++ rest → (number ≡ n) × (new.left ≡ rest)
