-- Candidates are looked at one after another, until LIMIT rows are given.
use Rattle.std.specs.Prelude.{ℕ, zero, suc, Bool, if◌then◌else◌, List, [], ◌∷◌, length, Option, None, Some}
use Rattle.std.specs.List.{filter}
use Rattle.std.specs.FinMap as map_
use Rattle.sasi_types.specs.declared.decorated_key.DecoratedKey.{DecoratedKey}
use Rattle.sasi_model.specs.Abbreviations.{Partitions}
use Rattle.sasi_model.specs.Cells.{Partition}
use Rattle.sasi_model.specs.Filters.{Filter, answers, rows_up_to}
use Rattle.sasi_candidates.specs.Candidates.{candidates}
use Rattle.sasi_candidates.specs.Parts.{Part}

-- ---- the answer

-- **The rows of the answer** over one map, before their columns are chosen.
abbrev pub rows : Option ℕ → Filter → Partitions → List (DecoratedKey × Partition)
rows limit f m = rows_up_to limit f (map_.entries m)

-- ---- candidates, one after another

-- the rows that pass, up to so many of them
abbrev pub given_of : {A : Type 0} → ℕ → (A → Bool) → List A → List A
given_of zero test xs = []
given_of (suc n) test [] = []
given_of (suc n) test (x ∷ xs) = if test x then x ∷ given_of n test xs else given_of (suc n) test xs

-- the rows that are given of the candidates
abbrev pub given : {A : Type 0} → Option ℕ → (A → Bool) → List A → List A
given None test xs = filter test xs
given (Some n) test xs = given_of n test xs

-- how many candidates are looked at for so many rows
abbrev pub looked_of : {A : Type 0} → ℕ → (A → Bool) → List A → ℕ
looked_of zero test xs = 0
looked_of (suc n) test [] = 0
looked_of (suc n) test (x ∷ xs) = suc (if test x then looked_of n test xs else looked_of (suc n) test xs)

-- how many are looked at: all of them, or those up to the last row that LIMIT allows
abbrev pub looked : {A : Type 0} → Option ℕ → (A → Bool) → List A → ℕ
looked None test xs = length xs
looked (Some n) test xs = looked_of n test xs

-- **How many candidates are checked** for the answer.
abbrev pub checked : Option ℕ → Filter → List Part → ℕ
checked limit f parts = looked limit (answers f) (candidates parts f)
