-- A reader that looks at candidates one after another, and gives the rows that pass.
use Rattle.std.specs.Prelude.{◌≡◌, ◌⊎◌, ℕ, zero, suc, ◌+◌, ◌≤◌, ◌<◌, Bool, true, false, if◌then◌else◌, List, [], ◌∷◌, ◌++◌, length, Option, None, Some}
use Rattle.std.specs.List.{AllByRecursion}
use Rattle.sasi_model.specs.Filters.{Allows}

-- the candidates that are left after so many rows
abbrev pub left_after : {A : Type 0} → ℕ → (A → Bool) → List A → List A
left_after zero test xs = xs
left_after (suc n) test [] = []
left_after (suc n) test (x ∷ xs) = left_after (if test x then n else suc n) test xs

-- **A reader of all candidates has given so many rows and looked at so many candidates, and these are left.**
pub record IsAt {A : Type 0} (limit : Option ℕ) (test : A → Bool) (all : List A) (rows seen : ℕ) (left : List A) : Type 0 where
  pub left_is : left ≡ left_after rows test all
  pub counted : seen + length left ≡ length all
  pub allows : Allows limit rows

-- the next candidate that passes, after those that don't
pub record IsNext {A : Type 0} (test : A → Bool) (left : List A) (row : A) (rest : List A) : Type 0 where
  pub failed : List A
  pub fail : AllByRecursion (λ x. test x ≡ false) failed
  pub parts : left ≡ failed ++ row ∷ rest
  pub passes : test row ≡ true

-- no row is left, and so many candidates were looked at in all: none more, where there are as many rows as LIMIT allows, and else all that was left, which fails
abbrev pub IsOver : {A : Type 0} → (A → Bool) → Option ℕ → ℕ → ℕ → List A → ℕ → Type 0
IsOver test None rows seen left count = AllByRecursion (λ x. test x ≡ false) left × (count ≡ seen + length left)
IsOver test (Some limit) rows seen left count = ((rows ≡ limit) × (count ≡ seen)) ⊎ ((rows < limit) × AllByRecursion (λ x. test x ≡ false) left × (count ≡ seen + length left))
