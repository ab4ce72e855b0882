-- The rows that are left of candidates.
use Rattle.std.specs.Prelude.{◌≡◌, ℕ, zero, suc, ◌-◌, Bool, true, false, if◌then◌else◌, List, [], ◌∷◌, ◌++◌, Option, None, Some}
use Rattle.std.specs.List.{AllByRecursion}
use Rattle.std.specs.Option.{option_map}
use Rattle.sasi_types.specs.declared.class.Class.{Class}
use Rattle.sasi_host.specs.View.{counted}
use Rattle.sasi_model.specs.Cells.{Partition}
use Rattle.sasi_model.specs.Conditions.{Condition}
use Rattle.sasi_machine.specs.Classes.{WhereLacks}
use Rattle.sasi_recheck.specs.Sources.{Candidate}

-- what contracts see of candidates that are rechecked
pub record RecheckView (C : Type 0) : Type 0 where
  pub candidates : C
  -- the conditions, all of which a row has to meet
  pub filter : List Condition
  -- how many rows are still allowed, where there is a LIMIT
  pub rows_left : Option ℕ
  -- how many candidates were checked
  pub checked : ℕ

-- ---- which row is next

-- the first candidate that passes is given, after those that don't
pub record IsFirstRow (test : Candidate → Bool) (Left : List Candidate → Type 0) (left : List Candidate) (row : List ℕ × Partition) : Type 0 where
  pub failed : List Candidate
  pub fail : AllByRecursion (λ x. test x ≡ false) failed
  pub entry : Candidate
  pub passes : test entry ≡ true
  pub rest : List Candidate
  pub parts : left ≡ failed ++ entry ∷ rest
  pub key_is : entry.0.key ≡ row.0
  pub part_is : entry.1 ≡ row.1
  pub others : Left rest

-- none is given exactly where none passes
abbrev pub GivesRow : (Candidate → Bool) → (List Candidate → Type 0) → List Candidate → Option (List ℕ × Partition) → Type 0
GivesRow test Left left None = AllByRecursion (λ x. test x ≡ false) left × Left []
GivesRow test Left left (Some row) = IsFirstRow test Left left row

-- **The next row**, where so many are still allowed: where none is, none is given and no candidate is looked at.
abbrev pub GivesAllowed : Option ℕ → (Candidate → Bool) → (List Candidate → Type 0) → List Candidate → Option (List ℕ × Partition) → Type 0
GivesAllowed (Some zero) test Left left found = (found ≡ None) × Left left
GivesAllowed limit test Left left found = GivesRow test Left left found

-- after a row one fewer is allowed
abbrev pub allowed_after : Option ℕ → Option (List ℕ × Partition) → Option ℕ
allowed_after limit None = limit
allowed_after limit (Some row) = option_map (λ n. n - 1) limit

-- ---- how many candidates are looked at

-- those up to the first one that passes, or all
abbrev pub looked_to : (Candidate → Bool) → List Candidate → ℕ
looked_to test [] = 0
looked_to test (x ∷ xs) = if test x then 1 else suc (looked_to test xs)

abbrev pub looked_in : Option ℕ → (Candidate → Bool) → List Candidate → ℕ
looked_in (Some zero) test left = 0
looked_in limit test left = looked_to test left

-- and with the end, where none passes
abbrev pub asked_to : (Candidate → Bool) → List Candidate → ℕ
asked_to test [] = 1
asked_to test (x ∷ xs) = if test x then 1 else suc (asked_to test xs)

abbrev pub asked_in : Option ℕ → (Candidate → Bool) → List Candidate → ℕ
asked_in (Some zero) test left = 0
asked_in limit test left = asked_to test left

-- so many more were counted; the count stays at 2^64 - 1
abbrev pub counted_on : ℕ → ℕ → ℕ
counted_on count zero = count
counted_on count (suc n) = counted (counted_on count n)

-- ---- analyzers

-- an analyzer is there for each condition that needs one
abbrev pub KnowsWhere : List Class → List Condition → Type 0
KnowsWhere kinds conditions = (class : Class) → WhereLacks kinds conditions class → ⊥
