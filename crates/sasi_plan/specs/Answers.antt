-- The rows that a reader has still to give, and what they cost.
use Rattle.std.specs.Prelude.{◌≡◌, ℕ, zero, suc, ◌+◌, ◌≤◌, min, Bool, if◌then◌else◌, List, [], ◌∷◌, map, sum, Option, None, Some}
use Rattle.sasi_types.specs.declared.decorated_key.DecoratedKey.{DecoratedKey}
use Rattle.sasi_host.specs.Names.{Folder}
use Rattle.sasi_memindex.specs.Book.{Book}
use Rattle.sasi_model.specs.Cells.{Partition}
use Rattle.sasi_model.specs.Filters.{answers, where_of}
use Rattle.sasi_candidates.specs.Checks.{given, looked}
use Rattle.sasi_recheck.specs.Rows.{RecheckView, counted_on}
use Rattle.sasi_recheck.specs.Sources.{Candidate}

-- a row of the answer, before its columns are picked: its key, and what all parts have of it, merged
abbrev pub row_of : DecoratedKey × Partition → List ℕ × Partition
row_of e = (e.0.key, e.1)

-- ---- what is paid

-- What is paid of the prices of the candidates that are left and of the end: up to the last row that LIMIT allows, or all of it.
abbrev pub paid_of : {A : Type 0} → ℕ → (A → Bool) → List A → List ℕ → ℕ
paid_of zero test xs prices = 0
paid_of (suc n) test [] prices = sum prices
paid_of (suc n) test (x ∷ xs) [] = 0
paid_of (suc n) test (x ∷ xs) (price ∷ prices) = price + (if test x then paid_of n test xs prices else paid_of (suc n) test xs prices)

abbrev pub paid : {A : Type 0} → Option ℕ → (A → Bool) → List A → List ℕ → ℕ
paid None test xs prices = sum prices
paid (Some n) test xs prices = paid_of n test xs prices

-- the lesser of two numbers of rows, where None is no bound
abbrev pub lesser : Option ℕ → Option ℕ → Option ℕ
lesser None limit = limit
lesser (Some n) None = Some n
lesser (Some n) (Some m) = Some (min n m)

-- ---- a reader, by what its source of candidates has left

module _ {C : Type 0} (Leaves : C → Option Folder → Book → List Candidate → Type 0) where
  -- **The rows that are left**: those of the candidates that are left which the WHERE accepts, up to the LIMIT
  abbrev pub RowsLeft : RecheckView C → Option Folder → Book → List (List ℕ × Partition) → Type 0
  RowsLeft r files book rows = (left : List Candidate) × Leaves r.candidates files book left × (rows ≡ map row_of (given r.rows_left (answers (where_of r.filter)) left))

  -- so many candidates will have been looked at once all rows are given
  abbrev pub CountsTo : RecheckView C → Option Folder → Book → ℕ → Type 0
  CountsTo r files book count = (left : List Candidate) × Leaves r.candidates files book left × (count ≡ counted_on r.checked (looked r.rows_left (answers (where_of r.filter)) left))

  -- **Up to the last of the rows that are asked for**, or of those that LIMIT allows, at most so many reads are taken.
  abbrev pub ReadsUpTo : (C → Option Folder → Book → ℕ → List ℕ → Type 0) → RecheckView C → Option Folder → Book → Option ℕ → ℕ → Type 0
  ReadsUpTo Pays r files book asked most =
      (left : List Candidate) × (many : ℕ) × (prices : List ℕ) × Leaves r.candidates files book left × Pays r.candidates files book many prices
      × (many + paid (lesser asked r.rows_left) (answers (where_of r.filter)) left prices ≤ most)

  -- all that is left takes at most so many reads
  abbrev pub ReadsLeft : (C → Option Folder → Book → ℕ → List ℕ → Type 0) → RecheckView C → Option Folder → Book → ℕ → Type 0
  ReadsLeft Pays r files book most = ReadsUpTo Pays r files book None most

-- ---- a call

-- the first of the rows is given, and the others are left; none is given exactly where there is none
abbrev pub GivesNext : (List (List ℕ × Partition) → Type 0) → List (List ℕ × Partition) → Option (List ℕ × Partition) → Type 0
GivesNext Left rows None = (rows ≡ []) × Left []
GivesNext Left rows (Some row) = (others : List (List ℕ × Partition)) × (rows ≡ row ∷ others) × Left others
